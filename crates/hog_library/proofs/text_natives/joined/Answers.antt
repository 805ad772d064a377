use Rattle.std.proofs.Common.{◌<◌, ◌++◌, length, get_or, arith, ap, string_bytes, length-append}
use Rattle.std.proofs.lemmas.Grind.{common_steps}
use Rattle.std.proofs.lemmas.List.Folds.{length-flat_map-take}
use Rattle.hog_value.specs.declared.value.Value.TheVariants.{Null}
use Rattle.hog_library.specs.Natives.{concat_text}
use Rattle.hog_library.proofs.text_natives.joined.Goals as goal

pub returns-in_err-put_unless_null-clause-spent : goal.returns-in_err-put_unless_null-clause-spent
returns-in_err-put_unless_null-clause-spent c =
    let f = concat_text c.args.heap.now in
    let made = string_bytes c.loop-v.made in
    let more = f (get_or c.args.args.now c.loop-v.v-index Null) in
    let most = length-flat_map-take f c.args.args.now c.loop-v.v-index Null c.loop-v-test.true in
    λ is.
    let long : c.args.units < length (made ++ more) = grind (arith, common_steps, c.put_unless_null.ensures.spent) in
    omega (arith, most, ap length c.loop-v.invariant.so_far, length-append made more)
