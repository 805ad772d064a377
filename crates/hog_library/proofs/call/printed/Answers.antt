use Rattle.std.proofs.Common.{◌<◌, ◌≤◌, ◌++◌, length, get_or, arith, string_bytes}
use Rattle.std.specs.Prelude.{codes}
use Rattle.std.proofs.lemmas.Grind.{common_steps}
use Rattle.hog_value.specs.declared.value.Value.TheVariants.{Null}
use Rattle.hog_json.specs.Texts.{shown}
use Rattle.hog_library.proofs.Prints.{longer_in_end}
use Rattle.hog_library.proofs.call.printed.Goals as goal

pub returns-in_err-put_spaced-clause-spent : goal.returns-in_err-put_spaced-clause-spent
returns-in_err-put_spaced-clause-spent c =
    let i = c.loop-i.i in
    let made = string_bytes c.loop-i.made in
    let more = codes " " ++ shown c.args.heap.now (get_or c.args.args.now i Null) in
    let some : 1 ≤ i = omega arith in
    λ is.
    let long : c.args.units < length (made ++ more) = grind (arith, common_steps, c.put_spaced.ensures.spent) in
    longer_in_end (shown c.args.heap.now) (codes " ") c.args.args.now i Null made c.args.units some c.loop-i-test.true c.loop-i.invariant.so_far long
