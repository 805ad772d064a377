use Rattle.std.proofs.Common.{◌≡◌, ◌<◌, ◌++◌, ◌∷◌, [], Some, length, arith, sym, ap, ap₂, subst, ◌∙◌}
use Rattle.std.specs.Prelude.{slice_get}
use Rattle.std.proofs.lemmas.Grind.{common_steps}
use Rattle.std.proofs.lemmas.List.Sums.{sum_by_push}
use Rattle.hog_library.specs.Cells.{cost_of_item, cost_of_items}
use Rattle.hog_library.proofs.Keys.{keys_more, keys_cost}
use Rattle.hog_library.proofs.list_natives.key_texts.Goals as goal

pub returns-in_err-left-clause-spent : goal.returns-in_err-left-clause-spent
returns-in_err-left-clause-spent c =
    let ps = c.args.pairs.now in
    let key = c.in-Some.key.now in
    let v = c.in-Some.field-0-1.now in
    let at : slice_get ps c.loop-i.i ≡ Some (key, v) =
    subst (λ es. slice_get es c.loop-i.i ≡ Some (key, v)) c.map-in-loop-i.ensures.pairs (sym c.in-Some.ensures.entry) in
    let cost = keys_cost ps c.loop-i.i key v at in
    let so_far = ap cost_of_items c.loop-i.invariant.so_far in
    let text = ap length c.as_str.ensures in
    λ is.
    let short : c.loop-i.left < cost_of_item c.as_str.result.now = grind (arith, common_steps, c.add_item.ensures.spent) in
    omega (arith, cost, so_far, text, short, c.loop-i.invariant.left)

pub loop-i-preserved : goal.loop-i-preserved
loop-i-preserved c =
    let ps = c.args.pairs.now in
    let key = c.in-Some.key.now in
    let v = c.in-Some.field-0-1.now in
    let at : slice_get ps c.loop-i.i ≡ Some (key, v) =
    subst (λ es. slice_get es c.loop-i.i ≡ Some (key, v)) c.map-in-loop-i.ensures.pairs (sym c.in-Some.ensures.entry) in
    let total = ap cost_of_items c.in_ok-left.ensures.ok ∙ sum_by_push cost_of_item c.loop-i.made.items c.as_str.result.now in
    record {
      so_far = c.in_ok-left.ensures.ok ∙ ap₂ (λ ks k. ks ++ k ∷ []) c.loop-i.invariant.so_far c.as_str.ensures ∙ sym (keys_more ps c.loop-i.i key v at);
      left = omega (arith, total, c.in_ok-left.ensures.left, c.loop-i.invariant.left);
    }
