use Rattle.std.proofs.Common.{◌≡◌, Some, ◌++◌, ◌∷◌, [], sym, ap, subst, ◌∙◌}
use Rattle.std.specs.Prelude.{slice_get}
use Rattle.hog_library.proofs.Keys.{values_more}
use Rattle.hog_library.proofs.list_natives.pair_values.Goals as goal

pub loop-i-preserved : goal.loop-i-preserved
loop-i-preserved c =
    let ps = c.args.pairs.now in
    let v = c.in-Some.value.now in
    let key = c.in-Some.field-0-0.now in
    let at : slice_get ps c.loop-i.i ≡ Some (key, v) =
    subst (λ es. slice_get es c.loop-i.i ≡ Some (key, v)) c.map-in-loop-i.ensures.pairs (sym c.in-Some.ensures.entry) in
    c.in_ok-push.ensures.items
    ∙ ap (λ vs. vs ++ v ∷ []) c.loop-i.invariant
    ∙ sym (values_more ps c.loop-i.i key v at)
