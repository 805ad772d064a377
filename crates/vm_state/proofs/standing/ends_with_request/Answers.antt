use Rattle.std.proofs.Common.{◌≡◌, suc, ◌-◌, List, [], ◌∷◌, length, Some, ap, ◌∙◌, arith}
use Rattle.std.proofs.lemmas.Option.{same_Some}
use Rattle.std.specs.Prelude.{slice_get}
use Rattle.hog_value.specs.declared.trace.TraceItem.{TraceItem}
use Rattle.hog_meaning.specs.Meaning.{is_request}
use Rattle.vm_course.specs.States.{ends_with_request}
use Rattle.vm_state.proofs.standing.ends_with_request.Goals as goal

last_is : (xs : List TraceItem) (x : TraceItem) → Some x ≡ slice_get xs (length xs - 1) → is_request x ≡ ends_with_request xs
last_is [] x e = absurd cc
last_is (y ∷ []) x e = ap is_request (same_Some x y e)
last_is (y ∷ z ∷ xs) x e =
    let at : length (y ∷ z ∷ xs) - 1 ≡ suc (length (z ∷ xs) - 1) = omega arith in
    last_is (z ∷ xs) x (e ∙ ap (slice_get (y ∷ z ∷ xs)) at)

pub returns-in-Some : goal.returns-in-Some
returns-in-Some c = c.is_request.ensures ∙ last_is c.args.trace.now c.in-Some.item.now c.in-Some.ensures.value
