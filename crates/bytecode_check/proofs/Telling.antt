-- What the running pass tells.
use Rattle.std.proofs.Common.{◌≡◌, ◌≤◌, ℕ, zero, suc, ◌+◌, ◌-◌, ◌<◌, List, [], ◌∷◌, length, drop, get_or, Bool, true, false, cond, Some, refl, sym, ap, ◌∙◌, subst, arith}
use Rattle.std.specs.Prelude.{◌==◌, Result, Ok, Err}
use Rattle.hog_ops.specs.declared.operation.Op.{Op}
use Rattle.hog_ops.specs.Plain.{Ops}
use Rattle.hog_ops.specs.Table.{size, span}
use Rattle.hog_ops.specs.View.{op_of, ops_of}
use Rattle.bytecode_check.specs.declared.shapes.FrameShape.{FrameShape}
use Rattle.bytecode_check.specs.declared.stops.VerifyStop.{VerifyStop}
use Rattle.bytecode_check.specs.declared.stops.VerifyStop.TheVariants.{ShapesDiffer}
use Rattle.bytecode_check.specs.Shape.{open_try, shaped, Shapes, shape_at, given}
use Rattle.bytecode_check.specs.Effects.{Lead}
use Rattle.bytecode_check.specs.Noted.{tries_over, tries_in, seen, IsKnown, Grows, give_one, begun_alone}
use Rattle.bytecode_check.specs.Verdict.{Told}
use Rattle.bytecode_check.specs.Verify.{may_get, give_all, and_then}
use Rattle.bytecode_check.proofs.Kept.{tries_stay}

-- places in order

abbrev ok : Shapes → Result Shapes VerifyStop
ok X = Ok X

ok_is : (X Y : Shapes) → ok X ≡ ok Y → X ≡ Y
ok_is X Y e = cc

gave : (at : ℕ) (l : Lead) (ls : List Lead) (S T : Shapes) → give_one at l S ≡ Ok T → give_all at ls T ≡ give_all at (l ∷ ls) S
gave at l ls S T e = go (may_get at S l) e
  where
    go : (b : Bool) → cond b (Ok (given S l.0 l.1)) (Err (ShapesDiffer at)) ≡ Ok T → give_all at ls T ≡ cond b (give_all at ls (given S l.0 l.1)) (Err (ShapesDiffer at))
    go true h = ap (give_all at ls) (sym (ok_is (given S l.0 l.1) T h))
    go false h = absurd cc

pub tells_two : {A : Type 0} (r : Result A VerifyStop) (at one two : ℕ) (f : FrameShape) (S T new : Shapes) → IsKnown S f.within → Grows S T
    → give_one at (one, seen S f) S ≡ Ok T → Told r new (give_one at (two, seen T f) T)
    → Told r new (give_all at ((one, seen S f) ∷ (two, seen S f) ∷ []) S)
tells_two r at one two f S T new k g e h =
    let same : seen T f ≡ seen S f = ap (shaped f.depth) (tries_stay S T f.within g k) in
    subst (Told r new) (gave at (one, seen S f) ((two, seen S f) ∷ []) S T e) (subst (λ s. Told r new (give_one at (two, s) T)) same h)

-- a try's two places
tells_opened : {A : Type 0} (r : Result A VerifyStop) (at behind catch : ℕ) (f : FrameShape) (S T new : Shapes) → IsKnown S f.within → Grows S T
    → shape_at T catch ≡ Some (shaped (suc f.depth) (tries_in S f.within))
    → give_one at (catch, shaped (suc f.depth) (tries_in S f.within)) S ≡ Ok T
    → Told r new (give_one at (behind, shaped f.depth (tries_in T (Some catch))) T)
    → Told r new (give_all at ((catch, shaped (suc f.depth) (tries_in S f.within)) ∷ (behind, shaped f.depth (open_try f.depth catch ∷ tries_in S f.within)) ∷ []) S)
tells_opened r at behind catch f S T new k g there e h =
    let less : suc f.depth - 1 ≡ f.depth = omega arith in
    let opened : tries_in T (Some catch) ≡ open_try f.depth catch ∷ tries_in S f.within =
    ap (tries_over catch) there ∙ ap (λ d. open_try d catch ∷ tries_in S f.within) less in
    subst (Told r new)
    (gave at (catch, shaped (suc f.depth) (tries_in S f.within)) ((behind, shaped f.depth (open_try f.depth catch ∷ tries_in S f.within)) ∷ []) S T e)
    (subst (λ ts. Told r new (give_one at (behind, shaped f.depth ts) T)) opened h)

pub tells_try : {A : Type 0} (r : Result A VerifyStop) (at behind catch m : ℕ) (f : FrameShape) (S T new : Shapes) → m ≡ suc f.depth → IsKnown S f.within → Grows S T
    → shape_at T catch ≡ Some (shaped m (tries_in S f.within))
    → give_one at (catch, shaped m (tries_in S f.within)) S ≡ Ok T
    → Told r new (give_one at (behind, shaped f.depth (tries_in T (Some catch))) T)
    → Told r new (give_all at ((catch, shaped (suc f.depth) (tries_in S f.within)) ∷ (behind, shaped f.depth (open_try f.depth catch ∷ tries_in S f.within)) ∷ []) S)
tells_try r at behind catch m f S T new is k g there e h =
    tells_opened r at behind catch f S T new k g
    (subst (λ n. shape_at T catch ≡ Some (shaped n (tries_in S f.within))) is there)
    (subst (λ n. give_one at (catch, shaped n (tries_in S f.within)) S ≡ Ok T) is e) h

-- a body's operations

span_at : (xs : List Op) (i : ℕ) (x : Op) → i < length xs → x ≡ get_or xs i x → span (ops_of (drop i xs)) ≡ size (op_of x) + span (ops_of (drop (suc i) xs))
span_at [] i x h at = absurd (omega arith)
span_at (y ∷ xs) zero x h at = omega (arith, ap (λ o. size (op_of o)) at)
span_at (y ∷ xs) (suc i) x h at = span_at xs i x (omega arith) at

span_drop : (xs : List Op) (i : ℕ) → span (ops_of (drop i xs)) ≤ span (ops_of xs)
span_drop [] zero = omega arith
span_drop [] (suc i) = omega arith
span_drop (x ∷ xs) zero = omega arith
span_drop (x ∷ xs) (suc i) = omega (arith, span_drop xs i)

-- the next operation takes no more than is left
pub next_within : (xs : List Op) (i : ℕ) (x : Op) → i < length xs → x ≡ get_or xs i x → size (op_of x) ≤ span (ops_of (drop i xs))
next_within xs i x h at = omega (arith, span_at xs i x h at)

pub left_within : (xs : List Op) (i : ℕ) → span (ops_of (drop i xs)) ≤ span (ops_of xs)
left_within xs i = span_drop xs i

-- a body's beginning

and_ok : (r : Result Shapes VerifyStop) → and_then r (λ s. Ok s) ≡ r
and_ok (Ok s) = refl
and_ok (Err e) = refl

begun_is : (at start params : ℕ) (body : Ops) (S : Shapes) (xs : List Op) → ops_of xs ≡ body → (length xs == 0) ≡ false → begun_alone at body start params S ≡ give_one at (start, shaped params []) S
begun_is at start params body S [] e n = absurd cc
begun_is at start params body S (x ∷ xs) e n = ap (λ b. begun_alone at b start params S) (sym e) ∙ and_ok (give_one at (start, shaped params []) S)

pub tells_begun : {A : Type 0} (r : Result A VerifyStop) (at start params : ℕ) (body : Ops) (S new : Shapes) (xs : List Op) → ops_of xs ≡ body → (length xs == 0) ≡ false → Told r new (give_one at (start, shaped params []) S) → Told r new (begun_alone at body start params S)
tells_begun r at start params body S new xs e n h = subst (Told r new) (sym (begun_is at start params body S xs e n)) h
