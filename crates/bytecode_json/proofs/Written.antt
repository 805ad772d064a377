-- One more of what is written in order.
use Rattle.std.proofs.Common.{◌≡◌, ◌≤◌, ℕ, zero, suc, ◌+◌, ◌<◌, pos, List, [], ◌∷◌, ◌++◌, length, take, get_or, map, add-one, refl, sym, ap, ap₂, ◌∙◌, subst, arith, append_assoc, append-nil}
use Rattle.std.proofs.lemmas.List.{take_more, map-append}
use Rattle.std.specs.List.{AllByRecursion}
use Rattle.serde_json.specs.Data.{Data}
use Rattle.hog_ops.specs.declared.capture.Capture.{Capture}
use Rattle.hog_ops.specs.declared.operation.Op.{Op}
use Rattle.hog_ops.specs.Elements.{Elem, Whole, Flag, capture_elements, op_elements, elements}
use Rattle.hog_ops.proofs.Join.{elements-join}
use Rattle.hog_ops.specs.Plain.{NoOp, MoreOp}
use Rattle.hog_ops.specs.Ranges.{IsU32, CapturesFit, OpFits, OpsFit}
use Rattle.hog_ops.specs.Table.{size, span}
use Rattle.hog_ops.specs.View.{op_of, ops_of, ops_of-append}
use Rattle.bytecode_front.specs.Elements.{elem_data}

-- the captures so far, and this one
captures_push : (cs : List Capture) (c : Capture) → capture_elements (cs ++ c ∷ []) ≡ capture_elements cs ++ Flag c.local ∷ Whole (pos c.index) ∷ []
captures_push [] c = refl
captures_push (x ∷ cs) c = ap (λ es. Flag x.local ∷ Whole (pos x.index) ∷ es) (captures_push cs c)

fit_push : (cs : List Capture) (c : Capture) → CapturesFit cs → IsU32 c.index → CapturesFit (cs ++ c ∷ [])
fit_push [] c h k = (k, tt)
fit_push (x ∷ cs) c h k = (h.0, fit_push cs c h.1 k)

taken : {A : Type 0} (xs : List A) (i : ℕ) (x : A) → i < length xs → x ≡ get_or xs i x → take (i + 1) xs ≡ take i xs ++ x ∷ []
taken xs i x h at = take_more xs i x h ∙ ap (λ y. take i xs ++ y ∷ []) (sym at)

pub captures_more : (xs : List Capture) (i : ℕ) (c : Capture) (old now new : List Data) → i < length xs → c ≡ get_or xs i c → now ≡ old ++ map elem_data (capture_elements (take i xs))
    → new ≡ now ++ map elem_data (capture_elements (c ∷ [])) → new ≡ old ++ map elem_data (capture_elements (take (i + 1) xs))
captures_more xs i c old now new h at e f =
    let before = map elem_data (capture_elements (take i xs)) in
    let this = map elem_data (capture_elements (c ∷ [])) in
    f ∙ ap (λ ds. ds ++ this) e ∙ append_assoc old before this
    ∙ ap (λ ds. old ++ ds) (sym (map-append elem_data (capture_elements (take i xs)) (capture_elements (c ∷ []))) ∙ ap (map elem_data) (sym (captures_push (take i xs) c) ∙ ap capture_elements (sym (taken xs i c h at))))

pub fit_more : (xs : List Capture) (i : ℕ) (c : Capture) → i < length xs → c ≡ get_or xs i c → CapturesFit (take i xs) → IsU32 c.index → CapturesFit (take (i + 1) xs)
fit_more xs i c h at fits k = subst CapturesFit (sym (taken xs i c h at)) (fit_push (take i xs) c fits k)

-- ---- operations

ops_push : (xs : List Op) (x : Op) → elements (ops_of (xs ++ x ∷ [])) ≡ elements (ops_of xs) ++ op_elements (op_of x)
ops_push xs x = ap elements (ops_of-append xs (x ∷ [])) ∙ elements-join (ops_of xs) (MoreOp (op_of x) NoOp) ∙ ap (λ es. elements (ops_of xs) ++ es) (append-nil (op_elements (op_of x)))

ops_fit_push : (xs : List Op) (x : Op) → OpsFit (ops_of xs) → OpFits (op_of x) → OpsFit (ops_of (xs ++ x ∷ []))
ops_fit_push [] x h k = (k, tt)
ops_fit_push (y ∷ xs) x h k = (h.0, ops_fit_push xs x h.1 k)

pub ops_more : (xs : List Op) (i : ℕ) (x : Op) (old now new : List Data) → i < length xs → x ≡ get_or xs i x → now ≡ old ++ map elem_data (elements (ops_of (take i xs))) → new ≡ now ++ map elem_data (op_elements (op_of x))
    → new ≡ old ++ map elem_data (elements (ops_of (take (i + 1) xs)))
ops_more xs i x old now new h at e f =
    let before = map elem_data (elements (ops_of (take i xs))) in
    let this = map elem_data (op_elements (op_of x)) in
    f ∙ ap (λ ds. ds ++ this) e ∙ append_assoc old before this
    ∙ ap (λ ds. old ++ ds) (sym (map-append elem_data (elements (ops_of (take i xs))) (op_elements (op_of x))) ∙ ap (map elem_data) (sym (ops_push (take i xs) x) ∙ ap (λ ys. elements (ops_of ys)) (sym (taken xs i x h at))))

pub ops_fit_more : (xs : List Op) (i : ℕ) (x : Op) → i < length xs → x ≡ get_or xs i x → OpsFit (ops_of (take i xs)) → OpFits (op_of x) → OpsFit (ops_of (take (i + 1) xs))
ops_fit_more xs i x h at fits k = subst (λ ys. OpsFit (ops_of ys)) (sym (taken xs i x h at)) (ops_fit_push (take i xs) x fits k)

-- one operation takes no more elements than all
pub size_within : (xs : List Op) (i : ℕ) (x : Op) → i < length xs → x ≡ get_or xs i x → size (op_of x) ≤ span (ops_of xs)
size_within [] i x h at = absurd (omega arith)
size_within (y ∷ xs) zero x h at = omega (arith, ap (λ o. size (op_of o)) at)
size_within (y ∷ xs) (suc i) x h at = omega (arith, size_within xs i x (omega arith) at)
