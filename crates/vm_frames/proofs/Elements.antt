-- The elements of a code, one operation after another.
use Rattle.std.proofs.Common.{◌≡◌, ◌≤◌, ℕ, zero, suc, ◌+◌, ◌<◌, List, [], ◌∷◌, ◌++◌, length, take, get_or, refl, sym, ap, ◌∙◌, arith, append_assoc, append-nil}
use Rattle.std.specs.Prelude.{replicate}
use Rattle.std.proofs.lemmas.List.{take_more, map-append}
use Rattle.hog_ops.specs.declared.operation.Op.{Op}
use Rattle.hog_ops.specs.declared.capture.Capture.{Capture}
use Rattle.hog_ops.specs.Plain.{Ops, NoOp, MoreOp, Callable, ◌⊕◌}
use Rattle.hog_ops.specs.Table.{size, span}
use Rattle.hog_ops.specs.View.{op_of, ops_of, ops_of-append}
use Rattle.vm_course.specs.State as s
use Rattle.vm_course.specs.State.{op_slots, slots}
use Rattle.vm_frames.specs.declared.slots.Slot.{Slot}
use Rattle.vm_frames.specs.Places.{slot_of, slots_of}

-- one more element
pub slots_push : (xs ys : List Slot) (x : Slot) → ys ≡ xs ++ x ∷ [] → slots_of ys ≡ slots_of xs ++ slot_of x ∷ []
slots_push xs ys x e = ap slots_of e ∙ map-append slot_of xs (x ∷ [])

-- parts that were added one after another
pub both_added : {A : Type 0} (old now new a b : List A) → now ≡ old ++ a → new ≡ now ++ b → new ≡ old ++ (a ++ b)
both_added old now new a b e f = f ∙ ap (λ xs. xs ++ b) e ∙ append_assoc old a b

pub slots-join : (os qs : Ops) → slots (os ⊕ qs) ≡ slots os ++ slots qs
slots-join NoOp qs = refl
slots-join (MoreOp o os) qs = ap (λ r. op_slots o ++ r) (slots-join os qs) ∙ sym (append_assoc (op_slots o) (slots os) (slots qs))

-- a function's elements
pub function_slots : (name : List ℕ) (params : ℕ) (body : Ops) (captures : List Capture) (old a b c d e : List s.Slot) → a ≡ old ++ s.Begins (Callable name params body captures) ∷ [] → b ≡ a ++ replicate 4 s.Operand → c ≡ b ++ slots body
    → d ≡ c ++ s.BodyEnds ∷ [] → e ≡ d ++ replicate (1 + (length captures + length captures)) s.Operand → e ≡ old ++ op_slots (Callable name params body captures)
function_slots name params body captures old a b c d e ea eb ec ed ee =
    let call = s.Begins (Callable name params body captures) ∷ [] in
    let behind = replicate (1 + (length captures + length captures)) s.Operand in
    let two : e ≡ c ++ (s.BodyEnds ∷ behind) = both_added c d e (s.BodyEnds ∷ []) behind ed ee in
    let three : e ≡ b ++ (slots body ++ (s.BodyEnds ∷ behind)) = both_added b c e (slots body) (s.BodyEnds ∷ behind) ec two in
    let four : e ≡ a ++ (replicate 4 s.Operand ++ (slots body ++ (s.BodyEnds ∷ behind))) = both_added a b e (replicate 4 s.Operand) (slots body ++ (s.BodyEnds ∷ behind)) eb three in
    both_added old a e call (replicate 4 s.Operand ++ (slots body ++ (s.BodyEnds ∷ behind))) ea four

-- one more operation
pub ops_more : (xs : List Op) (i : ℕ) (x : Op) (old now new : List s.Slot) → i < length xs → x ≡ get_or xs i x → now ≡ old ++ slots (ops_of (take i xs))
    → new ≡ now ++ op_slots (op_of x) → new ≡ old ++ slots (ops_of (take (i + 1) xs))
ops_more xs i x old now new h at e f =
    let more : take (i + 1) xs ≡ take i xs ++ x ∷ [] = take_more xs i x h ∙ ap (λ y. take i xs ++ y ∷ []) (sym at) in
    both_added old now new (slots (ops_of (take i xs))) (op_slots (op_of x)) e f
    ∙ ap (λ r. old ++ r) (ap (λ r. slots (ops_of (take i xs)) ++ r) (sym (append-nil (op_slots (op_of x)))) ∙ sym (slots-join (ops_of (take i xs)) (MoreOp (op_of x) NoOp)) ∙ ap slots (sym (ops_of-append (take i xs) (x ∷ []))) ∙ ap (λ ys. slots (ops_of ys)) (sym more))

-- one operation takes no more elements than all
pub size_within : (xs : List Op) (i : ℕ) (x : Op) → i < length xs → x ≡ get_or xs i x → size (op_of x) ≤ span (ops_of xs)
size_within [] i x h at = absurd (omega arith)
size_within (y ∷ xs) zero x h at = omega (arith, ap (λ o. size (op_of o)) at)
size_within (y ∷ xs) (suc i) x h at = omega (arith, size_within xs i x (omega arith) at)
