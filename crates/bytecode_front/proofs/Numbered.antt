-- Operations that are found by their numbers.
use Rattle.std.proofs.Common.{◌≡◌, ◌⊎◌, inl, inr, ⊎_elim, ℕ, pos, List, [], ◌∷◌, Option, Some, None, Bool, true, false, cond, refl, sym, ap, ◌∙◌, subst}
use Rattle.std.proofs.lemmas.Bool.{eqb-true}
use Rattle.std.proofs.lemmas.Option.{same_Some}
use Rattle.std.specs.Prelude.{ℤ, ◌==◌}
use Rattle.std.specs.List.{AllByRecursion}
use Rattle.hog_ops.specs.Plain.{Op}
use Rattle.hog_ops.specs.Table.{number, size, plain_ops, count_ops, jump_ops, numbered}
use Rattle.hog_ops.specs.Elements.{Elem, Whole, op_elements}
use Rattle.hog_ops.specs.Valid.{op_height}

-- an operation without a body, with these operands
pub record IsSimple (k : ℕ) (es : List Elem) (o : Op) : Type 0 where
  pub elements : op_elements o ≡ Whole (pos (number o)) ∷ es
  pub size : size o ≡ k
  pub height : op_height o ≡ 0

-- of these operands, however the operation is written out
simple : (k : ℕ) (es : List Elem) (o : Op) → op_elements o ≡ Whole (pos (number o)) ∷ es → size o ≡ k → op_height o ≡ 0 → IsSimple k es o
simple k es o e s h = record { elements = e; size = s; height = h }

plain_simple : AllByRecursion (IsSimple 1 []) plain_ops
plain_simple = search (simple, refl)

count_simple : (k : ℕ) → AllByRecursion (IsSimple 2 (Whole (pos k) ∷ [])) (count_ops k)
count_simple k = search (simple, refl)

jump_simple : (d : ℤ) → AllByRecursion (IsSimple 2 (Whole d ∷ [])) (jump_ops d)
jump_simple d = search (simple, refl)

cond_some : {A : Type 0} (b : Bool) (x : A) (o : Option A) (y : A) → cond b (Some x) o ≡ Some y → ((b ≡ true) × (x ≡ y)) ⊎ (o ≡ Some y)
cond_some true x o y e = inl (refl, same_Some x y e)
cond_some false x o y e = inr e

-- what holds of each operation of a list holds of the one that is found, and that one has the number
pub numbered_gives : (P : Op → Type 0) (n : ℕ) (os : List Op) (o : Op) → AllByRecursion P os → numbered n os ≡ Some o → (n ≡ number o) × P o
numbered_gives P n [] o all e = absurd cc
numbered_gives P n (x ∷ xs) o all e =
    ⊎_elim (λ h. (eqb-true n (number x) h.0 ∙ ap number h.1, subst P h.1 all.0)) (λ h. numbered_gives P n xs o all.1 h) (cond_some (n == number x) x (numbered n xs) o e)

-- the same with the number
pub record Numbered (n k : ℕ) (es : List Elem) (o : Op) : Type 0 where
  pub elements : op_elements o ≡ Whole (pos n) ∷ es
  pub size : size o ≡ k
  pub height : op_height o ≡ 0

numbered_is : (n k : ℕ) (es : List Elem) (os : List Op) (o : Op) → AllByRecursion (IsSimple k es) os → numbered n os ≡ Some o → Numbered n k es o
numbered_is n k es os o all e =
    let h = numbered_gives (IsSimple k es) n os o all e in
    record { elements = h.1.elements ∙ ap (λ m. Whole (pos m) ∷ es) (sym h.0); size = h.1.size; height = h.1.height }

pub plain_numbered : (n : ℕ) (o : Op) → numbered n plain_ops ≡ Some o → Numbered n 1 [] o
plain_numbered n o e = numbered_is n 1 [] plain_ops o plain_simple e

pub count_numbered : (n k : ℕ) (o : Op) → numbered n (count_ops k) ≡ Some o → Numbered n 2 (Whole (pos k) ∷ []) o
count_numbered n k o e = numbered_is n 2 (Whole (pos k) ∷ []) (count_ops k) o (count_simple k) e

pub jump_numbered : (n : ℕ) (d : ℤ) (o : Op) → numbered n (jump_ops d) ≡ Some o → Numbered n 2 (Whole d ∷ []) o
jump_numbered n d o e = numbered_is n 2 (Whole d ∷ []) (jump_ops d) o (jump_simple d) e
