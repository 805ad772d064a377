-- Operations at places of a code, and how many operations begin at or behind a place.
use Rattle.std.proofs.Common.{◌≡◌, ℕ, zero, suc, ◌+◌, ◌<◌, ◌≤◌, List, [], ◌∷◌, Some, refl, subst, arith}
use Rattle.std.specs.Prelude.{slice_get}
use Rattle.std.proofs.lemmas.Option.{none-some}
use Rattle.hog_ops.specs.Plain.{Op, Ops, NoOp, MoreOp, ◌⊕◌, Callable}
use Rattle.hog_ops.specs.Table.{size, span}
use Rattle.vm_course.specs.State.{Slot, Begins, BodyEnds, Operand, header}

abbrev mutual
  -- these operations stand at a place of the code, with the bodies of functions where their operations tell
  pub HasAt : List Slot → ℕ → Ops → Type 0
  HasAt code place NoOp = Unit {0}
  HasAt code place (MoreOp o os) = (slice_get code place ≡ Some (Begins o)) × InnerAt code place o × HasAt code (place + size o) os

  pub InnerAt : List Slot → ℕ → Op → Type 0
  InnerAt code place (Callable name params body captures) = HasAt code (place + header) body
  InnerAt code place o = Unit {0}

pub has_front : (code : List Slot) (place : ℕ) (a b : Ops) → HasAt code place (a ⊕ b) → HasAt code place a
has_front code place NoOp b h = tt
has_front code place (MoreOp o a) b h = (h.0, h.1, has_front code (place + size o) a b h.2)

pub has_back : (code : List Slot) (place : ℕ) (a b : Ops) → HasAt code place (a ⊕ b) → HasAt code (place + span a) b
has_back code place NoOp b h = let e : place ≡ place + 0 = omega arith in subst (λ n. HasAt code n b) e h
has_back code place (MoreOp o a) b h =
    let e : place + size o + span a ≡ place + (size o + span a) = omega arith in
    subst (λ n. HasAt code n b) e (has_back code (place + size o) a b h.2)

pub span-after : (a b : Ops) → span (a ⊕ b) ≡ span a + span b
span-after NoOp b = omega arith
span-after (MoreOp o a) b = let e = span-after a b in omega arith

-- one where an operation begins
abbrev pub weight : Slot → ℕ
weight (Begins o) = 1
weight BodyEnds = 0
weight Operand = 0

-- how many operations begin at a place or behind it
abbrev pub left : List Slot → ℕ → ℕ
left [] place = 0
left (s ∷ ss) zero = weight s + left ss zero
left (s ∷ ss) (suc place) = left ss place

pub left_later : (code : List Slot) (p q : ℕ) → p ≤ q → left code q ≤ left code p
left_later [] p q le = omega arith
left_later (s ∷ ss) zero zero le = omega arith
left_later (s ∷ ss) zero (suc q) le = let h = left_later ss zero q (omega arith) in omega arith
left_later (s ∷ ss) (suc p) zero le = absurd (omega arith)
left_later (s ∷ ss) (suc p) (suc q) le = left_later ss p q (omega arith)

-- past an operation
pub left_past : (code : List Slot) (p q : ℕ) (o : Op) → slice_get code p ≡ Some (Begins o) → p < q → suc (left code q) ≤ left code p
left_past [] p q o e lt = absurd (none-some (Begins o) e)
left_past (s ∷ ss) zero zero o e lt = absurd (omega arith)
left_past (s ∷ ss) zero (suc q) o e lt =
    let w : weight s ≡ 1 = one s e in
    let h = left_later ss zero q (omega arith) in
    omega arith
  where
    one : (s : Slot) → Some s ≡ Some (Begins o) → weight s ≡ 1
    one (Begins p) f = refl
    one BodyEnds f = absurd (cc)
    one Operand f = absurd (cc)
left_past (s ∷ ss) (suc p) zero o e lt = absurd (omega arith)
left_past (s ∷ ss) (suc p) (suc q) o e lt = left_past ss p q o e (omega arith)

-- an operation has something before it
pub left_some : (code : List Slot) (p : ℕ) (o : Op) → slice_get code p ≡ Some (Begins o) → 1 ≤ left code p
left_some code p o e = let h = left_past code p (suc p) o e (omega arith) in omega arith

-- one after another
pub has_join : (code : List Slot) (place : ℕ) (a b : Ops) → HasAt code place a → HasAt code (place + span a) b → HasAt code place (a ⊕ b)
has_join code place NoOp b h k = let e : place + 0 ≡ place = omega arith in subst (λ n. HasAt code n b) e k
has_join code place (MoreOp o a) b h k =
    let e : place + (size o + span a) ≡ place + size o + span a = omega arith in
    (h.0, h.1, has_join code (place + size o) a b h.2 (subst (λ n. HasAt code n b) e k))
