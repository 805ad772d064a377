-- The upvalue that is open at a place.
use Rattle.std.proofs.Common.{◌≡◌, ◌+◌, ℕ, zero, suc, List, [], ◌∷◌, true, false, cond, map, Some, None, arith, refl, ap, ◌∙◌, ⊎_elim}
use Rattle.std.proofs.lemmas.Option.{none-some}
use Rattle.std.proofs.lemmas.Bool.{cases_eq}
use Rattle.std.proofs.lemmas.Bool.Decides.{nat_tests}
use Rattle.std.specs.Prelude.{slice_get, ◌==◌}
use Rattle.vm_frames.specs.declared.upvalues.Upvalue as u
use Rattle.vm_course.specs.State.{Upvalue, Opened, Closed}
use Rattle.vm_course.specs.Stack.{one_on, find_open}
use Rattle.vm_frames.specs.Order.{open_at}
use Rattle.vm_frames.specs.Views.{upvalue_of}
use Rattle.vm_frames.proofs.Closing.{open_at-seen, seen-open_at}

find_at : (us : List Upvalue) (n p : ℕ) → slice_get us n ≡ Some (Opened p) → ((m : ℕ) → slice_get us m ≡ Some (Opened p) → m ≡ n) → find_open us p ≡ Some n
find_at [] n p is one = absurd (none-some _ is)
find_at (Closed v ∷ us) zero p is one = absurd cc
find_at (Closed v ∷ us) (suc n) p is one =
    let next : n + 1 ≡ suc n = omega arith in
    ap one_on (find_at us n p is (λ m at. let same : suc m ≡ suc n = one (suc m) at in omega arith)) ∙ ap Some next
find_at (Opened q ∷ us) zero p is one =
    let same : (q == p) ≡ true = first_place q p is in
    ap (λ b. cond b (Some 0) (one_on (find_open us p))) same
  where
    first_place : (q p : ℕ) → Some (Opened q) ≡ Some (Opened p) → (q == p) ≡ true
    first_place q p e = let place : q ≡ p = cc in grind (arith, nat_tests)
find_at (Opened q ∷ us) (suc n) p is one =
    let next : n + 1 ≡ suc n = omega arith in
    ⊎_elim
    (λ place. absurd (not_first n (one 0 (ap (λ x. Some (Opened x)) place))))
    (λ apart.
    let other : (q == p) ≡ false = grind (arith, nat_tests) in
    ap (λ b. cond b (Some 0) (one_on (find_open us p))) other
    ∙ ap one_on (find_at us n p is (λ m at. let same : suc m ≡ suc n = one (suc m) at in omega arith)) ∙ ap Some next)
    (cases_eq q p)
  where
    not_first : (n : ℕ) → 0 ≡ suc n → ⊥
    not_first n e = omega arith

find_none : (us : List Upvalue) (p : ℕ) → ((m : ℕ) → slice_get us m ≡ Some (Opened p) → ⊥) → find_open us p ≡ None
find_none [] p none = refl
find_none (Closed v ∷ us) p none = ap one_on (find_none us p (λ m at. none (suc m) at))
find_none (Opened q ∷ us) p none = ⊎_elim
    (λ place. absurd (none 0 (ap (λ x. Some (Opened x)) place)))
    (λ apart.
    let other : (q == p) ≡ false = grind (arith, nat_tests) in
    ap (λ b. cond b (Some 0) (one_on (find_open us p))) other ∙ ap one_on (find_none us p (λ m at. none (suc m) at)))
    (cases_eq q p)

-- the same by what holds the upvalues

pub found-Some : (list : List u.Upvalue) (n p : ℕ) → open_at list n ≡ Some p → ((m : ℕ) → open_at list m ≡ Some p → m ≡ n) → find_open (map upvalue_of list) p ≡ Some n
found-Some list n p is one = find_at (map upvalue_of list) n p (open_at-seen list n p is) (λ m at. one m (seen-open_at list m p at))

pub found-None : (list : List u.Upvalue) (p : ℕ) → ((m : ℕ) → open_at list m ≡ Some p → ⊥) → find_open (map upvalue_of list) p ≡ None
found-None list p none = find_none (map upvalue_of list) p (λ m at. none m (seen-open_at list m p at))
