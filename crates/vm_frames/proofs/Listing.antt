-- Upvalues of which no two are open at one place.
use Rattle.std.proofs.Common.{◌≡◌, ℕ, zero, suc, List, [], ◌∷◌, Bool, true, false, cond, Option, Some, None, arith, refl, ap, sym, ◌∙◌}
use Rattle.std.proofs.lemmas.Bool.{and_parts}
use Rattle.std.proofs.lemmas.Bool.Decides.{nat_tests}
use Rattle.std.proofs.lemmas.Option.{none-some}
use Rattle.std.specs.Prelude.{slice_get, is_none, ◌==◌}
use Rattle.vm_course.specs.State.{Upvalue, Opened, Closed}
use Rattle.vm_course.specs.Stack.{one_on, find_open}
use Rattle.vm_frames.specs.Parts.{places_differ}

-- a place at which none is open
one_on_none : (o : Option ℕ) → one_on o ≡ None → o ≡ None
one_on_none None is = refl
one_on_none (Some n) is = absurd cc

none_here : (q p : ℕ) (o : Option ℕ) → cond (q == p) (Some 0) (one_on o) ≡ None → (q ≡ p → ⊥) × (o ≡ None)
none_here q p o is = by (q == p) refl is
  where
    by : (b : Bool) → (q == p) ≡ b → cond b (Some 0) (one_on o) ≡ None → (q ≡ p → ⊥) × (o ≡ None)
    by true same found = absurd cc
    by false other found = ((λ same. let clash : (q == p) ≡ true = grind (arith, nat_tests) in absurd cc), one_on_none o found)

pub none_open : (us : List Upvalue) (p m : ℕ) → find_open us p ≡ None → slice_get us m ≡ Some (Opened p) → ⊥
none_open [] p m none is = none-some _ is
none_open (Closed v ∷ us) p zero none is = absurd cc
none_open (Closed v ∷ us) p (suc m) none is = none_open us p m (one_on_none (find_open us p) none) is
none_open (Opened q ∷ us) p zero none is = let same : q ≡ p = cc in (none_here q p (find_open us p) none).0 same
none_open (Opened q ∷ us) p (suc m) none is = none_open us p m (none_here q p (find_open us p) none).1 is

no_number : (o : Option ℕ) → is_none o ≡ true → o ≡ None
no_number None is = refl
no_number (Some n) is = absurd cc

-- two that are open at one place are one
pub one_number : (us : List Upvalue) → places_differ us ≡ true → (p n m : ℕ) → slice_get us n ≡ Some (Opened p) → slice_get us m ≡ Some (Opened p) → n ≡ m
one_number [] apart p n m first second = absurd (none-some _ first)
one_number (Closed v ∷ us) apart p zero m first second = absurd cc
one_number (Closed v ∷ us) apart p (suc n) zero first second = absurd cc
one_number (Closed v ∷ us) apart p (suc n) (suc m) first second = ap suc (one_number us apart p n m first second)
one_number (Opened q ∷ us) apart p zero zero first second = refl
one_number (Opened q ∷ us) apart p zero (suc m) first second =
    let same : q ≡ p = cc in
    let parts = and_parts (is_none (find_open us q)) (places_differ us) apart in
    absurd (none_open us p m (ap (find_open us) (sym same) ∙ no_number (find_open us q) parts.0) second)
one_number (Opened q ∷ us) apart p (suc n) zero first second =
    let same : q ≡ p = cc in
    let parts = and_parts (is_none (find_open us q)) (places_differ us) apart in
    absurd (none_open us p n (ap (find_open us) (sym same) ∙ no_number (find_open us q) parts.0) first)
one_number (Opened q ∷ us) apart p (suc n) (suc m) first second =
    let parts = and_parts (is_none (find_open us q)) (places_differ us) apart in
    ap suc (one_number us parts.1 p n m first second)
