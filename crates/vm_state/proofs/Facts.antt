-- What holds of each state.
use Rattle.std.proofs.Common.{◌≡◌, ℕ, List, [], ◌∷◌, ◌++◌, length, Bool, true, false, cond, ◌&&◌, ◌||◌, ◌==◌, not, Some, None, refl, ap, ◌∙◌, arith}
use Rattle.std.proofs.lemmas.Bool.Decides.{nat_tests}
use Rattle.std.proofs.lemmas.List.Elements.{All-from_recursion}
use Rattle.std.proofs.lemmas.List.Folds.{list_any-append}
use Rattle.std.specs.Prelude.{nat_eq, is_none}
use Rattle.std.specs.List.{All, AllByRecursion, list_all, list_any}
use Rattle.hog_value.specs.declared.cell.FunCell.{FunCell}
use Rattle.hog_value.specs.Values.{Val, NamesBelow}
use Rattle.hog_value.specs.Cells.{CellOf, Text, Array, Dict, Fun, HeapOf, CellNamesBelow, IsClosed, HasDistinctKeys}
use Rattle.state_forms.specs.Values.{CellFits}
use Rattle.vm_course.specs.State.{Upvalue, Opened, Closed}
use Rattle.vm_course.specs.Stack.{one_on, find_open}
use Rattle.vm_frames.specs.Parts.{places_differ}
use Rattle.vm_course.specs.States.{names, cell_stands, upvalues_stand}
use Rattle.vm_operations.proofs.Passing.{both, all_from, names_below}

-- values and cells

pub values_below : (n : ℕ) (vs : List Val) → list_all (names n) vs ≡ true → All (NamesBelow n) vs
values_below n vs h = All-from_recursion (NamesBelow n) vs (all_from (names n) (NamesBelow n) (names_below n) vs h)

cell_below : (n k : ℕ) (c : CellOf FunCell) → cell_stands n k c ≡ true → CellNamesBelow n c
cell_below n k (Text t) h = tt
cell_below n k (Array vs) h = values_below n vs h
cell_below n k (Dict ps) h = All-from_recursion (λ p. NamesBelow n p.1) ps (all_from (λ p. names n p.1) (λ p. NamesBelow n p.1) (λ p e. names_below n p.1 e) ps h)
cell_below n k (Fun f) h = tt

pub closed_by : (k : ℕ) (h : HeapOf FunCell) → list_all (cell_stands (length h) k) h ≡ true → IsClosed h
closed_by k h e = All-from_recursion (CellNamesBelow (length h)) h (all_from (cell_stands (length h) k) (CellNamesBelow (length h)) (cell_below (length h) k) h e)

keys_apart : (c : CellOf FunCell) → CellFits c → HasDistinctKeys c
keys_apart (Text t) h = tt
keys_apart (Array vs) h = tt
keys_apart (Dict ps) h = h.1
keys_apart (Fun f) h = tt

all_keys_apart : (h : HeapOf FunCell) → AllByRecursion CellFits h → AllByRecursion HasDistinctKeys h
all_keys_apart [] all = tt
all_keys_apart (c ∷ h) all = (keys_apart c all.0, all_keys_apart h all.1)

pub distinct_by : (h : HeapOf FunCell) → AllByRecursion CellFits h → All HasDistinctKeys h
distinct_by h all = All-from_recursion HasDistinctKeys h (all_keys_apart h all)

-- upvalues

-- no two are open at one place: none of those places is taken before, and none comes again
none_open : (us : List Upvalue) (p : ℕ) → find_open us p ≡ None → is_none (find_open us p) ≡ true
none_open us p e = ap is_none e

pub record Apart (taken : List ℕ) (us : List Upvalue) : Type 0 where
  pub differ : places_differ us ≡ true
  pub fresh : (p : ℕ) → list_any (nat_eq p) taken ≡ true → find_open us p ≡ None

pub other : (b : Bool) → not b ≡ true → b ≡ true → ⊥
other true h e = cc
other false h e = cc

one_of : (b : Bool) → (true || b) ≡ true
one_of b = refl

last_one : (a : Bool) → (a || (true || false)) ≡ true
last_one true = refl
last_one false = refl

pub at_end : (taken : List ℕ) (q : ℕ) → list_any (nat_eq q) (taken ++ q ∷ []) ≡ true
at_end taken q = list_any-append (nat_eq q) taken (q ∷ []) ∙ ap (λ b. list_any (nat_eq q) taken || (b || false)) (same_number q) ∙ last_one (list_any (nat_eq q) taken)
  where
    same_number : (n : ℕ) → nat_eq n n ≡ true
    same_number n = grind (arith, nat_tests)

pub before_end : (taken : List ℕ) (p q : ℕ) → list_any (nat_eq p) taken ≡ true → list_any (nat_eq p) (taken ++ q ∷ []) ≡ true
before_end taken p q h = list_any-append (nat_eq p) taken (q ∷ []) ∙ ap (λ b. b || list_any (nat_eq p) (q ∷ [])) h

is_false : (b : Bool) → (b ≡ true → ⊥) → b ≡ false
is_false true h = absurd (h refl)
is_false false h = refl

same_place : (q p : ℕ) → (q == p) ≡ true → q ≡ p
same_place q p h = grind (arith, nat_tests)

pub apart : (n height : ℕ) (taken : List ℕ) (us : List Upvalue) → upvalues_stand n height taken us ≡ true → Apart taken us
apart n height taken [] h = record { differ = refl; fresh = λ p e. refl }
apart n height taken (Closed v ∷ us) h =
    let a = apart n height taken us (both _ _ h).1 in record { differ = a.differ; fresh = λ p e. ap one_on (a.fresh p e) }
apart n height taken (Opened q ∷ us) h =
    let b = both _ _ h in
    let free : not (list_any (nat_eq q) taken) ≡ true = (both _ _ b.0).1 in
    let a = apart n height (taken ++ q ∷ []) us b.1 in record {
      differ = ap (λ o. is_none o && places_differ us) (a.fresh q (at_end taken q)) ∙ a.differ;
      fresh = λ p e.
          let away : (q == p) ≡ false = is_false (q == p) (λ same. other (list_any (nat_eq q) taken) free (ap (λ x. list_any (nat_eq x) taken) (same_place q p same) ∙ e)) in
          ap (λ b. cond b (Some 0) (one_on (find_open us p))) away ∙ ap one_on (a.fresh p (before_end taken p q e));
    }
