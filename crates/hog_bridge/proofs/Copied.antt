-- The copies that a loop over values runs over: a list, how many it has, and the index that counts it.
use Rattle.std.proofs.Common.{◌≡◌, ℕ, suc, ◌+◌, ◌*◌, ◌≤◌, pos, ◌+ℤ◌, List, [], ◌∷◌, ◌++◌, length, Option, Some, None, Bool, true, false, cond, Ok, refl, ap, arith}
use Rattle.std.specs.Prelude.{not, int_le, nat_le, nat_lt, slice_get, option_and_then}
use Rattle.std.specs.declared.cmp.Ordering.TheVariants.{Less, Equal, Greater}
use Rattle.std.proofs.lemmas.Bool.Decides.{nat_tests}
use Rattle.std.proofs.lemmas.Option.{none-some}
use Rattle.hog_value.specs.declared.value.Kind.{Kind}
use Rattle.hog_value.specs.declared.native.Native.TheVariants.{Values, Length}
use Rattle.hog_value.specs.Values.{Val}
use Rattle.hog_value.specs.declared.value.Value.TheVariants.{Bool as Truth, Int, Ref}
use Rattle.hog_value.specs.Meters.{Spent, max_units}
use Rattle.hog_value.specs.Cells.{CellOf, Text, Array, Dict, Fun, HeapOf, items_of, items_at, cost_of_cell}
use Rattle.hog_value.specs.Operations as op
use Rattle.hog_value.specs.Operations.{Outcome, made}
use Rattle.hog_library.specs.Called as native
use Rattle.hog_library.specs.Called.{called}
use Rattle.hog_library.specs.Cells.{thrown}
use Rattle.hog_library.specs.Given.{argument, cell_given, with_given}
use Rattle.hog_library.specs.Natives.{size_of, length_called, values_of_cell, values_called}
use Rattle.hog_tree.specs.declared.tree.BinaryOp.TheVariants as b
use Rattle.hog_meaning.specs.Operators.{operated, is_greater}
use Rattle.hog_meaning.specs.World as m
use Rattle.hog_meaning.specs.World.{Closure, World, Got, Gives, Throws, Waits, Spends, thrown_as, throw_made, throws, spent_at}
use Rattle.hog_meaning.specs.Meaning.{of_native, call_native}

-- counting

le_tests : (i m : ℕ) (x y z : Bool) → nat_lt i m ≡ x → nat_lt m i ≡ y → nat_le i m ≡ z → not (is_greater (cond x Less (cond y Greater Equal))) ≡ z
le_tests i m true y true a b c = refl
le_tests i m true y false a b c = absurd (grind (arith, nat_tests))
le_tests i m false true true a b c = absurd (grind (arith, nat_tests))
le_tests i m false true false a b c = refl
le_tests i m false false true a b c = refl
le_tests i m false false false a b c = absurd (grind (arith, nat_tests))

pub at_most_is : {F : Type 0} (h : HeapOf F) (i m : ℕ) → operated b.LessEqual h (Int (pos i)) (Int (pos m)) ≡ Ok (Truth (int_le (pos i) (pos m)))
unfolding operated
at_most_is h i m = ap (λ t. Ok (Truth t)) (le_tests i m (nat_lt i m) (nat_lt m i) (nat_le i m) refl refl refl)

pub next_is : {F : Type 0} (h : HeapOf F) (i : ℕ) → i ≤ suc max_units → operated b.Plus h (Int (pos i)) (Int (pos 1)) ≡ Ok (Int (pos i +ℤ pos 1))
unfolding operated
next_is h i le = let t : nat_le (i + 1) 9223372036854775807 ≡ true = grind (arith, nat_tests) in rw t refl

-- what is made of a list

abbrev pub IsList : {F : Type 0} → HeapOf F → Val → List Val → Type 0
IsList h v items = (k : ℕ) × (v ≡ Ref k) × (items_at h k ≡ Some items)

abbrev pub OutcomeList : {F : Type 0} → Outcome F Val → Type 0
OutcomeList (op.Gives v h units) = (items : List Val) × IsList h v items × (length items ≤ max_units)
OutcomeList (op.Throws kind) = Unit {0}
OutcomeList op.Spends = Unit {0}

abbrev pub GotList : Got Val → Type 0
GotList (Gives v w) = (items : List Val) × IsList w.heap v items × (length items ≤ max_units)
GotList (Throws v w) = Unit {0}
GotList (Waits w) = Unit {0}
GotList (Spends limit w) = Unit {0}

seam : {F : Type 0} (h : HeapOf F) (items : List Val) → items_at (h ++ Array items ∷ []) (length h) ≡ Some items
seam [] items = refl
seam (c ∷ h) items = seam h items

made_list : {F : Type 0} (items : List Val) (h : HeapOf F) (units : ℕ) → OutcomeList (made (Array items) h units)
unfolding made
made_list {F} items h units = go (nat_le (units + cost_of_cell {F = F} (Array items)) max_units) refl
  where
    go : (t : Bool) → nat_le (units + cost_of_cell {F = F} (Array items)) max_units ≡ t → OutcomeList {F = F} (cond t (op.Gives (Ref (length h)) (h ++ Array items ∷ []) (units + cost_of_cell {F = F} (Array items))) op.Spends)
    go true e = (items, (length h, refl, seam h items), small)
      where
        small : length items ≤ max_units
        small = let le : units + (8 + 8 * length items) ≤ max_units = grind (arith, nat_tests) in omega arith
    go false e = tt

values_list : {F : Type 0} (vs : List Val) (h : HeapOf F) (units : ℕ) → OutcomeList (values_called vs h units)
unfolding values_called
values_list {F} vs h units = go (option_and_then values_of_cell (cell_given h (argument vs 0)))
  where
    go : (o : Option (List Val)) → OutcomeList {F = F} (with_given o (λ items. made (Array items) h units))
    go None = tt
    go (Some items) = made_list items h units

thrown_any : (Q : Got Val → Type 0) → ((v : Val) (w : World) → Q (Throws v w)) → ((w : World) → Q (Spends m.MemorySpent w)) → (kind : Kind) (w : World) → Q (throws kind w)
unfolding throws
thrown_any Q t s kind w = go (thrown kind w.heap w.units)
  where
    go : (o : Outcome Closure Val) → Q (thrown_as (throw_made w o))
    go (op.Gives v h units) = t v (m.with_heap w h units)
    go (op.Throws k) = s w
    go op.Spends = s w

outcome_list : (o : Outcome Closure Val) (s : Spent) (w : World) → OutcomeList o → GotList (of_native (native.of_outcome o s) w)
outcome_list (op.Gives v h units) s w l = l
outcome_list (op.Throws kind) s w l = thrown_any GotList (λ v w. tt) (λ w. tt) kind w
outcome_list op.Spends s w l = tt

pub values_got : (d : ℕ) (vs : List Val) (w : World) → GotList (call_native d Values vs w)
unfolding call_native called
values_got d vs w = outcome_list (values_called vs w.heap w.units) (spent_at d w) w (values_list vs w.heap w.units)

-- how many a list has

abbrev pub GotCount : ℕ → Got Val → Type 0
GotCount n (Gives v w) = v ≡ Int (pos n)
GotCount n (Throws v w) = Unit {0}
GotCount n (Waits w) = Unit {0}
GotCount n (Spends limit w) = Unit {0}

abbrev OutcomeCount : {F : Type 0} → ℕ → Outcome F Val → Type 0
OutcomeCount n (op.Gives v h units) = v ≡ Int (pos n)
OutcomeCount n (op.Throws kind) = Unit {0}
OutcomeCount n op.Spends = Unit {0}

length_count : {F : Type 0} (k : ℕ) (h : HeapOf F) (units : ℕ) (items : List Val) → items_at h k ≡ Some items → OutcomeCount (length items) (length_called (Ref k ∷ []) h units)
unfolding length_called
length_count {F} k h units items e = go (slice_get h k) e
  where
    go : (o : Option (CellOf F)) → option_and_then items_of o ≡ Some items → OutcomeCount {F = F} (length items) (with_given (option_and_then size_of o) (λ n. op.Gives (Int (pos n)) h units))
    go None e = tt
    go (Some (Text t)) e = absurd (none-some items e)
    go (Some (Array vs)) e = let same : vs ≡ items = cc in ap (λ (xs : List Val). Int (pos (length xs))) same
    go (Some (Dict ps)) e = absurd (none-some items e)
    go (Some (Fun x)) e = tt

outcome_count : (n : ℕ) (o : Outcome Closure Val) (s : Spent) (w : World) → OutcomeCount n o → GotCount n (of_native (native.of_outcome o s) w)
outcome_count n (op.Gives v h units) s w l = l
outcome_count n (op.Throws kind) s w l = thrown_any (GotCount n) (λ v w. tt) (λ w. tt) kind w
outcome_count n op.Spends s w l = tt

pub length_got : (d k : ℕ) (w : World) (items : List Val) → items_at w.heap k ≡ Some items → GotCount (length items) (call_native d Length (Ref k ∷ []) w)
unfolding call_native called
length_got d k w items e = outcome_count (length items) (length_called (Ref k ∷ []) w.heap w.units) (spent_at d w) w (length_count k w.heap w.units items e)
