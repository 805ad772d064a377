-- What setting an item or a key gives, case by case.
use Rattle.std.proofs.Common.{◌≡◌, ◌≤◌, ◌<◌, ◌+◌, ℕ, ℤ, List, [], ◌∷◌, ◌++◌, length, set, Option, Some, true, false, arith, refl, sym, ap, ◌∙◌, w64, to_z, of_z, SFits}
use Rattle.std.proofs.lemmas.Int.{to_z-of_z}
use Rattle.std.proofs.lemmas.Bool.Decides.{nat_tests}
use Rattle.hog_value.specs.declared.value.Kind.TheVariants.{IndexError}
use Rattle.hog_value.specs.Values.{Val}
use Rattle.std.specs.Prelude.{slice_get, is_some, bytes_eq, Result, Ok, Err, IsErrAnd}
use Rattle.hog_value.specs.declared.value.SetStop.{SetStop}
use Rattle.hog_value.specs.declared.value.SetStop.TheVariants.{OutOfMemory}
use Rattle.std.specs.Map.{lookup}
use Rattle.indexmap.specs.IndexMap.{insert_entry}
use Rattle.hog_value.specs.Meters.{max_units}
use Rattle.hog_value.specs.Cells.{HeapOf, Array, Dict, cost_of_pair}
use Rattle.hog_value.specs.Operations.{Gives, Throws, Spends, charged, place_of, set_item_of, set_key_of}

-- a charge that fits
pub charged-fits : {F A : Type 0} (n : ℕ) (a : A) (h : HeapOf F) (units : ℕ) → units + n ≤ max_units → charged n a h units ≡ Gives a h (units + n)
charged-fits n a h units fits = grind (arith, nat_tests)

-- one that doesn't
pub charged-spends : {F A : Type 0} (n : ℕ) (a : A) (h : HeapOf F) (units : ℕ) → max_units < units + n → charged n a h units ≡ Spends
charged-spends n a h units spent = grind (arith, nat_tests)

-- what setting an item of an array gives, by the place of the index
module _ {F : Type 0} (h : HeapOf F) (n : ℕ) (index : ℤ) (v : Val) (units : ℕ) (vs : List Val) (k : ℕ)
    (array : slice_get h n ≡ Some (Array vs)) (place : place_of index ≡ Some k) where
  pub set_item-within : k < length vs → set_item_of h n index v units ≡ Gives tt (set h n (Array (set vs k v))) units
  unfolding set_item_of
  set_item-within within = rw (array, place) (grind (arith, nat_tests))

  pub set_item-past : length vs < k → set_item_of h n index v units ≡ Throws IndexError
  unfolding set_item_of
  set_item-past past = rw (array, place) (grind (arith, nat_tests))

  pub set_item-end : k ≡ length vs → set_item_of h n index v units ≡ charged 8 tt (set h n (Array (vs ++ v ∷ []))) units
  unfolding set_item_of
  set_item-end end = rw (array, place) (grind (arith, nat_tests))

-- what setting a key of a dictionary gives, by whether it is there
module _ {F : Type 0} (h : HeapOf F) (n : ℕ) (key : List ℕ) (v : Val) (units : ℕ) (ps : List (List ℕ × Val)) (dict : slice_get h n ≡ Some (Dict ps)) where
  pub set_key-there : is_some (lookup (bytes_eq key) ps) ≡ true
      → set_key_of h n key v units ≡ Gives tt (set h n (Dict (insert_entry bytes_eq ps key v))) units
  unfolding set_key_of
  set_key-there there = rw (dict, there) refl

  pub set_key-new : is_some (lookup (bytes_eq key) ps) ≡ false
      → set_key_of h n key v units ≡ charged (cost_of_pair key) tt (set h n (Dict (insert_entry bytes_eq ps key v))) units
  unfolding set_key_of
  set_key-new new = rw (dict, new) refl

-- what a meter that spent nothing tells
pub not_left : (n most : ℕ) → (n ≤ most → false ≡ true) → most < n
not_left n most left = grind arith

-- the place of an index of the program's 64 bits
pub place_is : (index : ℤ) (place : Option ℕ) → SFits w64 index → place ≡ place_of (to_z w64 (of_z w64 index)) → place_of index ≡ place
place_is index place fits is = sym (is ∙ ap place_of (to_z-of_z w64 index fits))

-- what `?` answers where there is no memory
pub is_out : (r : Result (Unit {0}) SetStop) → IsErrAnd r (λ e. e ≡ OutOfMemory) → r ≡ Err OutOfMemory
is_out (Ok x) out = absurd out
is_out (Err e) out = ap Err out
