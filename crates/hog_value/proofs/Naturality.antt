-- No operation on a heap looks into a function cell: it gives the same whatever the functions hold.
use Rattle.std.proofs.Common.{◌≡◌, ℕ, ℤ, List, Bool, true, false, cond, Option, Some, None, refl, ap, ap₂, sym, ◌∙◌}
use Rattle.std.specs.Prelude.{slice_get, option_map, option_and_then, ◌==◌, ◌||◌}
use Rattle.std.proofs.lemmas.Option.{slice_get-map}
use Rattle.std.proofs.lemmas.List.{length-map, map-append, map-set}
use Rattle.hog_value.specs.Values.{Val, Null, Truth, Int, Ref}
use Rattle.hog_value.specs.Cells.{CellOf, Text, Array, Dict, Fun, HeapOf, cell_map, heap_map, text_of, items_of, pairs_of, text_at, items_at, pairs_at, cost_of_cell}
use Rattle.hog_value.specs.Operations.{Outcome, outcome_map, charged, made, place_of, item_in, item_of, key_in, key_of, set_item_in, set_item_of, set_key_in, set_key_of, same_texts, same_of, is_not_empty, truth_of}

-- what a cell has that is no function's
module _ {F G X : Type 0} (f : F → G) (here : CellOf F → Option X) (there : CellOf G → Option X) (same : (c : CellOf F) → there (cell_map f c) ≡ here c) where
  found : (o : Option (CellOf F)) → option_and_then there (option_map (cell_map f) o) ≡ option_and_then here o
  found None = refl
  found (Some c) = same c

  pub found_at : (h : HeapOf F) (n : ℕ) → option_and_then there (slice_get (heap_map f h) n) ≡ option_and_then here (slice_get h n)
  found_at h n = ap (option_and_then there) (slice_get-map (cell_map f) h n) ∙ found (slice_get h n)

module _ {F G : Type 0} (f : F → G) where
  text_same : (c : CellOf F) → text_of (cell_map f c) ≡ text_of c
  text_same (Text t) = refl
  text_same (Array vs) = refl
  text_same (Dict ps) = refl
  text_same (Fun x) = refl

  items_same : (c : CellOf F) → items_of (cell_map f c) ≡ items_of c
  items_same (Text t) = refl
  items_same (Array vs) = refl
  items_same (Dict ps) = refl
  items_same (Fun x) = refl

  pairs_same : (c : CellOf F) → pairs_of (cell_map f c) ≡ pairs_of c
  pairs_same (Text t) = refl
  pairs_same (Array vs) = refl
  pairs_same (Dict ps) = refl
  pairs_same (Fun x) = refl

  pub text_at-heap_map : (h : HeapOf F) (n : ℕ) → text_at (heap_map f h) n ≡ text_at h n
  text_at-heap_map = found_at f text_of text_of text_same

  pub items_at-heap_map : (h : HeapOf F) (n : ℕ) → items_at (heap_map f h) n ≡ items_at h n
  items_at-heap_map = found_at f items_of items_of items_same

  pub pairs_at-heap_map : (h : HeapOf F) (n : ℕ) → pairs_at (heap_map f h) n ≡ pairs_at h n
  pairs_at-heap_map = found_at f pairs_of pairs_of pairs_same

  pub cost_of_cell-cell_map : (c : CellOf F) → cost_of_cell (cell_map f c) ≡ cost_of_cell c
  cost_of_cell-cell_map (Text t) = refl
  cost_of_cell-cell_map (Array vs) = refl
  cost_of_cell-cell_map (Dict ps) = refl
  cost_of_cell-cell_map (Fun x) = refl

  pub outcome_map-cond : {A : Type 0} (b : Bool) (x y : Outcome F A) → outcome_map f (cond b x y) ≡ cond b (outcome_map f x) (outcome_map f y)
  outcome_map-cond true x y = refl
  outcome_map-cond false x y = refl

  pub charged-heap_map : {A : Type 0} (n : ℕ) (a : A) (h : HeapOf F) (units : ℕ) → charged n a (heap_map f h) units ≡ outcome_map f (charged n a h units)
  charged-heap_map n a h units = sym (outcome_map-cond _ _ _)

  pub made-heap_map : (c : CellOf F) (h : HeapOf F) (units : ℕ) → made (cell_map f c) (heap_map f h) units ≡ outcome_map f (made c h units)
  unfolding made
  made-heap_map c h units = rw (cost_of_cell-cell_map, length-map, outcome_map-cond, map-append) refl

  pub item_of-heap_map : (h : HeapOf F) (n : ℕ) (index : ℤ) → item_of (heap_map f h) n index ≡ item_of h n index
  unfolding item_of
  item_of-heap_map h n index = ap (λ o. item_in o (place_of index)) (items_at-heap_map h n)

  pub key_of-heap_map : (h : HeapOf F) (n : ℕ) (key : List ℕ) → key_of (heap_map f h) n key ≡ key_of h n key
  unfolding key_of
  key_of-heap_map h n key = ap (λ o. key_in o key) (pairs_at-heap_map h n)

  set_item_at : (o : Option (List Val)) (place : Option ℕ) (h : HeapOf F) (n : ℕ) (v : Val) (units : ℕ)
      → set_item_in o place (heap_map f h) n v units ≡ outcome_map f (set_item_in o place h n v units)
  set_item_at None place h n v units = refl
  set_item_at (Some vs) None h n v units = refl
  set_item_at (Some vs) (Some k) h n v units = simp (outcome_map-cond, map-set) refl

  pub set_item_of-heap_map : (h : HeapOf F) (n : ℕ) (index : ℤ) (v : Val) (units : ℕ)
      → set_item_of (heap_map f h) n index v units ≡ outcome_map f (set_item_of h n index v units)
  unfolding set_item_of
  set_item_of-heap_map h n index v units =
      ap (λ o. set_item_in o (place_of index) (heap_map f h) n v units) (items_at-heap_map h n)
      ∙ set_item_at (items_at h n) (place_of index) h n v units

  set_key_at : (o : Option (List (List ℕ × Val))) (h : HeapOf F) (n : ℕ) (key : List ℕ) (v : Val) (units : ℕ)
      → set_key_in o (heap_map f h) n key v units ≡ outcome_map f (set_key_in o h n key v units)
  set_key_at None h n key v units = refl
  set_key_at (Some ps) h n key v units = simp (outcome_map-cond, map-set) refl

  pub set_key_of-heap_map : (h : HeapOf F) (n : ℕ) (key : List ℕ) (v : Val) (units : ℕ)
      → set_key_of (heap_map f h) n key v units ≡ outcome_map f (set_key_of h n key v units)
  unfolding set_key_of
  set_key_of-heap_map h n key v units =
      ap (λ o. set_key_in o (heap_map f h) n key v units) (pairs_at-heap_map h n)
      ∙ set_key_at (pairs_at h n) h n key v units

  pub same_of-heap_map : (h : HeapOf F) (a b : Val) → same_of (heap_map f h) a b ≡ same_of h a b
  unfolding same_of
  same_of-heap_map h (Ref m) (Ref n) =
      ap₂ (λ s t. (m == n) || same_texts s t) (text_at-heap_map h m) (text_at-heap_map h n)
  same_of-heap_map h Null Null = refl
  same_of-heap_map h (Truth a) (Truth b) = refl
  same_of-heap_map h (Int a) (Int b) = refl
  same_of-heap_map h _ _ = refl

  pub truth_of-heap_map : (h : HeapOf F) (v : Val) → truth_of (heap_map f h) v ≡ truth_of h v
  unfolding truth_of
  truth_of-heap_map h Null = refl
  truth_of-heap_map h (Truth b) = refl
  truth_of-heap_map h (Int z) = refl
  truth_of-heap_map h (Ref n) = ap is_not_empty (text_at-heap_map h n)
