-- No native on cells looks into a function cell: it gives the same whatever the functions hold.
use Rattle.std.proofs.Common.{◌≡◌, ℕ, List, [], ◌∷◌, ◌++◌, true, false, length, Option, Some, None, refl, ap, ap₂, ◌∙◌}
use Rattle.std.specs.Prelude.{not, ◌||◌, codes, flat_map, option_map, option_and_then, unwrap_or, is_some}
use Rattle.std.specs.List.{list_any}
use Rattle.std.specs.Map.{keys_of}
use Rattle.std.proofs.lemmas.Option.{slice_get-map}
use Rattle.hog_value.specs.Values.{Val}
use Rattle.hog_value.specs.declared.value.Value.TheVariants.{Null, Bool as Truth, Int, Ref}
use Rattle.hog_value.specs.Cells.{CellOf, Text, Array, Dict, Fun, HeapOf, cell_map, heap_map, items_of}
use Rattle.hog_value.specs.Operations.{Gives, outcome_map, made, same_of}
use Rattle.hog_value.proofs.Naturality.{found_at, made-heap_map, same_of-heap_map, truth_of-heap_map, pairs_at-heap_map}
use Rattle.hog_json.specs.Reading.{outcome_and_then}
use Rattle.hog_json.proofs.Naturality.{shown-heap_map, outcome_map-outcome_and_then}
use Rattle.hog_library.specs.Texts.{number_in}
use Rattle.hog_library.specs.Given.{argument, cell_given, are_options, with_given}
use Rattle.hog_library.specs.Cells.{error_cell, blocked, response_cell}
use Rattle.hog_library.specs.Natives.{concat_text, size_of, number_of, number_or_null, numbers_to, keys_of_cell, values_of_cell, has_nothing, length_called, concat_called, to_int_called, keys_called, values_called, has_called, push_back_called, empty_called, error_called}
use Rattle.hog_library.proofs.Naturality.{array_of_texts-heap_map}
use Rattle.hog_library.proofs.TextNaturality.{text_same, given_at}

-- what a cell that a value names has that is no function's
module _ {F G X : Type 0} (f : F → G) (here : CellOf F → Option X) (there : CellOf G → Option X) (same : (c : CellOf F) → there (cell_map f c) ≡ here c) where
  found_given : (h : HeapOf F) (v : Val) → option_and_then there (cell_given (heap_map f h) v) ≡ option_and_then here (cell_given h v)
  found_given h Null = refl
  found_given h (Truth b) = refl
  found_given h (Int z) = refl
  found_given h (Ref n) = found_at f here there same h n

module _ {F G : Type 0} (f : F → G) where
  cell_same : (h : HeapOf F) (v : Val) → cell_given (heap_map f h) v ≡ option_map (cell_map f) (cell_given h v)
  cell_same h Null = refl
  cell_same h (Truth b) = refl
  cell_same h (Int z) = refl
  cell_same h (Ref n) = slice_get-map (cell_map f) h n

  size_same : (c : CellOf F) → size_of (cell_map f c) ≡ size_of c
  size_same (Text t) = refl
  size_same (Array vs) = refl
  size_same (Dict ps) = refl
  size_same (Fun x) = refl

  items_same : (c : CellOf F) → items_of (cell_map f c) ≡ items_of c
  items_same (Text t) = refl
  items_same (Array vs) = refl
  items_same (Dict ps) = refl
  items_same (Fun x) = refl

  values_same : (c : CellOf F) → values_of_cell (cell_map f c) ≡ values_of_cell c
  values_same (Text t) = refl
  values_same (Array vs) = refl
  values_same (Dict ps) = refl
  values_same (Fun x) = refl

  nothing_same : (o : Option (CellOf F)) → option_map has_nothing (option_map (cell_map f) o) ≡ option_map has_nothing o
  nothing_same None = refl
  nothing_same (Some (Text t)) = refl
  nothing_same (Some (Array vs)) = refl
  nothing_same (Some (Dict ps)) = refl
  nothing_same (Some (Fun x)) = refl

  pub are_options-heap_map : (h : HeapOf F) (v : Val) → are_options (heap_map f h) v ≡ are_options h v
  are_options-heap_map h Null = refl
  are_options-heap_map h (Truth b) = refl
  are_options-heap_map h (Int z) = refl
  are_options-heap_map h (Ref n) = ap is_some (pairs_at-heap_map f h n)

  concat_text_same : (h : HeapOf F) (v : Val) → concat_text (heap_map f h) v ≡ concat_text h v
  concat_text_same h Null = refl
  concat_text_same h (Truth b) = shown-heap_map f h (Truth b)
  concat_text_same h (Int z) = shown-heap_map f h (Int z)
  concat_text_same h (Ref n) = shown-heap_map f h (Ref n)

  concat_same : (h : HeapOf F) (vs : List Val) → flat_map (concat_text (heap_map f h)) vs ≡ flat_map (concat_text h) vs
  concat_same h [] = refl
  concat_same h (v ∷ vs) = ap₂ (λ (s t : List ℕ). s ++ t) (concat_text_same h v) (concat_same h vs)

  number_same : (h : HeapOf F) (v : Val) → number_of (heap_map f h) v ≡ number_of h v
  number_same h Null = refl
  number_same h (Truth true) = refl
  number_same h (Truth false) = refl
  number_same h (Int z) = refl
  number_same h (Ref n) = ap (option_and_then number_in) (text_same f h (Ref n))

  any_same : (h : HeapOf F) (x : Val) (vs : List Val) → list_any (λ item. same_of (heap_map f h) item x) vs ≡ list_any (λ item. same_of h item x) vs
  any_same h x [] = refl
  any_same h x (v ∷ vs) = ap₂ (λ a b. a || b) (same_of-heap_map f h v x) (any_same h x vs)

  module _ (vs : List Val) (h : HeapOf F) (units : ℕ) where
    pub length_called-heap_map : length_called vs (heap_map f h) units ≡ outcome_map f (length_called vs h units)
    unfolding length_called
    length_called-heap_map = given_at f _ _ (found_given f size_of size_of size_same h (argument vs 0)) _ _ (λ n. refl)

    pub concat_called-heap_map : concat_called vs (heap_map f h) units ≡ outcome_map f (concat_called vs h units)
    unfolding concat_called
    concat_called-heap_map = ap (λ t. made (Text t) (heap_map f h) units) (concat_same h vs) ∙ made-heap_map f (Text (flat_map (concat_text h) vs)) h units

    pub to_int_called-heap_map : to_int_called vs (heap_map f h) units ≡ outcome_map f (to_int_called vs h units)
    unfolding to_int_called
    to_int_called-heap_map = ap (λ o. Gives (number_or_null o) (heap_map f h) units) (number_same h (argument vs 0))

    keys_on : (o : Option (CellOf F)) → with_given (option_map (cell_map f) o) (keys_of_cell (heap_map f h) units) ≡ outcome_map f (with_given o (keys_of_cell h units))
    keys_on None = refl
    keys_on (Some (Text t)) = refl
    keys_on (Some (Array items)) = made-heap_map f (Array (numbers_to (length items))) h units
    keys_on (Some (Dict ps)) = array_of_texts-heap_map f (keys_of ps) h units
    keys_on (Some (Fun x)) = refl

    pub keys_called-heap_map : keys_called vs (heap_map f h) units ≡ outcome_map f (keys_called vs h units)
    unfolding keys_called
    keys_called-heap_map = ap (λ o. with_given o (keys_of_cell (heap_map f h) units)) (cell_same h (argument vs 0)) ∙ keys_on (cell_given h (argument vs 0))

    pub values_called-heap_map : values_called vs (heap_map f h) units ≡ outcome_map f (values_called vs h units)
    unfolding values_called
    values_called-heap_map = given_at f _ _ (found_given f values_of_cell values_of_cell values_same h (argument vs 0)) _ _ (λ items. made-heap_map f (Array items) h units)

    pub has_called-heap_map : has_called vs (heap_map f h) units ≡ outcome_map f (has_called vs h units)
    unfolding has_called
    has_called-heap_map = given_at f _ _ (found_given f items_of items_of items_same h (argument vs 0)) _ _ (λ items. ap (λ b. Gives (Truth b) (heap_map f h) units) (any_same h (argument vs 1) items))

    pub push_back_called-heap_map : push_back_called vs (heap_map f h) units ≡ outcome_map f (push_back_called vs h units)
    unfolding push_back_called
    push_back_called-heap_map = given_at f _ _ (found_given f items_of items_of items_same h (argument vs 0)) _ _ (λ items. made-heap_map f (Array (items ++ argument vs 1 ∷ [])) h units)

    pub empty_called-heap_map : empty_called vs (heap_map f h) units ≡ outcome_map f (empty_called vs h units)
    unfolding empty_called
    empty_called-heap_map =
        ap₂ (λ a o. Gives (Truth (not a || unwrap_or o false)) (heap_map f h) units) (truth_of-heap_map f h (argument vs 0))
        (ap (option_map has_nothing) (cell_same h (argument vs 0)) ∙ nothing_same (cell_given h (argument vs 0)))

    pub error_called-heap_map : error_called vs (heap_map f h) units ≡ outcome_map f (error_called vs h units)
    unfolding error_called
    error_called-heap_map =
        ap (λ o. outcome_and_then o (λ name. made (error_cell name (argument vs 0) (argument vs 1)))) (made-heap_map f (Text (codes "Error")) h units)
        ∙ outcome_map-outcome_and_then f (made (Text (codes "Error")) h units) _ _ (λ name h1 units1. made-heap_map f (error_cell name (argument vs 0) (argument vs 1)) h1 units1)

  pub blocked-heap_map : (h : HeapOf F) (units : ℕ) → blocked (heap_map f h) units ≡ outcome_map f (blocked h units)
  unfolding blocked
  blocked-heap_map h units =
      ap (λ o. outcome_and_then o (λ v. made (response_cell 0 v))) (made-heap_map f (Text (codes "blocked")) h units)
      ∙ outcome_map-outcome_and_then f (made (Text (codes "blocked")) h units) _ _ (λ v h1 units1. made-heap_map f (response_cell 0 v) h1 units1)
