-- Nothing that a native makes looks into a function cell: it is the same whatever the functions hold.
use Rattle.std.proofs.Common.{◌≡◌, ℕ, List, [], ◌∷◌, refl, ap, ◌∙◌}
use Rattle.hog_value.specs.declared.value.Kind.{Kind}
use Rattle.hog_value.specs.declared.value.Value.TheVariants.{Null}
use Rattle.hog_value.specs.Cells.{HeapOf, Text, Array, heap_map}
use Rattle.hog_value.specs.Operations.{Gives, outcome_map, made}
use Rattle.hog_value.proofs.Naturality.{made-heap_map}
use Rattle.hog_json.specs.Reading.{outcome_and_then, kept_value, read_cells}
use Rattle.hog_json.proofs.Naturality.{outcome_map-outcome_and_then, read_cells-heap_map}
use Rattle.hog_library.specs.Cells.{texts_made, array_of_texts, error_cell, response_cell, kind_name, kind_message, thrown, response}

module _ {F G : Type 0} (f : F → G) where
  pub texts_made-heap_map : (ts : List (List ℕ)) (h : HeapOf F) (units : ℕ) → texts_made ts (heap_map f h) units ≡ outcome_map f (texts_made ts h units)
  texts_made-heap_map [] h units = refl
  texts_made-heap_map (t ∷ ts) h units =
      ap (λ o. outcome_and_then o (λ v h1 units1. outcome_and_then (texts_made ts h1 units1) (λ vs. Gives (v ∷ vs)))) (made-heap_map f (Text t) h units)
      ∙ outcome_map-outcome_and_then f (made (Text t) h units) _ _ (λ v h1 units1.
      ap (λ o. outcome_and_then o (λ vs. Gives (v ∷ vs))) (texts_made-heap_map ts h1 units1)
      ∙ outcome_map-outcome_and_then f (texts_made ts h1 units1) (λ vs. Gives (v ∷ vs)) (λ vs. Gives (v ∷ vs)) (λ vs h2 units2. refl))

  pub array_of_texts-heap_map : (ts : List (List ℕ)) (h : HeapOf F) (units : ℕ) → array_of_texts ts (heap_map f h) units ≡ outcome_map f (array_of_texts ts h units)
  unfolding array_of_texts
  array_of_texts-heap_map ts h units =
      ap (λ o. outcome_and_then o (λ vs. made (Array vs))) (texts_made-heap_map ts h units)
      ∙ outcome_map-outcome_and_then f (texts_made ts h units) (λ vs. made (Array vs)) (λ vs. made (Array vs)) (λ vs h1 units1. made-heap_map f (Array vs) h1 units1)

  pub thrown-heap_map : (kind : Kind) (h : HeapOf F) (units : ℕ) → thrown kind (heap_map f h) units ≡ outcome_map f (thrown kind h units)
  unfolding thrown
  thrown-heap_map kind h units =
      ap (λ o. outcome_and_then o (λ name h1 units1. outcome_and_then (made (Text (kind_message kind)) h1 units1) (λ message. made (error_cell name message Null)))) (made-heap_map f (Text (kind_name kind)) h units)
      ∙ outcome_map-outcome_and_then f (made (Text (kind_name kind)) h units) _ _ (λ name h1 units1.
      ap (λ o. outcome_and_then o (λ message. made (error_cell name message Null))) (made-heap_map f (Text (kind_message kind)) h1 units1)
      ∙ outcome_map-outcome_and_then f (made (Text (kind_message kind)) h1 units1) (λ message. made (error_cell name message Null)) (λ message. made (error_cell name message Null))
      (λ message h2 units2. made-heap_map f (error_cell name message Null) h2 units2))

  pub response-heap_map : (status : ℕ) (body : List ℕ) (h : HeapOf F) (units : ℕ) → response status body (heap_map f h) units ≡ outcome_map f (response status body h units)
  unfolding response
  response-heap_map status body h units =
      ap (λ o. outcome_and_then o (λ v. made (response_cell status v))) (read_cells-heap_map f (kept_value body) h units)
      ∙ outcome_map-outcome_and_then f (read_cells (kept_value body) h units) (λ v. made (response_cell status v)) (λ v. made (response_cell status v))
      (λ v h1 units1. made-heap_map f (response_cell status v) h1 units1)
