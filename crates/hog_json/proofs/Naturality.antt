-- No text and no reading looks into a function cell: each is the same whatever the functions hold.
use Rattle.std.proofs.Common.{◌≡◌, ℕ, zero, suc, List, [], ◌∷◌, ◌++◌, true, false, Option, Some, None, if◌then◌else◌, refl, ap, ap₂, ◌∙◌}
use Rattle.std.specs.Prelude.{slice_get, option_map, unwrap_or}
use Rattle.std.proofs.lemmas.Option.{slice_get-map}
use Rattle.serde_json.specs.Data.{Data, null, boolean, number, string, array, object, Items, no_items, item, Members, no_members, member}
use Rattle.serde_json.specs.Read.{read}
use Rattle.hog_value.specs.declared.value.Value.TheVariants.{Null, Bool as Truth, Int, Ref}
use Rattle.hog_value.specs.Values.{Val}
use Rattle.hog_value.specs.Cells.{CellOf, Text, Array, Dict, Fun, HeapOf, cell_map, heap_map}
use Rattle.hog_value.specs.Operations.{Outcome, Gives, Throws, Spends, outcome_map, made}
use Rattle.hog_value.proofs.Naturality.{text_at-heap_map, made-heap_map}
use Rattle.hog_json.specs.Texts.{Spelling, shown_spelling, json_spelling, cell_text, found_text, is_open, value_text, text_in, most_open, named_text, shown, json_text_of}
use Rattle.hog_json.specs.Reading.{outcome_and_then, read_cells, read_items, read_members, cells_of_read, json_cells}

module _ {F G : Type 0} (f : F → G) where
  cell_text_same : (s : Spelling) (inside : Option (Val → List ℕ)) (c : CellOf F) → cell_text s inside (cell_map f c) ≡ cell_text s inside c
  cell_text_same s None (Text t) = refl
  cell_text_same s (Some inside) (Text t) = refl
  cell_text_same s None (Array vs) = refl
  cell_text_same s (Some inside) (Array vs) = refl
  cell_text_same s None (Dict ps) = refl
  cell_text_same s (Some inside) (Dict ps) = refl
  cell_text_same s None (Fun x) = refl
  cell_text_same s (Some inside) (Fun x) = refl

  found_text_same : (s : Spelling) (inside : Option (Val → List ℕ)) (o : Option (CellOf F)) → found_text s inside (option_map (cell_map f) o) ≡ found_text s inside o
  found_text_same s inside None = refl
  found_text_same s inside (Some c) = cell_text_same s inside c

  value_text_same : (s : Spelling) (h : HeapOf F) (inside : Option (List ℕ → Val → List ℕ)) (path : List ℕ) (v : Val) → value_text s (heap_map f h) inside path v ≡ value_text s h inside path v
  value_text_same s h inside path Null = refl
  value_text_same s h inside path (Truth true) = refl
  value_text_same s h inside path (Truth false) = refl
  value_text_same s h inside path (Int z) = refl
  value_text_same s h inside path (Ref n) =
      let within = option_map (λ (g : List ℕ → Val → List ℕ). g (path ++ n ∷ [])) inside in
      ap (λ t. if is_open n path then s.cycle else t) (ap (found_text s within) (slice_get-map (cell_map f) h n) ∙ found_text_same s within (slice_get h n))

  pub text_in-heap_map : (s : Spelling) (h : HeapOf F) (room : ℕ) (path : List ℕ) (v : Val) → text_in s (heap_map f h) room path v ≡ text_in s h room path v
  unfolding text_in
  text_in-heap_map s h zero path v = value_text_same s h None path v
  text_in-heap_map s h (suc room) path v =
      ap (λ (g : List ℕ → Val → List ℕ). value_text s (heap_map f h) (Some g) path v) (λ i longer w. text_in-heap_map s h room longer w i)
      ∙ value_text_same s h (Some (text_in s h room)) path v

  named_text_same : (h : HeapOf F) (v : Val) → named_text (heap_map f h) v ≡ named_text h v
  named_text_same h Null = refl
  named_text_same h (Truth b) = refl
  named_text_same h (Int z) = refl
  named_text_same h (Ref n) = text_at-heap_map f h n

  pub shown-heap_map : (h : HeapOf F) (v : Val) → shown (heap_map f h) v ≡ shown h v
  unfolding shown
  shown-heap_map h v = ap₂ unwrap_or (named_text_same h v) (text_in-heap_map shown_spelling h most_open [] v)

  pub json_text_of-heap_map : (h : HeapOf F) (v : Val) → json_text_of (heap_map f h) v ≡ json_text_of h v
  unfolding json_text_of
  json_text_of-heap_map h v = text_in-heap_map json_spelling h most_open [] v

  pub outcome_map-outcome_and_then : {A B : Type 0} (o : Outcome F A) (here : A → HeapOf F → ℕ → Outcome F B) (there : A → HeapOf G → ℕ → Outcome G B)
      → ((a : A) (h : HeapOf F) (units : ℕ) → there a (heap_map f h) units ≡ outcome_map f (here a h units))
      → outcome_and_then (outcome_map f o) there ≡ outcome_map f (outcome_and_then o here)
  outcome_map-outcome_and_then (Gives a h units) here there same = same a h units
  outcome_map-outcome_and_then (Throws kind) here there same = refl
  outcome_map-outcome_and_then Spends here there same = refl

  mutual
    pub read_cells-heap_map : (d : Data) (h : HeapOf F) (units : ℕ) → read_cells d (heap_map f h) units ≡ outcome_map f (read_cells d h units)
    read_cells-heap_map null h units = refl
    read_cells-heap_map (boolean b) h units = refl
    read_cells-heap_map (number n) h units = refl
    read_cells-heap_map (string s) h units = made-heap_map f (Text s) h units
    read_cells-heap_map (array ds) h units =
        ap (λ o. outcome_and_then o (λ vs. made (Array vs))) (read_items-heap_map ds h units)
        ∙ outcome_map-outcome_and_then (read_items ds h units) (λ vs. made (Array vs)) (λ vs. made (Array vs)) (λ vs h1 units1. made-heap_map f (Array vs) h1 units1)
    read_cells-heap_map (object ms) h units =
        ap (λ o. outcome_and_then o (λ ps. made (Dict ps))) (read_members-heap_map ms h units)
        ∙ outcome_map-outcome_and_then (read_members ms h units) (λ ps. made (Dict ps)) (λ ps. made (Dict ps)) (λ ps h1 units1. made-heap_map f (Dict ps) h1 units1)

    pub read_items-heap_map : (ds : Items) (h : HeapOf F) (units : ℕ) → read_items ds (heap_map f h) units ≡ outcome_map f (read_items ds h units)
    read_items-heap_map no_items h units = refl
    read_items-heap_map (item d ds) h units =
        ap (λ o. outcome_and_then o (λ v h1 units1. outcome_and_then (read_items ds h1 units1) (λ vs. Gives (v ∷ vs)))) (read_cells-heap_map d h units)
        ∙ outcome_map-outcome_and_then (read_cells d h units) _ _ (λ v h1 units1.
        ap (λ o. outcome_and_then o (λ vs. Gives (v ∷ vs))) (read_items-heap_map ds h1 units1)
        ∙ outcome_map-outcome_and_then (read_items ds h1 units1) (λ vs. Gives (v ∷ vs)) (λ vs. Gives (v ∷ vs)) (λ vs h2 units2. refl))

    pub read_members-heap_map : (ms : Members) (h : HeapOf F) (units : ℕ) → read_members ms (heap_map f h) units ≡ outcome_map f (read_members ms h units)
    read_members-heap_map no_members h units = refl
    read_members-heap_map (member k d ms) h units =
        ap (λ o. outcome_and_then o (λ v h1 units1. outcome_and_then (read_members ms h1 units1) (λ ps. Gives ((k, v) ∷ ps)))) (read_cells-heap_map d h units)
        ∙ outcome_map-outcome_and_then (read_cells d h units) _ _ (λ v h1 units1.
        ap (λ o. outcome_and_then o (λ ps. Gives ((k, v) ∷ ps))) (read_members-heap_map ms h1 units1)
        ∙ outcome_map-outcome_and_then (read_members ms h1 units1) (λ ps. Gives ((k, v) ∷ ps)) (λ ps. Gives ((k, v) ∷ ps)) (λ ps h2 units2. refl))

  cells_of_read_same : (o : Option Data) (h : HeapOf F) (units : ℕ) → cells_of_read o (heap_map f h) units ≡ outcome_map f (cells_of_read o h units)
  cells_of_read_same None h units = refl
  cells_of_read_same (Some d) h units = read_cells-heap_map d h units

  pub json_cells-heap_map : (text : List ℕ) (h : HeapOf F) (units : ℕ) → json_cells text (heap_map f h) units ≡ outcome_map f (json_cells text h units)
  unfolding json_cells
  json_cells-heap_map text h units = cells_of_read_same (read text) h units
