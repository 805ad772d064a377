-- The shown text and the JSON text of a value, over the cells of a heap.
use Rattle.std.specs.Prelude.{ℕ, zero, suc, ◌==◌, ◌||◌, List, [], ◌∷◌, ◌++◌, flat_map, Bool, true, false, if◌then◌else◌, Option, Some, None, option_map, unwrap_or, slice_get, codes}
use Rattle.std.specs.List.{join_by, list_any}
use Rattle.std.specs.Fmt.{signed_decimal}
use Rattle.json.specs.Print.{quoted}
use Rattle.hog_value.specs.Values.{Val}
use Rattle.hog_value.specs.declared.value.Value.TheVariants.{Null, Bool as Truth, Int, Ref}
use Rattle.hog_value.specs.Cells.{CellOf, Text, Array, Dict, Fun, HeapOf, text_at}

-- how a text spells what has brackets and marks of its own: texts and keys, what stands between items
-- and between a key and its value, a function, a cell that is open on the path, and one that is too deep
pub record Spelling : Type 0 where
  pub text : List ℕ → List ℕ
  pub comma : List ℕ
  pub colon : List ℕ
  pub function : List ℕ
  pub cycle : List ℕ
  pub deep : List ℕ

-- the letter after the backslash in a shown text, or 0 where the byte stands for itself
abbrev pub shown_letter : ℕ → ℕ
shown_letter b = if (b == 92) || (b == 39) then b else (if b == 10 then 110 else (if b == 13 then 114 else (if b == 9 then 116 else 0)))

-- a byte of a text that is shown inside an array or a dictionary
unfoldable pub shown_byte : ℕ → List ℕ
shown_byte b = if shown_letter b == 0 then b ∷ [] else 92 ∷ shown_letter b ∷ []

-- a text in single quotes, with the escapes \\ \' \n \r \t
abbrev pub single_quoted : List ℕ → List ℕ
single_quoted t = 39 ∷ (flat_map shown_byte t ++ 39 ∷ [])

-- how values are shown
abbrev pub shown_spelling : Spelling
shown_spelling = record {
  text = single_quoted;
  comma = codes ", ";
  colon = codes ": ";
  function = codes "<function>";
  cycle = codes "<cycle>";
  deep = codes "<deep>";
}

-- how they stand in JSON: compact, and null for what JSON doesn't have
abbrev pub json_spelling : Spelling
json_spelling = record {
  text = quoted;
  comma = codes ",";
  colon = codes ":";
  function = codes "null";
  cycle = codes "null";
  deep = codes "null";
}

-- a text between an opening and a closing bracket
abbrev pub bracketed : ℕ → ℕ → List ℕ → List ℕ
bracketed before after t = before ∷ (t ++ after ∷ [])

-- the text of a pair of a dictionary, where `inside` gives the texts of values
abbrev pub pair_text : Spelling → (Val → List ℕ) → List ℕ × Val → List ℕ
pair_text s inside p = s.text p.0 ++ (s.colon ++ inside p.1)

-- the text of a cell that isn't open, where `inside` gives the texts of the values in it;
-- it is None where no more cells may be opened
abbrev pub cell_text : {F : Type 0} → Spelling → Option (Val → List ℕ) → CellOf F → List ℕ
cell_text s inside (Text t) = s.text t
cell_text s None (Array vs) = s.deep
cell_text s (Some inside) (Array vs) = bracketed 91 93 (join_by inside s.comma vs)
cell_text s None (Dict ps) = s.deep
cell_text s (Some inside) (Dict ps) = bracketed 123 125 (join_by (pair_text s inside) s.comma ps)
cell_text s inside (Fun x) = s.function

-- the text of what stands at a number of the heap
abbrev pub found_text : {F : Type 0} → Spelling → Option (Val → List ℕ) → Option (CellOf F) → List ℕ
found_text s inside None = codes "null"
found_text s inside (Some c) = cell_text s inside c

-- whether the cell with the number n is one of those that are open
abbrev pub is_open : ℕ → List ℕ → Bool
is_open n path = list_any (λ m. m == n) path

-- the text of the cell with the number n, which isn't open, where the cells on the path are open, the innermost
-- last; `inside` gives the texts of values on longer paths
abbrev pub numbered_text : {F : Type 0} → Spelling → HeapOf F → Option (List ℕ → Val → List ℕ) → List ℕ → ℕ → List ℕ
numbered_text s h inside path n = found_text s (option_map (λ f. f (path ++ n ∷ [])) inside) (slice_get h n)

-- the text of a value
abbrev pub value_text : {F : Type 0} → Spelling → HeapOf F → Option (List ℕ → Val → List ℕ) → List ℕ → Val → List ℕ
value_text s h inside path Null = codes "null"
value_text s h inside path (Truth true) = codes "true"
value_text s h inside path (Truth false) = codes "false"
value_text s h inside path (Int z) = signed_decimal z
value_text s h inside path (Ref n) = if is_open n path then s.cycle else numbered_text s h inside path n

-- the text of a value that stands inside the open cells on the path, where `room` more cells may be opened
unfoldable pub text_in : {F : Type 0} → Spelling → HeapOf F → ℕ → List ℕ → Val → List ℕ
text_in s h zero path v = value_text s h None path v
text_in s h (suc room) path v = value_text s h (Some (text_in s h room)) path v

-- so many cells may be open at a time
abbrev pub most_open : ℕ
most_open = 100

-- the text that a value names
abbrev pub named_text : {F : Type 0} → HeapOf F → Val → Option (List ℕ)
named_text h Null = None
named_text h (Truth b) = None
named_text h (Int z) = None
named_text h (Ref n) = text_at h n

-- the shown text of a value: a text as it is, and all else as it is shown inside
unfoldable pub shown : {F : Type 0} → HeapOf F → Val → List ℕ
shown h v = unwrap_or (named_text h v) (text_in shown_spelling h most_open [] v)

-- the JSON text of a value
unfoldable pub json_text_of : {F : Type 0} → HeapOf F → Val → List ℕ
json_text_of h v = text_in json_spelling h most_open [] v
