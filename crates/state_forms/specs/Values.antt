-- Values, pairs and cells as JSON data.
use Rattle.std.specs.Prelude.{ℕ, ◌<◌, ◌^◌, ℤ, pos, negsuc, List, [], ◌∷◌, ◌++◌, Option, Some, None, option_map, is_some, if◌then◌else◌, map, codes, bytes_eq}
use Rattle.std.specs.List.{AllByRecursion, IsDistinct}
use Rattle.std.specs.Map.{lookup, keys_of}
use Rattle.serde_json.specs.Data.{Data, null, boolean, number, string, array, object}
use Rattle.serde_json.specs.Find.{as_i64, as_str, of_integer}
use Rattle.hog_value.specs.declared.cell.FunCell.{FunCell}
use Rattle.hog_value.specs.Values.{Val}
use Rattle.hog_value.specs.declared.value.Value.TheVariants.{Null, Bool as Truth, Int, Ref}
use Rattle.hog_value.specs.Cells.{CellOf, Text, Array, Dict, Fun}
use Rattle.state_forms.specs.Shapes.{◌>>=◌, items_list, list_in, list, each, u32_in, number_data}

-- [number of the cell]
abbrev pub ref_in : List Data → Option Val
ref_in [] = None
ref_in (d ∷ []) = u32_in d >>= λ n. Some (Ref n)
ref_in (d ∷ e ∷ ds) = None

-- a value: null, a truth value, a whole number, or a cell
abbrev pub value_in : Data → Option Val
value_in null = Some Null
value_in (boolean b) = Some (Truth b)
value_in (number n) = option_map Int (as_i64 n)
value_in (string s) = None
value_in (array ds) = ref_in (items_list ds)
value_in (object ms) = None

abbrev pub value_data : Val → Data
value_data Null = null
value_data (Truth b) = boolean b
value_data (Int z) = number (of_integer z)
value_data (Ref n) = list (number_data n ∷ [])

-- the number is an i64
abbrev pub IsI64 : ℤ → Type 0
IsI64 (pos n) = n < 2 ^ 63
IsI64 (negsuc n) = n < 2 ^ 63

abbrev pub ValueFits : Val → Type 0
ValueFits Null = Unit {0}
ValueFits (Truth b) = Unit {0}
ValueFits (Int z) = IsI64 z
ValueFits (Ref n) = n < 2 ^ 32

-- [key, value]
abbrev pub pair_in_list : List Data → Option (List ℕ × Val)
pair_in_list [] = None
pair_in_list (k ∷ []) = None
pair_in_list (k ∷ v ∷ []) = as_str k >>= λ key. value_in v >>= λ value. Some (key, value)
pair_in_list (k ∷ v ∷ x ∷ xs) = None

abbrev pub pair_in : Data → Option (List ℕ × Val)
pair_in d = list_in d >>= pair_in_list

abbrev pub pair_data : List ℕ × Val → Data
pair_data p = list (string p.0 ∷ value_data p.1 ∷ [])

-- pairs from the left, with no key twice
abbrev pub pairs_from : List (List ℕ × Val) → List Data → Option (List (List ℕ × Val))
pairs_from done [] = Some done
pairs_from done (d ∷ ds) = pair_in d >>= λ p. if is_some (lookup (bytes_eq p.0) done) then None else pairs_from (done ++ p ∷ []) ds

abbrev pub PairFits : List ℕ × Val → Type 0
PairFits p = ValueFits p.1

-- a letter, and what belongs to it: ["t",text], ["a",[value,..]], ["d",[[key,value],..]], ["f",place of the body,[upvalue,..]]
abbrev pub cell_by : List ℕ → List Data → Option (CellOf FunCell)
cell_by tag [] = None
cell_by tag (d ∷ []) =
    if bytes_eq tag (codes "t") then option_map Text (as_str d)
    else (if bytes_eq tag (codes "a") then (list_in d >>= λ ds. each value_in ds >>= λ vs. Some (Array vs))
    else (if bytes_eq tag (codes "d") then (list_in d >>= λ ds. pairs_from [] ds >>= λ ps. Some (Dict ps)) else None))
cell_by tag (d ∷ e ∷ []) =
    if bytes_eq tag (codes "f") then (u32_in d >>= λ place. list_in e >>= λ ds. each u32_in ds >>= λ ns. Some (Fun record { place = place; captured = ns })) else None
cell_by tag (d ∷ e ∷ x ∷ xs) = None

abbrev pub cell_in_list : List Data → Option (CellOf FunCell)
cell_in_list [] = None
cell_in_list (d ∷ ds) = as_str d >>= λ tag. cell_by tag ds

abbrev pub cell_in : Data → Option (CellOf FunCell)
cell_in d = list_in d >>= cell_in_list

abbrev pub cell_data : CellOf FunCell → Data
cell_data (Text t) = list (string (codes "t") ∷ string t ∷ [])
cell_data (Array vs) = list (string (codes "a") ∷ list (map value_data vs) ∷ [])
cell_data (Dict ps) = list (string (codes "d") ∷ list (map pair_data ps) ∷ [])
cell_data (Fun f) = list (string (codes "f") ∷ number_data f.place ∷ list (map number_data f.captured) ∷ [])

-- the numbers in a cell are of their types, and no dictionary has a key twice
abbrev pub CellFits : CellOf FunCell → Type 0
CellFits (Text t) = Unit {0}
CellFits (Array vs) = AllByRecursion ValueFits vs
CellFits (Dict ps) = AllByRecursion PairFits ps × IsDistinct bytes_eq (keys_of ps)
CellFits (Fun f) = (f.place < 2 ^ 32) × AllByRecursion (λ n. n < 2 ^ 32) f.captured
