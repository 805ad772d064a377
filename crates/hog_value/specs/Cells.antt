-- Cells and heaps, for any content F of function cells.
use Rattle.std.specs.Prelude.{ℕ, ◌+◌, ◌*◌, ◌≤◌, List, map, length, All, sum_by, Option, Some, None, option_and_then, slice_get, bytes_eq}
use Rattle.std.specs.List.{IsDistinct}
use Rattle.std.specs.Map.{keys_of}
use Rattle.hog_value.specs.Values.{Val, NamesBelow}

-- a cell: a text, the items of an array, the pairs of a dictionary in order, or a function
pub data CellOf (F : Type 0) : Type 0 where
  Text : List ℕ → CellOf F
  Array : List Val → CellOf F
  Dict : List (List ℕ × Val) → CellOf F
  Fun : F → CellOf F

-- a heap: its cells in order of number, from 0
abbrev pub HeapOf : Type 0 → Type 0
HeapOf F = List (CellOf F)

-- the cell with f of the content of a function
abbrev pub cell_map : {F G : Type 0} → (F → G) → CellOf F → CellOf G
cell_map f (Text t) = Text t
cell_map f (Array vs) = Array vs
cell_map f (Dict ps) = Dict ps
cell_map f (Fun x) = Fun (f x)

-- the heap with f of the content of each function
abbrev pub heap_map : {F G : Type 0} → (F → G) → HeapOf F → HeapOf G
heap_map f h = map (cell_map f) h

-- the values in the cell name none but the first n cells
abbrev pub CellNamesBelow : {F : Type 0} → ℕ → CellOf F → Type 0
CellNamesBelow n (Text t) = Unit {0}
CellNamesBelow n (Array vs) = All (NamesBelow n) vs
CellNamesBelow n (Dict ps) = All (λ p. NamesBelow n p.1) ps
CellNamesBelow n (Fun x) = Unit {0}

-- the values in the heap's cells name cells of the heap
abbrev pub IsClosed : {F : Type 0} → HeapOf F → Type 0
IsClosed h = All (CellNamesBelow (length h)) h

-- no two pairs of a dictionary have one key
abbrev pub HasDistinctKeys : {F : Type 0} → CellOf F → Type 0
HasDistinctKeys (Text t) = Unit {0}
HasDistinctKeys (Array vs) = Unit {0}
HasDistinctKeys (Dict ps) = IsDistinct bytes_eq (keys_of ps)
HasDistinctKeys (Fun x) = Unit {0}

-- what the program's heaps keep: values name cells of the heap, and dictionaries have distinct keys
abbrev pub IsSound : {F : Type 0} → HeapOf F → Type 0
IsSound h = IsClosed h × All HasDistinctKeys h

-- at least eight units are spent for each cell of the heap
abbrev pub IsCovered : {F : Type 0} → HeapOf F → ℕ → Type 0
IsCovered h units = 8 * length h ≤ units

-- the text of a cell that has one
abbrev pub text_of : {F : Type 0} → CellOf F → Option (List ℕ)
text_of (Text t) = Some t
text_of (Array vs) = None
text_of (Dict ps) = None
text_of (Fun x) = None

-- the items of an array
abbrev pub items_of : {F : Type 0} → CellOf F → Option (List Val)
items_of (Text t) = None
items_of (Array vs) = Some vs
items_of (Dict ps) = None
items_of (Fun x) = None

-- the pairs of a dictionary
abbrev pub pairs_of : {F : Type 0} → CellOf F → Option (List (List ℕ × Val))
pairs_of (Text t) = None
pairs_of (Array vs) = None
pairs_of (Dict ps) = Some ps
pairs_of (Fun x) = None

-- the text of the cell with the number n
abbrev pub text_at : {F : Type 0} → HeapOf F → ℕ → Option (List ℕ)
text_at h n = option_and_then text_of (slice_get h n)

-- the items of the array with the number n
abbrev pub items_at : {F : Type 0} → HeapOf F → ℕ → Option (List Val)
items_at h n = option_and_then items_of (slice_get h n)

-- the pairs of the dictionary with the number n
abbrev pub pairs_at : {F : Type 0} → HeapOf F → ℕ → Option (List (List ℕ × Val))
pairs_at h n = option_and_then pairs_of (slice_get h n)

-- the units that a pair with this key costs
abbrev pub cost_of_pair : List ℕ → ℕ
cost_of_pair key = 16 + length key

-- the units that making a cell costs
abbrev pub cost_of_cell : {F : Type 0} → CellOf F → ℕ
cost_of_cell (Text t) = 8 + length t
cost_of_cell (Array vs) = 8 + 8 * length vs
cost_of_cell (Dict ps) = 8 + sum_by (λ p. cost_of_pair p.0) ps
cost_of_cell (Fun x) = 64
