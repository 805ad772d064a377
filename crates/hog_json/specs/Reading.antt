-- The cells that a JSON value is read into.
use Rattle.std.specs.Prelude.{◌≡◌, ℕ, List, [], ◌∷◌, ◌++◌, Option, Some, None, option_map, unwrap_or}
use Rattle.serde_json.specs.Data.{Num, Data, null, boolean, number, string, array, object, Items, no_items, item, Members, no_members, member}
use Rattle.serde_json.specs.Find.{as_i64}
use Rattle.serde_json.specs.Read.{read}
use Rattle.hog_value.specs.declared.value.Kind.TheVariants.{JsonError}
use Rattle.hog_value.specs.Values.{Val}
use Rattle.hog_value.specs.declared.value.Value.TheVariants.{Null, Bool as Truth, Int}
use Rattle.hog_value.specs.Cells.{HeapOf, Text, Array, Dict}
use Rattle.hog_value.specs.Operations.{Outcome, Gives, Throws, Spends, made}

-- an operation and then another, on its result, the heap and the units after it; what an operation that
-- doesn't give stops at is what both stop at
abbrev pub outcome_and_then : {F A B : Type 0} → Outcome F A → (A → HeapOf F → ℕ → Outcome F B) → Outcome F B
outcome_and_then (Gives a h units) next = next a h units
outcome_and_then (Throws kind) next = Throws kind
outcome_and_then Spends next = Spends

-- the whole number that a number is, or null
abbrev pub number_read : Num → Val
number_read n = unwrap_or (option_map Int (as_i64 n)) Null

-- Making the cells of a JSON value: inner cells before outer ones, items from left to right, members in
-- byte order of their keys, which is the order in which a JSON value has them. Each cell is charged. Where
-- they don't all fit, none is made.
abbrev mutual
  pub read_cells : {F : Type 0} → Data → HeapOf F → ℕ → Outcome F Val
  read_cells null h units = Gives Null h units
  read_cells (boolean b) h units = Gives (Truth b) h units
  read_cells (number n) h units = Gives (number_read n) h units
  read_cells (string s) h units = made (Text s) h units
  read_cells (array ds) h units = outcome_and_then (read_items ds h units) (λ vs. made (Array vs))
  read_cells (object ms) h units = outcome_and_then (read_members ms h units) (λ ps. made (Dict ps))

  -- the values of the items
  pub read_items : {F : Type 0} → Items → HeapOf F → ℕ → Outcome F (List Val)
  read_items no_items h units = Gives [] h units
  read_items (item d ds) h units = outcome_and_then (read_cells d h units)
      (λ v h1 units1. outcome_and_then (read_items ds h1 units1) (λ vs. Gives (v ∷ vs)))

  -- the pairs of the members
  pub read_members : {F : Type 0} → Members → HeapOf F → ℕ → Outcome F (List (List ℕ × Val))
  read_members no_members h units = Gives [] h units
  read_members (member k d ms) h units = outcome_and_then (read_cells d h units)
      (λ v h1 units1. outcome_and_then (read_members ms h1 units1) (λ ps. Gives ((k, v) ∷ ps)))

-- what comes of a text that was read, or wasn't JSON
abbrev pub cells_of_read : {F : Type 0} → Option Data → HeapOf F → ℕ → Outcome F Val
cells_of_read None h units = Throws JsonError
cells_of_read (Some d) h units = read_cells d h units

-- Reading a text of JSON into cells. A text that isn't JSON throws.
unfoldable pub json_cells : {F : Type 0} → List ℕ → HeapOf F → ℕ → Outcome F Val
json_cells text h units = cells_of_read (read text) h units

-- The value that a kept text is: that of a reply's body, or of globals. Kept texts are JSON.
unfoldable pub kept_value : List ℕ → Data
kept_value text = unwrap_or (read text) null

-- the second heap is the first with more cells
abbrev pub Grows : {F : Type 0} → HeapOf F → HeapOf F → Type 0
Grows {F} old new = (more : HeapOf F) × (new ≡ old ++ more)
