-- Members of JSON objects, and what is read of them.
use Rattle.std.specs.Prelude.{map, ℕ, ◌<◌, List, [], ◌∷◌, Option, Some, None, option_map, option_and_then}
use Rattle.std.specs.List.{All}
use Rattle.serde_json.specs.Data.{Data, Items, no_items, item, depth}
use Rattle.serde_json.specs.Find.{as_array, as_str, get}
use Rattle.serde_json.specs.View.{view}
use Rattle.serde_json.specs.declared.value.Value.{Value}

-- the elements of an array, in order
abbrev pub list_of : Items → List Data
list_of no_items = []
list_of (item d ds) = d ∷ list_of ds

-- what the values of an array are seen as
abbrev pub views : List Value → List Data
views vs = map view vs

-- each value of an array nests less deep than this
abbrev pub AreWithin : ℕ → List Value → Type 0
AreWithin n vs = All (λ v. depth (view v) < n) vs

-- the member of that name, where it is there and a text
abbrev pub text_at : List ℕ → Data → Option (List ℕ)
text_at name d = option_and_then as_str (get name d)

-- the elements of the member of that name, where it is there and an array
abbrev pub array_at : List ℕ → Data → Option (List Data)
array_at name d = option_map list_of (option_and_then as_array (get name d))

-- what is read of a member, and what stands for it where it is absent
abbrev pub read_or : {X : Type 0} → X → (Data → Option X) → Option Data → Option X
read_or absent read None = Some absent
read_or absent read (Some d) = read d

-- what is read of each value, where something is read of each
abbrev pub read_all : {X : Type 0} → (Data → Option X) → List Data → Option (List X)
read_all read [] = Some []
read_all read (d ∷ ds) = option_and_then (λ x. option_map (λ xs. x ∷ xs) (read_all read ds)) (read d)
