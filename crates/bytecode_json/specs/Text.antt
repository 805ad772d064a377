-- The text of a code, and what decoding a text gives.
use Rattle.std.specs.Prelude.{◌≡◌, ◌<◌, ◌^◌, ℕ, ◌==◌, ℤ, pos, negsuc, List, [], ◌∷◌, length, Bool, false, Option, Some, None, Result, Ok, Err, map, codes, if◌then◌else◌}
use Rattle.std.specs.Str.{bytes_eq}
use Rattle.serde_json.specs.Data.{unsigned, Data, number, string, array, Items, no_items, item}
use Rattle.serde_json.specs.Find.{as_str, as_array}
use Rattle.serde_json.specs.Read.{read}
use Rattle.serde_json.specs.View.{items_of}
use Rattle.serde_json.specs.Written.{compact_text}
use Rattle.hog_ops.specs.Plain.{Ops}
use Rattle.hog_ops.specs.Elements.{elements}
use Rattle.bytecode_front.specs.declared.stop.CodeStop.{CodeStop}
use Rattle.bytecode_front.specs.declared.stop.CodeStop.TheVariants as stops
use Rattle.bytecode_front.specs.Elements.{elem_data}
use Rattle.bytecode_front.specs.Front.{whole_in}
use Rattle.bytecode_front.specs.Reading.{read_ops}
use Rattle.bytecode_builder.specs.Placed.{placed}

-- the array of a code: the header, and the elements
abbrev pub code_data : Ops → Data
code_data ops = array (items_of (string (codes "_H") ∷ number (unsigned 1) ∷ map elem_data (elements ops)))

unfoldable pub code_text : Ops → List ℕ
code_text ops = compact_text (code_data ops)

-- how many bodies may stand in one another
abbrev pub max_room : ℕ
max_room = 1000

abbrev pub is_one : ℤ → Bool
is_one (pos n) = n == 1
is_one (negsuc n) = false

abbrev pub is_word : List ℕ → Option (List ℕ) → Bool
is_word w None = false
is_word w (Some s) = bytes_eq s w

abbrev pub behind_version : Option ℤ → List Data → Result (List Data) CodeStop
behind_version None ds = Err stops.NoHeader
behind_version (Some v) ds = if is_one v then Ok ds else Err (stops.Version v)

-- the elements behind the header
abbrev pub behind_header : List Data → Result (List Data) CodeStop
behind_header (h ∷ v ∷ ds) = if is_word (codes "_H") (as_str h) then behind_version (whole_in v) ds else Err stops.NoHeader
behind_header _ = Err stops.NoHeader

-- places count the header, which is 0 and 1
abbrev pub of_elements : Result (List Data) CodeStop → Result Ops CodeStop
of_elements (Ok ds) = placed 2 (read_ops max_room 2 ds)
of_elements (Err e) = Err e

abbrev pub items_list : Items → List Data
items_list no_items = []
items_list (item d ds) = d ∷ items_list ds

abbrev pub of_array : Option Items → Result Ops CodeStop
of_array None = Err stops.NoHeader
of_array (Some ds) = of_elements (behind_header (items_list ds))

abbrev pub of_read : Option Data → Result Ops CodeStop
of_read None = Err stops.NotJson
of_read (Some d) = of_array (as_array d)

-- the operations of a text, or the first refusal
unfoldable pub decode_of : List ℕ → Result Ops CodeStop
decode_of text = of_read (read text)

-- an array has fewer than 2 ^ 32 items
abbrev pub IsShort : Option Items → Type 0
IsShort None = Unit {0}
IsShort (Some ds) = length (items_list ds) < 2 ^ 32
