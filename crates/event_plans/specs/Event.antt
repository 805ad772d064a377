-- Events of a plan: which JSON values are events, and why a value is none.
use Rattle.std.specs.Prelude.{ℕ, List, [], ◌∷◌, suc, length, codes, nat_lt, Option, Some, None, option_map, option_and_then, unwrap_or, if◌then◌else◌}
use Rattle.serde_json.specs.Data.{Data}
use Rattle.uuid.specs.Text.{hyphenated_text, lower, parsed}
use Rattle.hog_json.specs.Nulled.{nulled_text}
use Rattle.event_plans.specs.Members.{text_at}
use Rattle.event_plans.specs.declared.stop.DraftStop.{DraftStop}
use Rattle.event_plans.specs.declared.stop.DraftStop.TheVariants.{Missing, BadUuid, TooLarge}

-- the most bytes of an event
abbrev pub most_event : ℕ
most_event = 32768

-- a text that `uuid` reads, in any of its forms, in the form with hyphens and in lower case
unfoldable pub uuid_of : List ℕ → Option (List ℕ)
uuid_of text = option_map (hyphenated_text lower) (parsed text)

-- the uuid of an event
abbrev pub uuid_in : Data → Option (List ℕ)
uuid_in d = option_and_then uuid_of (text_at (codes "uuid") d)

-- the text in which patterns are looked for: the event's member `event`, and the empty text where that is no text
abbrev pub name_in : Data → List ℕ
name_in d = unwrap_or (text_at (codes "event") d) []

-- how many bytes a value has as it is kept: compact, with null for each number that isn't a whole number of 64 bits
abbrev pub size_of : Data → ℕ
size_of d = length (nulled_text d)

abbrev pub size_stop : ℕ → ℕ → Option DraftStop
size_stop n size = if nat_lt most_event size then Some (TooLarge n) else None

abbrev pub uuid_stop : ℕ → Data → Option (List ℕ) → Option DraftStop
uuid_stop n d None = Some (BadUuid n)
uuid_stop n d (Some uuid) = size_stop n (size_of d)

abbrev pub text_stop : ℕ → Data → Option (List ℕ) → Option DraftStop
text_stop n d None = Some (Missing n)
text_stop n d (Some text) = uuid_stop n d (uuid_of text)

-- Why the value that stands at that place among the events is none, if it is none: it has no text `uuid`, `uuid` reads
-- nothing from that text, or it is too large.
abbrev pub event_stop : ℕ → Data → Option DraftStop
event_stop n d = text_stop n d (text_at (codes "uuid") d)

abbrev pub first_of : Option DraftStop → Option DraftStop → Option DraftStop
first_of None later = later
first_of (Some stop) later = Some stop

-- The first refusal of values that are to be events, of which the first stands at that place
abbrev pub events_stop : ℕ → List Data → Option DraftStop
events_stop n [] = None
events_stop n (d ∷ ds) = first_of (event_stop n d) (events_stop (suc n) ds)
