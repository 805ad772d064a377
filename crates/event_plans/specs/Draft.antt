-- Drafts of plans: which texts are one, and why a text is none.
use Rattle.std.specs.Prelude.{◌≡◌, ℕ, List, length, codes, nat_lt, Option, Some, None, option_map, option_and_then, Result, Ok, Err, if◌then◌else◌}
use Rattle.std.specs.Str.{IsUtf8}
use Rattle.serde_json.specs.Data.{Data}
use Rattle.serde_json.specs.Read.{read}
use Rattle.event_plans.specs.Event.{events_stop}
use Rattle.event_plans.specs.Function.{FunctionOf, function_in}
use Rattle.event_plans.specs.Members.{array_at, read_all}
use Rattle.event_plans.specs.declared.stop.DraftStop.{DraftStop}
use Rattle.event_plans.specs.declared.stop.DraftStop.TheVariants.{NotJson, NotAPlan, TooManyEvents, TooManyFunctions, OutOfMemory}

-- the events and the functions of a plan
pub record DraftOf : Type 0 where
  pub events : List Data
  pub functions : List FunctionOf

abbrev pub most_events : ℕ
most_events = 4096

abbrev pub most_functions : ℕ
most_functions = 64

-- the functions of a plan, where each value is one
abbrev pub functions_in : Data → Option (List FunctionOf)
functions_in d = option_and_then (read_all function_in) (array_at (codes "functions") d)

-- the two arrays of a plan; other members are passed over
abbrev pub shape_in : Data → Option DraftOf
shape_in d =
    option_and_then (λ events. option_map (λ functions. record { events = events; functions = functions }) (functions_in d))
    (array_at (codes "events") d)

abbrev pub unless : DraftOf → Option DraftStop → Result DraftOf DraftStop
unless draft None = Ok draft
unless draft (Some stop) = Err stop

-- a draft with not too many events and functions, whose events are events
abbrev pub checked : DraftOf → Result DraftOf DraftStop
checked draft =
    if nat_lt most_events (length draft.events) then Err TooManyEvents
    else if nat_lt most_functions (length draft.functions) then Err TooManyFunctions
    else unless draft (events_stop 0 draft.events)

abbrev pub checked_shape : Option DraftOf → Result DraftOf DraftStop
checked_shape None = Err NotAPlan
checked_shape (Some draft) = checked draft

-- The draft that a JSON value is, or its first refusal: the shape of a plan and of each of its functions, the number of
-- events, the number of functions, and then each event in order.
abbrev pub draft_in : Data → Result DraftOf DraftStop
draft_in d = checked_shape (shape_in d)

-- The text is JSON of a value of which this is read.
pub record Drafts (text : List ℕ) (read_as : Result DraftOf DraftStop) : Type 0 where
  pub value : Data
  pub utf8 : IsUtf8 text
  pub json : read text ≡ Some value
  pub is : draft_in value ≡ read_as

-- the text is a draft
abbrev pub IsDraft : List ℕ → DraftOf → Type 0
IsDraft text draft = Drafts text (Ok draft)

-- why the text is no draft: it isn't UTF-8 or no JSON is read from it, or it is JSON of a value with that refusal
abbrev pub IsNoDraft : List ℕ → DraftStop → Type 0
IsNoDraft text NotJson = IsUtf8 text → read text ≡ None
IsNoDraft text OutOfMemory = ⊥
IsNoDraft text stop = Drafts text (Err stop)
