-- The plan that is made of a number.
use Rattle.std.specs.Prelude.{map, ℕ, ◌+◌, ◌%◌, pos, List, [], ◌∷◌, codes, Option, None, Some}
use Rattle.std.specs.Int.{w128, to_be_bytes}
use Rattle.std.specs.List.{range_with_len}
use Rattle.serde_json.specs.Data.{Data, null, number, object, string, unsigned, no_members, member}
use Rattle.uuid.specs.Text.{hyphenated_text, lower}
use Rattle.hog_json.specs.Nulled.{nulled_text}
use Rattle.cyclotron_jobs.specs.declared.input.Reply.{Reply}
use Rattle.event_plans.specs.Draft.{DraftOf}
use Rattle.event_plans.specs.Function.{FunctionOf}

-- the number as 128 bits, the highest first, in the form of a uuid with hyphens and in lower case
unfoldable pub made_uuid : ℕ → List ℕ
made_uuid i = hyphenated_text lower (to_be_bytes w128 i)

-- an event of the name `made` with that uuid, and with that number as its property `n`
abbrev pub event_data : List ℕ → ℕ → Data
event_data uuid n = object
    (member (codes "event") (string (codes "made"))
    (member (codes "properties") (object (member (codes "n") (number (unsigned n)) no_members))
    (member (codes "uuid") (string uuid) no_members)))

-- event i of the plan of n
abbrev pub made_event : ℕ → ℕ → Data
made_event n i = event_data (made_uuid i) ((n + i) % 100)

-- the events of the plan of n, from 0
unfoldable pub made_events : ℕ → List Data
made_events n = map (made_event n) (range_with_len 0 (n + 1000))

-- prints the number of the event
abbrev pub echo_source : List ℕ
echo_source = codes "print(event.properties.n);"

-- takes events with a number of at least 50
abbrev pub high_filter : List ℕ
high_filter = codes "return event.properties.n >= 50;"

-- makes a request, and throws where the number is at least 90
abbrev pub high_source : List ℕ
high_source = codes "fetch('https://h/'); if (event.properties.n >= 90) { throw Error('high'); }"

-- prints the sum of the numbers up to that of the event
abbrev pub sum_source : List ℕ
sum_source = codes "let t := 0; for (let i := 1; i <= event.properties.n; i := i + 1) { t := t + i; } print(t);"

-- a function that takes events of every name, without inputs, whose jobs have the priority 0
abbrev pub plain_function : List ℕ → List ℕ → Option (List ℕ) → List Reply → FunctionOf
plain_function name source filter answers = record {
  name = name;
  source = source;
  filter = filter;
  pattern = None;
  inputs = object no_members;
  priority = pos 0;
  answers = answers;
}

-- the reply that the first request of `high` gets
abbrev pub null_reply : Reply
null_reply = record { status = 200; body = nulled_text null }

abbrev pub echo : FunctionOf
echo = plain_function (codes "echo") echo_source None []

abbrev pub high : FunctionOf
high = plain_function (codes "high") high_source (Some high_filter) (null_reply ∷ [])

abbrev pub sum : FunctionOf
sum = plain_function (codes "sum") sum_source None []

abbrev pub made_functions : List FunctionOf
made_functions = echo ∷ high ∷ sum ∷ []

-- the plan of n: n + 1000 events and three functions
abbrev pub made_draft : ℕ → DraftOf
made_draft n = record { events = made_events n; functions = made_functions }
