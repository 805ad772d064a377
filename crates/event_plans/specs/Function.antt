-- Functions of a plan: which JSON values are functions, and what they say.
use Rattle.std.specs.Prelude.{ℕ, ℤ, pos, negsuc, int_le, nat_le, ◌&&◌, List, [], length, codes, Option, Some, None, option_map, option_and_then, unwrap_or, if◌then◌else◌}
use Rattle.serde_json.specs.Data.{Data, null, object, no_members, Members}
use Rattle.serde_json.specs.Find.{as_array, as_i64, as_number, as_object, as_str, as_u64, get}
use Rattle.hog_json.specs.Nulled.{nulled_text}
use Rattle.cyclotron_jobs.specs.declared.input.Reply.{Reply}
use Rattle.event_plans.specs.declared.function.Texts.{Texts}
use Rattle.event_plans.specs.Members.{list_of, read_all, read_or, text_at}

-- a function: its name, the texts of its program and of its filter, the pattern of the events that it takes, its inputs, the
-- priority of its jobs, and the answers to their requests, in order
pub record FunctionOf : Type 0 where
  pub name : List ℕ
  pub source : List ℕ
  pub filter : Option (List ℕ)
  pub pattern : Option (List ℕ)
  pub inputs : Data
  pub priority : ℤ
  pub answers : List Reply

-- the most bytes of a pattern
abbrev pub most_pattern : ℕ
most_pattern = 256

abbrev pub most_status : ℕ
most_status = 65535

-- a text that is there, or none where it is absent
abbrev pub some_text : Data → Option (Option (List ℕ))
some_text d = option_map Some (as_str d)

abbrev pub filter_in : Data → Option (Option (List ℕ))
filter_in d = read_or None some_text (get (codes "filter") d)

abbrev pub short_pattern : List ℕ → Option (Option (List ℕ))
short_pattern text = if nat_le (length text) most_pattern then Some (Some text) else None

abbrev pub pattern_of : Data → Option (Option (List ℕ))
pattern_of d = option_and_then short_pattern (as_str d)

-- a text of at most 256 bytes
abbrev pub pattern_in : Data → Option (Option (List ℕ))
pattern_in d = read_or None pattern_of (get (codes "pattern") d)

abbrev pub if_object : Data → Option Data
if_object d = option_map (λ (ms : Members). d) (as_object d)

-- an object, which is empty where it is absent
abbrev pub inputs_in : Data → Option Data
inputs_in d = read_or (object no_members) if_object (get (codes "inputs") d)

abbrev pub as_priority : ℤ → Option ℤ
as_priority z = if int_le (negsuc 32767) z && int_le z (pos 32767) then Some z else None

abbrev pub priority_of : Data → Option ℤ
priority_of d = option_and_then as_priority (option_and_then as_i64 (as_number d))

-- a whole number from -32,768 to 32,767, which is 0 where it is absent
abbrev pub priority_in : Data → Option ℤ
priority_in d = read_or (pos 0) priority_of (get (codes "priority") d)

abbrev pub as_status : ℕ → Option ℕ
as_status n = if nat_le n most_status then Some n else None

abbrev pub status_of : Data → Option ℕ
status_of d = option_and_then as_status (option_and_then as_u64 (as_number d))

-- a whole number from 0 to 65,535
abbrev pub status_in : Data → Option ℕ
status_in d = option_and_then status_of (get (codes "status") d)

-- the body of an answer, which is null where it is absent
abbrev pub body_in : Data → Data
body_in d = unwrap_or (get (codes "body") d) null

-- an answer: its status, and its body as it is kept
abbrev pub answer_of : Data → Option Reply
answer_of d = option_map (λ n. record { status = n; body = nulled_text (body_in d) }) (status_in d)

abbrev pub answers_of : Option (List Data) → Option (List Reply)
answers_of ds = option_and_then (read_all answer_of) ds

-- an array of answers, which is empty where it is absent
abbrev pub answers_in : Data → Option (List Reply)
answers_in d = read_or [] (λ ds. answers_of (option_map list_of (as_array ds))) (get (codes "answers") d)

-- the texts of a function: its filter and its pattern may be absent
abbrev pub texts_in : Data → Option Texts
texts_in d =
    option_and_then (λ name.
    option_and_then (λ source.
    option_and_then (λ filter.
    option_map (λ pattern. record { name = name; source = source; filter = filter; pattern = pattern })
    (pattern_in d)) (filter_in d)) (text_at (codes "source") d)) (text_at (codes "name") d)

abbrev pub function_with : Texts → Data → ℤ → List Reply → FunctionOf
function_with texts inputs priority answers = record {
  name = texts.name;
  source = texts.source;
  filter = texts.filter;
  pattern = texts.pattern;
  inputs = inputs;
  priority = priority;
  answers = answers;
}

-- the function that a value is, where it has this shape; other members are passed over
abbrev pub function_in : Data → Option FunctionOf
function_in d =
    option_and_then (λ texts.
    option_and_then (λ inputs.
    option_and_then (λ priority.
    option_map (λ answers. function_with texts inputs priority answers)
    (answers_in d)) (priority_in d)) (inputs_in d)) (texts_in d)
