-- How an element of a script is read as a step: it is an array that begins with the step's word and goes on with just
-- the step's values, each of its kind and in its range.
use Rattle.std.specs.Prelude.{◌≤◌, map, ℕ, ℤ, pos, negsuc, int_le, nat_le, ◌&&◌, List, [], ◌∷◌, length, codes, bytes_eq, Option, Some, None, option_map, option_and_then, if◌then◌else◌}
use Rattle.std.specs.List.{All}
use Rattle.serde_json.specs.Data.{Data, Items, no_items, item, Members, depth}
use Rattle.serde_json.specs.View.{view}
use Rattle.serde_json.specs.declared.value.Value.{Value}
use Rattle.serde_json.specs.Find.{as_array, as_i64, as_number, as_object, as_str, as_u64}
use Rattle.hog_json.specs.Nulled.{nulled_text}
use Rattle.cyclotron_jobs.specs.declared.input.Answers.TheVariants.{Free}
use Rattle.cyclotron_jobs.specs.declared.row.QueueName.{QueueName}
use Rattle.cyclotron_jobs.specs.declared.row.QueueName.TheVariants as queue
use Rattle.hog_jobs.specs.Inputs.{most_globals}
use Rattle.script_reader.specs.declared.step.Step.{Step}
use Rattle.script_reader.specs.declared.step.Step.TheVariants.{Enqueue, Take, Beat, Work, Answer, Flush, Sweep, Lose, Forge, Back}

-- the elements of an array, in order
abbrev pub list_of : Items → List Data
list_of no_items = []
list_of (item d ds) = d ∷ list_of ds

-- the elements of a value that is an array
abbrev pub elements_of : Data → Option (List Data)
elements_of d = option_map list_of (as_array d)

-- what the values of an array are seen as
abbrev pub views : List Value → List Data
views vs = map view vs

-- no value of an array nests deeper than a value that is read
abbrev pub AreShallow : List Value → Type 0
AreShallow vs = All (λ v. depth (view v) ≤ 127) vs

-- ---- values

abbrev pub up_to : ℕ → ℕ → Option ℕ
up_to most n = if nat_le n most then Some n else None

-- a whole number from 0 to a greatest one
abbrev pub number_in : ℕ → Data → Option ℕ
number_in most d = option_and_then (up_to most) (option_and_then as_u64 (as_number d))

abbrev pub most_worker : ℕ
most_worker = 15

-- the greatest moment, and the greatest draw
abbrev pub most_moment : ℕ
most_moment = 9223372036854775807

abbrev pub most_slice : ℕ
most_slice = 1000000

abbrev pub most_job : ℕ
most_job = 4294967295

abbrev pub most_status : ℕ
most_status = 65535

abbrev pub worker_in : Data → Option ℕ
worker_in d = number_in most_worker d

abbrev pub moment_in : Data → Option ℕ
moment_in d = number_in most_moment d

abbrev pub from_one : ℕ → Option ℕ
from_one n = if nat_le 1 n then Some n else None

abbrev pub slice_in : Data → Option ℕ
slice_in d = option_and_then from_one (number_in most_slice d)

abbrev pub as_priority : ℤ → Option ℤ
as_priority z = if int_le (negsuc 32767) z && int_le z (pos 32767) then Some z else None

-- a whole number from -32,768 to 32,767
abbrev pub priority_in : Data → Option ℤ
priority_in d = option_and_then as_priority (option_and_then as_i64 (as_number d))

abbrev pub queue_named : List ℕ → Option QueueName
queue_named word =
    if bytes_eq word (codes "hog") then Some queue.Hog else (if bytes_eq word (codes "fetch") then Some queue.Fetch else None)

abbrev pub queue_in : Data → Option QueueName
queue_in d = option_and_then queue_named (as_str d)

abbrev pub short_text : List ℕ → Option (List ℕ)
short_text text = if nat_le (length text) most_globals then Some text else None

-- the kept text of an object, where it isn't too long
abbrev pub globals_in : Data → Option (List ℕ)
globals_in d = option_and_then (λ (ms : Members). short_text (nulled_text d)) (as_object d)

-- ---- steps by their values

abbrev pub enqueue_in : Data → Data → Data → Data → Option Step
enqueue_in source globals priority at =
    option_and_then (λ text.
    option_and_then (λ kept.
    option_and_then (λ rank.
    option_map (λ moment. Enqueue (record { source = text; globals = kept; answers = Free }) rank moment) (moment_in at))
    (priority_in priority)) (globals_in globals)) (as_str source)

abbrev pub take_in : Data → Data → Data → Option Step
take_in worker on now =
    option_and_then (λ w. option_and_then (λ q. option_map (λ n. Take w q n) (moment_in now)) (queue_in on)) (worker_in worker)

abbrev pub beat_in : Data → Data → Option Step
beat_in worker now = option_and_then (λ w. option_map (λ n. Beat w n) (moment_in now)) (worker_in worker)

abbrev pub work_in : Data → Data → Option Step
work_in worker slice = option_and_then (λ w. option_map (λ n. Work w n) (slice_in slice)) (worker_in worker)

abbrev pub answer_in : Data → Data → Data → Option Step
answer_in worker status body =
    option_and_then (λ w. option_map (λ n. Answer w (record { status = n; body = nulled_text body })) (number_in most_status status)) (worker_in worker)

abbrev pub flush_in : Data → Option Step
flush_in worker = option_map (λ w. Flush w) (worker_in worker)

abbrev pub sweep_in : Data → Option Step
sweep_in now = option_map (λ n. Sweep n) (moment_in now)

abbrev pub lose_in : Data → Option Step
lose_in worker = option_map (λ w. Lose w) (worker_in worker)

abbrev pub forge_in : Data → Data → Data → Option Step
forge_in worker job draw =
    option_and_then (λ w. option_and_then (λ j. option_map (λ d. Forge w j d) (number_in most_moment draw)) (number_in most_job job)) (worker_in worker)

abbrev pub back_in : Data → Data → Option Step
back_in worker at = option_and_then (λ w. option_map (λ n. Back w n) (moment_in at)) (worker_in worker)

-- ---- just so many values

abbrev pub of_one : (Data → Option Step) → List Data → Option Step
of_one f (a ∷ []) = f a
of_one f ds = None

abbrev pub of_two : (Data → Data → Option Step) → List Data → Option Step
of_two f (a ∷ b ∷ []) = f a b
of_two f ds = None

abbrev pub of_three : (Data → Data → Data → Option Step) → List Data → Option Step
of_three f (a ∷ b ∷ c ∷ []) = f a b c
of_three f ds = None

abbrev pub of_four : (Data → Data → Data → Data → Option Step) → List Data → Option Step
of_four f (a ∷ b ∷ c ∷ d ∷ []) = f a b c d
of_four f ds = None

-- the step of a word and the values behind it
abbrev pub step_named : List ℕ → List Data → Option Step
step_named word ds =
    if bytes_eq word (codes "enqueue") then of_four enqueue_in ds else (
    if bytes_eq word (codes "take") then of_three take_in ds else (
    if bytes_eq word (codes "beat") then of_two beat_in ds else (
    if bytes_eq word (codes "work") then of_two work_in ds else (
    if bytes_eq word (codes "answer") then of_three answer_in ds else (
    if bytes_eq word (codes "flush") then of_one flush_in ds else (
    if bytes_eq word (codes "sweep") then of_one sweep_in ds else (
    if bytes_eq word (codes "lose") then of_one lose_in ds else (
    if bytes_eq word (codes "forge") then of_three forge_in ds else (
    if bytes_eq word (codes "back") then of_two back_in ds else None)))))))))

abbrev pub step_among : List Data → Option Step
step_among [] = None
step_among (name ∷ ds) = option_and_then (λ word. step_named word ds) (as_str name)

-- the step that an element is, its source not looked at
abbrev pub step_of : Data → Option Step
step_of d = option_and_then step_among (elements_of d)
