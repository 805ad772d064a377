-- Which plan a draft makes, and why it makes none.
use Rattle.std.specs.Prelude.{◌≡◌, ◌⊎◌, ◌<◌, ◌≤◌, ◌+◌, ℕ, suc, List, [], ◌∷◌, ◌++◌, length, sum_by, unwrap_or}
use Rattle.std.specs.List.{All, AllZip}
use Rattle.serde_json.specs.Data.{Data}
use Rattle.hog_json.specs.Nulled.{count_nulled}
use Rattle.cyclotron_jobs.specs.declared.input.Answers.{Answers}
use Rattle.cyclotron_jobs.specs.declared.input.Answers.TheVariants.{Free, Listed}
use Rattle.cyclotron_jobs.specs.declared.input.JobInput.{JobInput}
use Rattle.cyclotron_jobs.specs.declared.input.Reply.{Reply}
use Rattle.event_plans.specs.Draft.{DraftOf, IsDraft, IsNoDraft}
use Rattle.event_plans.specs.Event.{uuid_in}
use Rattle.event_plans.specs.Function.{FunctionOf}
use Rattle.event_plans.specs.declared.stop.DraftStop.TheVariants as draft
use Rattle.hog_program.specs.declared.stop.BuildStop.{BuildStop}
use Rattle.event_destinations.specs.Destinations.{IsFirstStop, IsReady}
use Rattle.event_destinations.specs.declared.stop.DestinationStop.TheVariants as destination
use Rattle.hog_jobs.specs.Inputs.{IsInput}
use Rattle.event_reader.specs.Meetings.{Meets}
use Rattle.event_reader.specs.declared.meeting.Meeting.{Meeting}
use Rattle.event_reader.specs.declared.meeting.Meeting.TheVariants.{Skipped, Job, Broken}
use Rattle.event_reader.specs.declared.plan.BrokenRun.{BrokenRun}
use Rattle.event_reader.specs.declared.plan.Plan.{Plan}
use Rattle.event_reader.specs.declared.plan.PlanJob.{PlanJob}
use Rattle.event_reader.specs.declared.stop.Counted.TheVariants as counted
use Rattle.event_reader.specs.declared.stop.Measured.TheVariants as measured
use Rattle.event_reader.specs.declared.stop.PlanStop.{PlanStop}
use Rattle.event_reader.specs.declared.stop.PlanStop.TheVariants.{NotJson, NotAPlan, Missing, BadUuid, BadFunction, BadPattern, TooMany, TooLarge, OutOfMemory}

-- the most jobs of a plan
abbrev pub most_jobs : ℕ
most_jobs = 16384

-- the most bytes of the inputs of all jobs
abbrev pub most_bytes : ℕ
most_bytes = 268435456

-- ---- what meetings make

-- all that is made of the items of two lists, place by place; the first stand at that place
abbrev pub made : {A B X : Type 0} → (ℕ → A → B → List X) → ℕ → List A → List B → List X
made make n [] bs = []
made make n (a ∷ xs) [] = []
made make n (a ∷ xs) (b ∷ bs) = make n a b ++ made make (suc n) xs bs

-- the job that a meeting makes, if it makes one, by the places of event and function
abbrev pub job_in : ℕ → Data → ℕ → FunctionOf → Meeting → List PlanJob
job_in e event n f Skipped = []
job_in e event n f (Job input) =
    record { event = e; function = n; priority = f.priority; uuid = unwrap_or (uuid_in event) []; name = f.name; input = input } ∷ []
job_in e event n f (Broken line) = []

-- the broken run that a meeting is, if it is one
abbrev pub broken_in : ℕ → Data → ℕ → FunctionOf → Meeting → List BrokenRun
broken_in e event n f Skipped = []
broken_in e event n f (Job input) = []
broken_in e event n f (Broken line) = record { event = e; function = n; line = line } ∷ []

-- Each event in turn meets each function in turn: this is what comes of it, a row for each event.
abbrev pub HaveMet : List Data → List FunctionOf → List (List Meeting) → Type 0
HaveMet events functions rows = AllZip (λ event row. AllZip (Meets event) functions row) events rows

-- the jobs of a plan, by event and then by function
abbrev pub jobs_of : List Data → List FunctionOf → List (List Meeting) → List PlanJob
jobs_of events functions rows = made (λ e event row. made (job_in e event) 0 functions row) 0 events rows

-- its broken runs, in the same order
abbrev pub broken_of : List Data → List FunctionOf → List (List Meeting) → List BrokenRun
broken_of events functions rows = made (λ e event row. made (broken_in e event) 0 functions row) 0 events rows

-- ---- sizes

abbrev pub bodies_size : List Reply → ℕ
bodies_size replies = sum_by (λ (reply : Reply). length reply.body) replies

abbrev pub answers_size : Answers → ℕ
answers_size Free = 0
answers_size (Listed replies) = bodies_size replies

-- the bytes of an input: those of its source, its globals, and the bodies of its answers
abbrev pub input_size : JobInput → ℕ
input_size input = length input.source + length input.globals + answers_size input.answers

abbrev pub jobs_size : List PlanJob → ℕ
jobs_size jobs = sum_by (λ (job : PlanJob). input_size job.input) jobs

abbrev pub inputs_nulled : FunctionOf → ℕ
inputs_nulled f = count_nulled f.inputs

-- how many numbers become null in the events and in the inputs of the functions
abbrev pub nulled_in : DraftOf → ℕ
nulled_in draft = sum_by count_nulled draft.events + sum_by inputs_nulled draft.functions

-- the course takes the job's input
abbrev pub IsTaken : PlanJob → Type 0
IsTaken job = IsInput job.input

-- ---- plans of drafts

-- The functions of the draft are ready, and these are the jobs and the broken runs that its events make of them.
pub record Makes (draft : DraftOf) (jobs : List PlanJob) (broken : List BrokenRun) : Type 0 where
  pub ready : All IsReady draft.functions
  pub rows : List (List Meeting)
  pub met : HaveMet draft.events draft.functions rows
  pub jobs_are : jobs ≡ jobs_of draft.events draft.functions rows
  pub broken_are : broken ≡ broken_of draft.events draft.functions rows

-- The draft makes this plan.
pub record PlanOf (draft : DraftOf) (plan : Plan) : Type 0 where
  pub makes : Makes draft plan.jobs plan.broken
  pub few : length plan.jobs ≤ most_jobs
  pub small : jobs_size plan.jobs ≤ most_bytes
  pub events : plan.events ≡ length draft.events
  pub functions : plan.functions ≡ length draft.functions
  pub nulled : plan.nulled ≡ nulled_in draft

-- The draft makes more jobs than a plan may have.
pub record MakesTooMany (draft : DraftOf) : Type 0 where
  pub jobs : List PlanJob
  pub broken : List BrokenRun
  pub makes : Makes draft jobs broken
  pub many : most_jobs < length jobs

-- The draft makes no more jobs than a plan may have, and their inputs have together more bytes than they may.
pub record MakesTooLarge (draft : DraftOf) : Type 0 where
  pub jobs : List PlanJob
  pub broken : List BrokenRun
  pub makes : Makes draft jobs broken
  pub few : length jobs ≤ most_jobs
  pub large : most_bytes < jobs_size jobs

-- why the draft makes no plan: its first function that isn't ready, or else its jobs
abbrev pub NoPlanOf : DraftOf → PlanStop → Type 0
NoPlanOf d (BadFunction n why) = IsFirstStop 0 d.functions (destination.BadFunction n why)
NoPlanOf d (BadPattern n) = IsFirstStop 0 d.functions (destination.BadPattern n)
NoPlanOf d (TooLarge (measured.Inputs n)) = IsFirstStop 0 d.functions (destination.TooLarge n)
NoPlanOf d (TooMany counted.Jobs) = MakesTooMany d
NoPlanOf d (TooLarge measured.Jobs) = MakesTooLarge d
NoPlanOf d stop = ⊥

-- ---- plans of texts

-- The text is a draft that makes this plan.
pub record IsPlan (text : List ℕ) (plan : Plan) : Type 0 where
  pub draft : DraftOf
  pub is_draft : IsDraft text draft
  pub makes : PlanOf draft plan

-- The text is a draft that makes no plan, for this reason.
pub record MakesNone (text : List ℕ) (stop : PlanStop) : Type 0 where
  pub draft : DraftOf
  pub is_draft : IsDraft text draft
  pub none : NoPlanOf draft stop

-- why the text is no plan: it is no draft, or a draft that makes none
abbrev pub IsNoPlan : List ℕ → PlanStop → Type 0
IsNoPlan text NotJson = IsNoDraft text draft.NotJson
IsNoPlan text NotAPlan = IsNoDraft text draft.NotAPlan
IsNoPlan text (TooMany counted.Events) = IsNoDraft text draft.TooManyEvents
IsNoPlan text (TooMany counted.Functions) = IsNoDraft text draft.TooManyFunctions
IsNoPlan text (Missing n) = IsNoDraft text (draft.Missing n)
IsNoPlan text (BadUuid n) = IsNoDraft text (draft.BadUuid n)
IsNoPlan text (TooLarge (measured.Event n)) = IsNoDraft text (draft.TooLarge n)
IsNoPlan text OutOfMemory = ⊥
IsNoPlan text stop = MakesNone text stop

-- both say that one function isn't built
pub record AreOfOneFunction (a b : PlanStop) : Type 0 where
  pub function : ℕ
  pub first : BuildStop
  pub second : BuildStop
  pub says : a ≡ BadFunction function first
  pub says_too : b ≡ BadFunction function second

-- the same refusal, but for the reason why a function isn't built
abbrev pub AreAlike : PlanStop → PlanStop → Type 0
AreAlike a b = (a ≡ b) ⊎ AreOfOneFunction a b
