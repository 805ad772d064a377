-- What comes of an event that meets a function of a plan.
use Rattle.std.specs.Prelude.{◌≡◌, ℕ, List, Bool, true, false, Option, Some, None}
use Rattle.serde_json.specs.Data.{Data}
use Rattle.hog_json.specs.Nulled.{globals_data, nulled_text}
use Rattle.cyclotron_jobs.specs.declared.input.JobInput.{JobInput}
use Rattle.cyclotron_jobs.specs.declared.input.Answers.TheVariants.{Listed}
use Rattle.event_patterns.specs.Patterns.{matches}
use Rattle.event_plans.specs.Event.{name_in}
use Rattle.event_plans.specs.Function.{FunctionOf}
use Rattle.event_filter.specs.Verdicts.{Says}
use Rattle.event_filter.specs.declared.filter.Verdict.{Verdict}
use Rattle.event_filter.specs.declared.filter.Verdict.TheVariants as verdict
use Rattle.event_reader.specs.declared.meeting.Meeting.{Meeting}
use Rattle.event_reader.specs.declared.meeting.Meeting.TheVariants.{Skipped, Job, Broken}

-- the globals of a function for an event, as they are kept
abbrev pub globals_for : Data → FunctionOf → List ℕ
globals_for event f = nulled_text (globals_data event f.inputs)

-- what a job of a function for an event begins with
abbrev pub input_for : Data → FunctionOf → JobInput
input_for event f = record { source = f.source; globals = globals_for event f; answers = Listed f.answers }

-- whether a name is taken: there is no pattern, or it has a match in the name
abbrev pub is_taken : Option (List ℕ) → List ℕ → Bool
is_taken None name = true
is_taken (Some pattern) name = matches pattern name

-- The verdict on globals: that of the filter, and yes where there is none.
abbrev pub Decides : Option (List ℕ) → List ℕ → Verdict → Type 0
Decides None globals v = v ≡ verdict.Yes
Decides (Some filter) globals v = Says filter globals v

-- what comes of a verdict, where a job would begin with that input
abbrev pub meeting_by : JobInput → Verdict → Meeting
meeting_by input verdict.Yes = Job input
meeting_by input verdict.No = Skipped
meeting_by input (verdict.Broken line) = Broken line

-- The verdict on the globals of the function for the event makes this.
pub record IsDecided (event : Data) (f : FunctionOf) (meeting : Meeting) : Type 0 where
  pub verdict : Verdict
  pub decides : Decides f.filter (globals_for event f) verdict
  pub makes : meeting ≡ meeting_by (input_for event f) verdict

abbrev pub MeetsIf : Bool → Data → FunctionOf → Meeting → Type 0
MeetsIf false event f meeting = meeting ≡ Skipped
MeetsIf true event f meeting = IsDecided event f meeting

-- The event meets the function, and this comes of it: nothing where the event's name isn't taken, and else what the verdict
-- makes.
abbrev pub Meets : Data → FunctionOf → Meeting → Type 0
Meets event f meeting = MeetsIf (is_taken f.pattern (name_in event)) event f meeting
