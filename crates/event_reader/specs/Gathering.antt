-- Jobs and broken runs as they are gathered. No reader has to trust this file.
use Rattle.std.specs.Prelude.{◌≡◌, ◌-◌, ◌&&◌, ℕ, List, ◌++◌, length, nat_le, Bool, true, Option, Some, None, is_some, if◌then◌else◌}
use Rattle.std.specs.List.{All, AllZip}
use Rattle.serde_json.specs.Data.{Data}
use Rattle.hog_program.specs.Program.{Built}
use Rattle.event_filter.specs.Verdicts.{Says}
use Rattle.event_filter.specs.declared.filter.Verdict.{Verdict}
use Rattle.event_filter.specs.declared.filter.Verdict.TheVariants.{Yes}
use Rattle.event_plans.specs.Function.{FunctionOf}
use Rattle.hog_jobs.specs.Inputs.{IsInput}
use Rattle.event_reader.specs.Meetings.{Meets}
use Rattle.event_reader.specs.Plans.{HaveMet, IsTaken, broken_in, broken_of, job_in, jobs_of, jobs_size, made, most_bytes, most_jobs}
use Rattle.event_reader.specs.declared.gather.Gathered.{Gathered}
use Rattle.event_reader.specs.declared.meeting.Meeting.{Meeting}
use Rattle.event_reader.specs.declared.meeting.Meeting.TheVariants.{Skipped, Job, Broken}
use Rattle.event_reader.specs.declared.plan.BrokenRun.{BrokenRun}
use Rattle.event_reader.specs.declared.plan.PlanJob.{PlanJob}

-- what is left of so many, if so many aren't too many
abbrev pub left : ℕ → ℕ → Option ℕ
left most n = if nat_le n most then Some (most - n) else None

-- where a meeting makes a job, the course takes its input
abbrev pub MakesInput : Meeting → Type 0
MakesInput Skipped = Unit {0}
MakesInput (Job input) = IsInput input
MakesInput (Broken line) = Unit {0}

-- whether the jobs so far are not too many and not too large
abbrev pub keeps : Gathered → Bool
keeps g = is_some g.places && is_some g.room

-- There are these jobs and broken runs. They are kept while the jobs are not too many and not too large.
pub record HasGathered (jobs : List PlanJob) (broken : List BrokenRun) (g : Gathered) : Type 0 where
  pub places : g.places ≡ left most_jobs (length jobs)
  pub room : g.room ≡ left most_bytes (jobs_size jobs)
  pub kept : keeps g ≡ true → (g.jobs.items ≡ jobs) × (g.broken.items ≡ broken)
  pub taken : All IsTaken g.jobs.items

-- these jobs and broken runs were added
abbrev pub Adds : List PlanJob → List BrokenRun → Gathered → Gathered → Type 0
Adds jobs broken before after =
    (xs : List PlanJob) (ys : List BrokenRun) → HasGathered xs ys before → HasGathered (xs ++ jobs) (ys ++ broken) after

-- what comes of an event that meets functions was added
abbrev pub AddsRow : ℕ → Data → List FunctionOf → Gathered → Gathered → Type 0
AddsRow e event functions before after =
    (row : List Meeting) × AllZip (Meets event) functions row × Adds (made (job_in e event) 0 functions row) (made (broken_in e event) 0 functions row) before after

-- what comes of events that meet functions was gathered
abbrev pub GathersAll : List Data → List FunctionOf → Gathered → Type 0
GathersAll events functions g =
    (rows : List (List Meeting)) × HaveMet events functions rows × HasGathered (jobs_of events functions rows) (broken_of events functions rows) g

-- what a filter says of globals, and yes where there is none
abbrev pub SaysIfAny : Option Built → List ℕ → Verdict → Type 0
SaysIfAny None globals v = v ≡ Yes
SaysIfAny (Some filter) globals v = Says filter.source globals v
