-- What is made of a number.
use Rattle.std.specs.Prelude.{◌≡◌, ℕ, List, length, map}
use Rattle.std.specs.List.{AllZip}
use Rattle.hog_value.specs.declared.trace.Shown.{Shown}
use Rattle.cyclotron_jobs.specs.declared.input.JobInput.{JobInput}
use Rattle.event_reader.specs.declared.plan.Plan.{Plan}
use Rattle.event_reader.specs.declared.plan.PlanJob.{PlanJob}
use Rattle.event_reader.specs.Plans.{PlanOf}
use Rattle.job_counts.specs.Counts.{counted_in}
use Rattle.job_lines.specs.Lines.{LinesOf}
pub use Rattle.job_batch.specs.Batch.{IsCompletedOf}
use Rattle.made_plans.specs.Made.{made_draft}
use Rattle.made_jobs.specs.declared.making.MadeCounts.{MadeCounts}

-- what the jobs of a plan begin with, in order
abbrev pub inputs_of_jobs : List PlanJob → List JobInput
inputs_of_jobs jobs = map (λ job. job.input) jobs

-- The plan of n has these inputs, in order, and these are the counts of its events, of its jobs, and of the lines that the meanings
-- of their sources show.
pub record Makes (n : ℕ) (inputs : List JobInput) (counts : MadeCounts) : Type 0 where
  pub plan : Plan
  pub is_plan : PlanOf (made_draft n) plan
  pub begins : inputs ≡ inputs_of_jobs plan.jobs
  pub seen : List Shown
  pub lines : AllZip LinesOf inputs seen
  pub counted : counts ≡ record { events = plan.events; jobs = length inputs; lines = counted_in seen }
