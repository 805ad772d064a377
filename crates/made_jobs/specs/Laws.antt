-- What the laws of the made plan say.
use Rattle.std.specs.Prelude.{ℕ, ◌≤◌, ◌*◌, ◌+◌, List, length}
use Rattle.std.specs.List.{All}
use Rattle.event_reader.specs.declared.plan.BrokenRun.{BrokenRun}
use Rattle.event_reader.specs.declared.plan.PlanJob.{PlanJob}
use Rattle.event_reader.specs.declared.stop.PlanStop.{PlanStop}
use Rattle.event_reader.specs.Plans.{Makes, NoPlanOf}
use Rattle.made_plans.specs.Made.{made_draft}
use Rattle.made_jobs.specs.Jobs.{IsSmallJob}

-- the jobs that a made draft makes are few, and each is small
pub record AreSmallJobs (n : ℕ) (jobs : List PlanJob) : Type 0 where
  pub few : length jobs ≤ (n + 1000) * 3
  pub small : All IsSmallJob jobs

abbrev pub MadeJobsAreSmall : Type 0
MadeJobsAreSmall = (n : ℕ) (jobs : List PlanJob) (broken : List BrokenRun) → Makes (made_draft n) jobs broken → AreSmallJobs n jobs

-- the made draft of a number of at most 3,000 has no refusal
abbrev pub MadeIsAPlan : Type 0
MadeIsAPlan = (n : ℕ) (stop : PlanStop) → n ≤ 3000 → NoPlanOf (made_draft n) stop → ⊥
