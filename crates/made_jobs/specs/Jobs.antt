-- The jobs of a made plan. No reader has to trust this file.
use Rattle.std.specs.Prelude.{ℕ, ◌≤◌}
use Rattle.event_reader.specs.declared.plan.PlanJob.{PlanJob}
use Rattle.event_reader.specs.Plans.{input_size}
use Rattle.job_lines.specs.Lines.{AreListed}
use Rattle.job_batch.specs.declared.batch.BatchJob.{BatchJob}

-- a job of a plan as it is enqueued
abbrev pub batch_job : PlanJob → BatchJob
batch_job job = record { input = job.input; priority = job.priority }

-- the job's replies are those of a list, and its input has at most 2,000 bytes
pub record IsSmallJob (job : PlanJob) : Type 0 where
  pub listed : AreListed job.input.answers
  pub small : input_size job.input ≤ 2000
