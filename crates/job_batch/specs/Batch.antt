-- Jobs of a batch, and the rows that they end with.
use Rattle.std.specs.Prelude.{◌≡◌, ℕ, List, map}
use Rattle.hog_outside.specs.Faults.{Rose}
use Rattle.cyclotron_jobs.specs.declared.input.JobInput.{JobInput}
use Rattle.cyclotron_jobs.specs.declared.row.JobState.TheVariants.{Completed}
use Rattle.cyclotron_jobs.specs.declared.row.Row.{Row}
use Rattle.hog_jobs.specs.Inputs.{IsInput}
use Rattle.hog_jobs.specs.Rows.{KeepsTheMeaning}
use Rattle.job_lines.specs.Lines.{AreListed, LinesOf}
use Rattle.job_batch.specs.declared.batch.BatchJob.{BatchJob}
use Rattle.job_batch.specs.declared.batch.BatchStop.{BatchStop}
use Rattle.job_batch.specs.declared.batch.BatchStop.TheVariants as stop

-- the inputs of the jobs, in order
abbrev pub inputs_in : List BatchJob → List JobInput
inputs_in jobs = map (λ job. job.input) jobs

-- the course takes the job's input, and its replies are those of a list
pub record CanRun (job : BatchJob) : Type 0 where
  pub taken : IsInput job.input
  pub listed : AreListed job.input.answers

-- the row is that of the job that began with this input, and it is completed
pub record IsCompletedOf (handed : JobInput) (row : Row) : Type 0 where
  pub input : row.input ≡ handed
  pub state : row.state ≡ Completed

-- the row shows what a job with this input shows
abbrev pub ShowsLines : JobInput → Row → Type 0
ShowsLines input row = LinesOf input row.shown

-- A fault of the keeper comes only where its count rose, and the queue keeps the meaning of its jobs then too.
abbrev pub IsKeeperStop : {K : Type 0} → (K → ℕ) → K → BatchStop K → Type 0
IsKeeperStop faults keeper (stop.Keeper queue) = Rose (faults keeper) (faults queue.keeper) × KeepsTheMeaning queue.rows queue.history
IsKeeperStop faults keeper stop.OutOfMemory = Unit {0}
