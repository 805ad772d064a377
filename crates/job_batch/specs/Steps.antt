-- The rows of a batch on the way. No reader has to trust this file.
use Rattle.std.specs.Prelude.{◌≡◌, ◌≤◌, List, [], ◌∷◌, ◌++◌, length}
use Rattle.hog_meaning.specs.Meaning.{most_requests}
use Rattle.cyclotron_jobs.specs.declared.row.Row.{Row}
use Rattle.cyclotron_jobs.specs.declared.row.JobState.TheVariants.{Completed}
use Rattle.queue_drain.specs.Drained.{IsWaiting}
use Rattle.job_batch.specs.declared.batch.BatchJob.{BatchJob}

-- the row is that of the job, due at the moment 0 and without replies
pub record IsNewOf (job : BatchJob) (row : Row) : Type 0 where
  pub input : row.input ≡ job.input
  pub waits : IsWaiting 0 row
  pub none : row.replies ≡ []

-- one row more: that of the job
pub record AddsRow (job : BatchJob) (old new : List Row) : Type 0 where
  pub row : Row
  pub is : IsNewOf job row
  pub rows : new ≡ old ++ row ∷ []

-- the row is that of the job, which is completed, and it has no more replies than a run may ask for
pub record IsEndedOf (job : BatchJob) (row : Row) : Type 0 where
  pub input : row.input ≡ job.input
  pub state : row.state ≡ Completed
  pub few : length row.replies ≤ most_requests
