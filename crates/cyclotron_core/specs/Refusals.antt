-- When a call under a lease is refused.
use Rattle.std.specs.Prelude.{ℕ, ◌≡◌, ◌≢◌, ◌<◌, ◌≤◌, List, length, slice_get, Option, Some}
use Rattle.lock_ids.specs.declared.lock.LockId.{LockId}
use Rattle.cyclotron_jobs.specs.declared.input.JobInput.{JobInput}
use Rattle.cyclotron_jobs.specs.declared.input.Reply.{Reply}
use Rattle.cyclotron_jobs.specs.declared.row.Row.{Row}
use Rattle.cyclotron_jobs.specs.declared.entry.Entry.{Entry}
use Rattle.cyclotron_jobs.specs.Leases.{AdvanceOf, AnsweredOf}
use Rattle.cyclotron_jobs.specs.declared.refused.LeaseStop.{LeaseStop}
use Rattle.cyclotron_jobs.specs.declared.refused.LeaseStop.TheVariants.{UnknownJob, WrongLock, NotThisRun, OutOfMemory, Keeper}
use Rattle.queue_history.specs.Facts.{facts_of, jobs_of}
use Rattle.hog_outside.specs.Faults.{Rose}
use Rattle.cyclotron_core.specs.Queue.{QueueOf}

-- the lock is live: its job is there and it is the job's owner
pub record IsOwner (history : List Entry) (lock : LockId) : Type 0 where
  pub there : lock.job < jobs_of history
  pub owner : (facts_of lock.job history).owner ≡ Some lock

-- the lock's job is there, and its owner is another one, or none
pub record IsOwnedBy (history : List Entry) (lock : LockId) (live : Option LockId) : Type 0 where
  pub there : lock.job < jobs_of history
  pub owner : (facts_of lock.job history).owner ≡ live
  pub other : live ≢ Some lock

-- what is flushed began at the committed state of the job
pub record BeganAt (rows : List Row) (job : ℕ) (input : JobInput) (sent : List Reply) (from : ℕ) : Type 0 where
  pub row : Row
  pub there : slice_get rows job ≡ Some row
  pub same_input : input ≡ row.input
  pub same_replies : sent ≡ row.replies
  pub same_ops : from ≡ row.ops

-- a run that began at the committed state of the job, and an answer that did
abbrev pub RunBegan : List Row → ℕ → AdvanceOf → Type 0
RunBegan rows job run = BeganAt rows job run.input run.replies run.from

abbrev pub AnswerBegan : List Row → ℕ → AnsweredOf → Type 0
AnswerBegan rows job answered = BeganAt rows job answered.input answered.replies answered.from

-- the keeper's count of faults rose in a call
abbrev pub KeeperRose : {K : Type 0} → (K → ℕ) → QueueOf K → QueueOf K → Type 0
KeeperRose faults old new = Rose (faults old.keeper) (faults new.keeper)

-- When each refusal comes, in this order. `began` says that what is flushed began at the committed state, and `rose`
-- that the keeper's count of faults rose. Each answer implies its cause, and the causes exclude one another.
abbrev pub Refuses : List Entry → LockId → (began rose : Type 0) → LeaseStop → Type 0
Refuses history lock began rose UnknownJob = jobs_of history ≤ lock.job
Refuses history lock began rose (WrongLock live) = IsOwnedBy history lock live
Refuses history lock began rose NotThisRun = IsOwner history lock × ¬ began
Refuses history lock began rose OutOfMemory = IsOwner history lock × began
Refuses history lock began rose Keeper = IsOwner history lock × began × rose

-- the lock's job has a row with that lock
pub record Finds (rows : List Row) (lock : LockId) (at : ℕ) : Type 0 where
  pub job : at ≡ lock.job
  pub within : at < length rows
  pub row : Row
  pub there : slice_get rows at ≡ Some row
  pub live : row.lock ≡ Some lock

-- how the search for the row of a lock fails
abbrev pub FindFails : List Entry → LockId → LeaseStop → Type 0
FindFails history lock UnknownJob = jobs_of history ≤ lock.job
FindFails history lock (WrongLock live) = IsOwnedBy history lock live
FindFails history lock NotThisRun = ⊥
FindFails history lock OutOfMemory = ⊥
FindFails history lock Keeper = ⊥
