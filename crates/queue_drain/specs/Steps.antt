-- What the steps of a drain leave. No reader has to trust this file.
use Rattle.std.specs.Prelude.{ℕ, ◌≡◌, ◌+◌, ◌-◌, ◌*◌, ◌^◌, ◌<◌, ◌≤◌, ◌⊎◌, Bool, [], ◌∷◌, ◌++◌, length, Option, Some, slice_get, slice_set}
use Rattle.cyclotron_jobs.specs.declared.row.Row.{Row}
use Rattle.cyclotron_jobs.specs.declared.row.JobState.TheVariants.{Available, Completed}
use Rattle.cyclotron_jobs.specs.declared.row.QueueName.{QueueName}
use Rattle.cyclotron_jobs.specs.declared.row.QueueName.TheVariants as queue
use Rattle.cyclotron_jobs.specs.declared.entry.Entry.{Entry}
use Rattle.cyclotron_jobs.specs.Leases.{LeaseOf}
use Rattle.cyclotron_core.specs.Queue.{QueueOf}
use Rattle.cyclotron_core.specs.Changes.{IsLeaseAt, IsTake}
use Rattle.cyclotron_core.specs.Refusals.{IsOwner}
use Rattle.queue_drain.specs.Drained.{IsSameJob, IsWaiting, IsWorkAt}

-- One more than the operations that a run can still do, twice, and one for a request that has no reply. A run does some, and a
-- reply takes the one away, so each step lowers it.
abbrev pub request_on : QueueName → ℕ
request_on queue.Hog = 0
request_on queue.Fetch = 1

abbrev pub left_of : Row → ℕ
left_of row = 2 * (2 ^ 64 - row.ops) + request_on row.queue

-- the leased job went on: it is available or completed, less is left of it, and its replies are few where they were
pub record GoesOn (most : ℕ) (leased after : Row) : Type 0 where
  pub same : IsSameJob leased after
  pub rests : (after.state ≡ Available) ⊎ (after.state ≡ Completed)
  pub less : left_of after < left_of leased
  pub few : length leased.replies ≤ most → length after.replies ≤ most

-- the job that is due first on one of the queues was taken
pub record IsTaken {K : Type 0} (tells : Bool) (held : K → ℕ → Option Row) (old new : QueueOf K) (now : ℕ) (lease : LeaseOf) : Type 0 where
  pub on : QueueName
  pub take : IsTake tells held old new on now lease

-- the lease is that of a row, and its lock is live
pub record IsLive {K : Type 0} (q : QueueOf K) (lease : LeaseOf) : Type 0 where
  pub leased : IsLeaseAt q.rows lease.lock.job lease.lock lease
  pub owner : IsOwner q.history lease.lock

-- the product of a lease was flushed
pub record IsFlushed {K : Type 0} (most : ℕ) (old new : QueueOf K) (job : ℕ) : Type 0 where
  pub leased : Row
  pub there : slice_get old.rows job ≡ Some leased
  pub after : Row
  pub rows : new.rows ≡ slice_set old.rows job after
  pub goes_on : GoesOn most leased after
  pub entry : Entry
  pub work : (now : ℕ) → IsWorkAt now entry
  pub history : new.history ≡ old.history ++ entry ∷ []

-- a job that was due went on, and no other row changed
pub record IsStep {K : Type 0} (most now : ℕ) (old new : QueueOf K) : Type 0 where
  pub job : ℕ
  pub before : Row
  pub there : slice_get old.rows job ≡ Some before
  pub waits : IsWaiting now before
  pub after : Row
  pub rows : new.rows ≡ slice_set old.rows job after
  pub goes_on : GoesOn most before after
