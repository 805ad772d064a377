-- What a flush promises, whatever it commits.
use Rattle.std.specs.Prelude.{ℕ, ◌≡◌, ◌≤◌, ◌↔◌, Bool, true, Option, Result, IsOk, OnOk, OnErr, IfErr, IsErrAnd}
use Rattle.lock_ids.specs.declared.lock.LockId.{LockId}
use Rattle.cyclotron_jobs.specs.declared.row.Row.{Row}
use Rattle.cyclotron_jobs.specs.declared.entry.Entry.{Entry}
use Rattle.cyclotron_jobs.specs.declared.refused.Refused.{Refused}
use Rattle.cyclotron_jobs.specs.declared.refused.LeaseStop.TheVariants.{UnknownJob, WrongLock, NotThisRun}
use Rattle.queue_history.specs.Facts.{jobs_of}
use Rattle.cyclotron_core.specs.Queue.{QueueOf}
use Rattle.cyclotron_core.specs.Changes.{IsOneStep, IsUntouched}
use Rattle.cyclotron_core.specs.Refusals.{IsOwner, IsOwnedBy, KeeperRose, Refuses}

-- Under the lock of a job's owner, a value that began at the committed state of the job (`begun`) is committed: the row
-- is changed and the entry appended. Each refusal comes exactly where it should; it changes nothing, and hands the value
-- back. Over a keeper that is sure, and with room for an entry, there is no other refusal.
pub record Flushes {K V : Type 0} (faults : K → ℕ) (tells : Bool) (held : K → ℕ → Option Row) (sure : Bool) (old new : QueueOf K)
    (lock : LockId) (begun : Type 0) (change : Row → Row) (entry : Entry) (flushed : V) (result : Result (Unit {0}) (Refused V)) : Type 0 where
  pub ok : OnOk result (IsOneStep tells held old new lock.job change entry)
  pub owner : OnOk result (IsOwner old.history lock)
  pub began : OnOk result begun
  pub unknown_job : IsErrAnd result (λ r. r.stop ≡ UnknownJob) ↔ (jobs_of old.history ≤ lock.job)
  pub wrong_lock : (live : Option LockId) → IsErrAnd result (λ r. r.stop ≡ WrongLock live) ↔ IsOwnedBy old.history lock live
  pub not_this_run : IsErrAnd result (λ r. r.stop ≡ NotThisRun) ↔ (IsOwner old.history lock × ¬ begun)
  pub refused : IfErr result (λ r. Refuses old.history lock begun (KeeperRose faults old new) r.stop)
  pub back : IfErr result (λ r. r.back ≡ flushed)
  pub err : OnErr result (IsUntouched tells held old new)
  pub succeeds : sure ≡ true → 1 ≤ old.spare → IsOwner old.history lock → begun → IsOk result
  pub count : faults old.keeper ≤ faults new.keeper
