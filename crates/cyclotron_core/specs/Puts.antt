-- What a keeper does with a changed row, and how it refuses one.
use Rattle.std.specs.Prelude.{ℕ, ◌≡◌, ◌≤◌, Bool, true, false, Option}
use Rattle.cyclotron_jobs.specs.declared.row.Row.{Row}
use Rattle.cyclotron_jobs.specs.declared.refused.LeaseStop.{LeaseStop}
use Rattle.cyclotron_jobs.specs.declared.refused.LeaseStop.TheVariants as lease
use Rattle.job_keeper.specs.declared.keeper.KeepStop.{KeepStop}
use Rattle.job_keeper.specs.declared.keeper.KeepStop.TheVariants as keep
use Rattle.job_keeper.specs.Held.{PutsRow, SameRows}
use Rattle.cyclotron_core.specs.declared.stop.EnqueueStop.{EnqueueStop}
use Rattle.cyclotron_core.specs.declared.stop.EnqueueStop.TheVariants as enqueue
use Rattle.cyclotron_core.specs.declared.stop.TakeStop.{TakeStop}
use Rattle.cyclotron_core.specs.declared.stop.TakeStop.TheVariants as take

-- the keeper was told of a row, which it kept or not
pub record IsPut {K : Type 0} (faults : K → ℕ) (tells : Bool) (held : K → ℕ → Option Row) (sure : Bool) (old new : K) (row : Row) (kept : Bool) : Type 0 where
  pub count : faults old ≤ faults new
  pub ok : kept ≡ true → PutsRow tells (held old) (held new) row
  pub err : kept ≡ false → SameRows tells (held old) (held new)
  pub always : sure ≡ true → kept ≡ true

-- how a call under a lease is refused by the keeper, whose count of faults rose or not
abbrev pub LeaseFails : Type 0 → LeaseStop → Type 0
LeaseFails rose lease.UnknownJob = ⊥
LeaseFails rose (lease.WrongLock live) = ⊥
LeaseFails rose lease.NotThisRun = ⊥
LeaseFails rose lease.OutOfMemory = Unit {0}
LeaseFails rose lease.Keeper = rose

abbrev pub lease_stop_of : KeepStop → LeaseStop
lease_stop_of keep.Failed = lease.Keeper
lease_stop_of keep.OutOfMemory = lease.OutOfMemory

-- how a take or a sweep is refused by the keeper
abbrev pub TakeFails : Type 0 → TakeStop → Type 0
TakeFails rose take.OutOfMemory = Unit {0}
TakeFails rose take.Keeper = rose

abbrev pub take_stop_of : KeepStop → TakeStop
take_stop_of keep.Failed = take.Keeper
take_stop_of keep.OutOfMemory = take.OutOfMemory

-- how a call that adds a job is refused, where its row is
abbrev pub enqueue_stop_of : TakeStop → EnqueueStop
enqueue_stop_of take.OutOfMemory = enqueue.OutOfMemory
enqueue_stop_of take.Keeper = enqueue.Keeper
