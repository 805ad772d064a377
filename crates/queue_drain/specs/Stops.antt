-- Why queues are not worked to their ends.
use Rattle.cyclotron_jobs.specs.declared.refused.LeaseStop.{LeaseStop}
use Rattle.cyclotron_jobs.specs.declared.refused.LeaseStop.TheVariants as lease
use Rattle.cyclotron_core.specs.declared.stop.TakeStop.{TakeStop}
use Rattle.cyclotron_core.specs.declared.stop.TakeStop.TheVariants as take
use Rattle.queue_drain.specs.declared.stop.DrainStop.{DrainStop}
use Rattle.queue_drain.specs.declared.stop.DrainStop.TheVariants as drain

-- what a refused take is to the drain
abbrev pub of_take : TakeStop → DrainStop
of_take take.OutOfMemory = drain.OutOfMemory
of_take take.Keeper = drain.Keeper

-- why alone a flush under the live lock is refused that began at the committed state
abbrev pub IsStopOf : LeaseStop → Type 0
IsStopOf lease.UnknownJob = ⊥
IsStopOf (lease.WrongLock live) = ⊥
IsStopOf lease.NotThisRun = ⊥
IsStopOf lease.OutOfMemory = Unit {0}
IsStopOf lease.Keeper = Unit {0}
