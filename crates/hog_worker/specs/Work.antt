-- The run that a slice of work on a lease gives.
use Rattle.std.specs.Prelude.{◌≡◌, ◌≢◌, ℕ, ◌+◌, ◌-◌, ◌<◌, ◌≤◌, ◌⊎◌, List}
use Rattle.hog_ops.specs.Plain.{Ops}
use Rattle.hog_meaning.specs.World as world
use Rattle.vm_course.specs.State.{Running}
use Rattle.vm_course.specs.Course.{machine}
use Rattle.hog_program.specs.Program.{HasCode}
use Rattle.cyclotron_jobs.specs.Leases.{LeaseOf, AdvanceOf}
use Rattle.hog_jobs.specs.Course.{replies_of}
use Rattle.hog_jobs.specs.Jobs.{IsCourse}

-- A slice of at most so many operations leads from one number of operations to another: to the least above at which all are
-- done, or the machine waits, or it has ended. The start is the first operation.
pub record IsSlice (code : Ops) (globals : List ℕ) (replies : List world.Reply) (slice from to : ℕ) : Type 0 where
  pub above : from < to
  pub most : to ≤ from + slice
  pub runs : (k : ℕ) → from < k → k < to → (machine code globals replies (k - 1)).mode ≡ Running
  pub stops : (to ≡ from + slice) ⊎ ((machine code globals replies (to - 1)).mode ≢ Running)

-- The run goes on from the lease for a slice, and is on course: what is saved, shown and comes next is the machine's there.
pub record IsWork (lease : LeaseOf) (slice : ℕ) (run : AdvanceOf) : Type 0 where
  pub input : run.input ≡ lease.input
  pub replies : run.replies ≡ lease.replies
  pub from : run.from ≡ lease.ops
  pub code : Ops
  pub source : HasCode run.input.source code
  pub steps : IsSlice code run.input.globals (replies_of run.replies) slice run.from run.to
  pub course : IsCourse run.input run.replies run.to run.saved run.shown run.after
