-- What the steps of a slice of work leave. No reader has to trust this file.
use Rattle.std.specs.Prelude.{◌≡◌, ℕ, ◌+◌, ◌<◌, ◌≤◌, ◌^◌, ◌⊎◌, List, true, Some, slice_get}
use Rattle.hog_ops.specs.Plain.{Ops}
use Rattle.hog_meaning.specs.World.{Reply}
use Rattle.vm_course.specs.State.{Running, Waiting}
use Rattle.vm_course.specs.Run.{RunState, resumed}
use Rattle.vm_course.specs.Belongs.{belongs}
use Rattle.hog_jobs.specs.Course.{IsRunAt}
use Rattle.hog_jobs.specs.Laws.{GoesOn}

-- The run is that of so many operations on course, and it goes on, or waits for a reply that is there.
pub record IsLoaded (code : Ops) (globals : List ℕ) (replies : List Reply) (ops : ℕ) (r : RunState) : Type 0 where
  pub at : IsRunAt code globals replies ops r
  pub belongs : belongs code r ≡ true
  pub goes_on : GoesOn r.state.mode replies r.used
  pub few : ops < 2 ^ 63

-- The run goes on and is as it was, or it waited and has taken in the next reply.
abbrev pub TakesNext : List Reply → RunState → RunState → Type 0
TakesNext replies old new =
    ((old.state.mode ≡ Running) × (new ≡ old))
    ⊎ ((old.state.mode ≡ Waiting) × (reply : Reply) × (slice_get replies old.used ≡ Some reply) × (new ≡ resumed reply old))

-- The run is on course. An operation was done since so many, or none and it goes on.
pub record IsTakenUp (code : Ops) (globals : List ℕ) (replies : List Reply) (ops : ℕ) (r : RunState) : Type 0 where
  pub at : IsRunAt code globals replies r.ops r
  pub belongs : belongs code r ≡ true
  pub first : (r.ops ≡ ops + 1) ⊎ ((r.ops ≡ ops) × (r.state.mode ≡ Running))
  pub few : r.ops ≤ 2 ^ 63
