-- What is kept of a machine that is saved.
use Rattle.std.specs.Prelude.{ℕ, Bool, true, false}
use Rattle.hog_value.specs.declared.trace.End.{End}
use Rattle.hog_value.specs.declared.trace.End.TheVariants as end
use Rattle.vm_course.specs.Run.{RunState}
use Rattle.vm_state.specs.declared.parts.Format.{Format}

-- what was read of a text: its format, the number of requests that it says, and the machine
pub record Written : Type 0 where
  pub format : Format
  pub asked : ℕ
  pub saved : RunState

abbrev pub is_fetches : End → Bool
is_fetches (end.Done t) = false
is_fetches (end.Threw t) = false
is_fetches end.TurnsSpent = false
is_fetches end.MemorySpent = false
is_fetches end.TooDeep = false
is_fetches end.TooManyFetches = true
