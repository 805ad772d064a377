-- A machine as contracts see it, and what it keeps.
use Rattle.std.specs.Prelude.{◌≡◌, ℕ, ◌+◌, ◌<◌, List, length, Bool, Option, Some, None, IsSome, option_and_then, unwrap_or}
use Rattle.std.specs.List.{last_or}
use Rattle.hog_value.specs.declared.trace.Request.{Request}
use Rattle.hog_value.specs.declared.trace.TraceItem.{TraceItem}
use Rattle.hog_value.specs.declared.trace.TraceItem.TheVariants.{Printed, Asked}
use Rattle.vm_frames.specs.Reading.{Reading}
use Rattle.vm_course.specs.State.{Running, Waiting, Ended, Mode, State}
use Rattle.vm_course.specs.Step.{step}
use Rattle.vm_course.specs.Run.{RunState}

-- a run, and whether the machine is spent: whether it has met want of memory
pub record MachineView : Type 0 where
  pub run : RunState
  pub spent : Bool

-- the request of an item of the trace
abbrev pub request_of : TraceItem → Option Request
request_of (Printed text) = None
request_of (Asked request) = Some request

-- the request for whose reply a machine waits: the last item that it showed
abbrev pub asked_in : Mode → List TraceItem → Option Request
asked_in Running trace = None
asked_in Waiting trace = option_and_then request_of (last_or None trace)
asked_in (Ended e) trace = None

abbrev pub asked_by : State → Option Request
asked_by s = asked_in s.mode s.trace

abbrev pub HasEnded : Mode → Type 0
HasEnded Running = ⊥
HasEnded Waiting = ⊥
HasEnded (Ended e) = Unit {0}

-- the cell of the globals is there; a run without globals has ended
abbrev pub GlobalsStand : Option ℕ → State → Type 0
GlobalsStand (Some n) s = n < length s.heap
GlobalsStand None s = HasEnded s.mode

-- What a machine keeps until it is spent: the cell of its globals, and that it waits behind a request alone.
pub record IsStanding (r : RunState) : Type 0 where
  pub globals : GlobalsStand r.globals r.state
  pub asks : r.state.mode ≡ Waiting → IsSome (asked_by r.state)

-- one operation more, of a code as it is read
abbrev pub one_read : Reading → RunState → RunState
one_read code r = record r { ops = r.ops + 1; state = step (record { literals = code.literals; globals = unwrap_or r.globals 0 }) code.slots r.state }
