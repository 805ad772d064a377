-- The state that contracts see of a machine.
use Rattle.std.specs.Prelude.{[], ◌∷◌, Bool, true, false, Option, Some, None}
use Rattle.hog_value.specs.declared.trace.End.{End}
use Rattle.vm_operations.specs.declared.state.State.TheInside.{Inside}
use Rattle.vm_course.specs.State.{Running, Waiting, Ended, Mode, State}

-- it has ended where an end is shown, and else it may wait
abbrev pub mode_of : Bool → Option End → Mode
mode_of waiting (Some e) = Ended e
mode_of true None = Waiting
mode_of false None = Running

-- replies aren't part of a machine
abbrev pub seen : Inside → State
seen a = record {
  stack = a.stack;
  frames = a.frame ∷ a.around;
  throws = a.throws;
  upvalues = a.upvalues;
  heap = a.heap;
  turns = a.meter.turns;
  units = a.meter.units;
  trace = a.shown.trace;
  replies = [];
  mode = mode_of a.waiting a.shown.end;
}
