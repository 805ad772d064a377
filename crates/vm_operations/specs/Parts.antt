-- The run of a machine of these parts.
use Rattle.std.specs.Prelude.{[], ◌∷◌}
use Rattle.vm_course.specs.Run.{RunState}
use Rattle.vm_operations.specs.declared.parts.Parts.{Parts}
use Rattle.vm_operations.specs.Seen.{mode_of}

abbrev pub run_of : Parts → RunState
run_of p = record {
  ops = p.ops;
  used = p.used;
  globals = p.globals;
  state = record {
    stack = p.stack;
    frames = p.frame ∷ p.around;
    throws = p.throws;
    upvalues = p.upvalues;
    heap = p.heap;
    turns = p.meter.turns;
    units = p.meter.units;
    trace = p.shown.trace;
    replies = [];
    mode = mode_of p.waiting p.shown.end;
  };
}
