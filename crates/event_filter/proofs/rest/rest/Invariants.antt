use Rattle.std.proofs.Common.{◌≡◌, [], ◌-◌, ◌≤◌, ◌^◌, true, false}
use Rattle.hogvm.specs.Calls.{is_globals}
use Rattle.vm_course.specs.Run.{IsRunOf}
use Rattle.vm_course.specs.Belongs.{belongs}
use Rattle.event_filter.proofs.rest.rest.Given as goal

abbrev pub invariant-loop-machine : goal.invariant-loop-machine
invariant-loop-machine l = record {
  on : IsRunOf l.program.code l.globals [] l.machine.run;
  fresh : l.machine.spent ≡ false;
  belongs : belongs l.program.code l.machine.run ≡ true;
  short : l.machine.run.ops ≤ 2 ^ 49;
  object : is_globals l.globals ≡ true;
}

abbrev pub decreases-loop-machine : goal.decreases-loop-machine
decreases-loop-machine l = 2 ^ 49 - l.machine.run.ops
