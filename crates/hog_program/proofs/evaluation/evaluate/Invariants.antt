use Rattle.std.proofs.Common.{◌≡◌, [], ◌-◌, ◌≤◌, ◌^◌, true, false}
use Rattle.vm_course.specs.Run.{IsRunOf}
use Rattle.vm_course.specs.Belongs.{belongs}
use Rattle.hog_program.proofs.evaluation.evaluate.Given as goal

abbrev pub invariant-loop-machine : goal.invariant-loop-machine
invariant-loop-machine l = record {
  on : IsRunOf l.code l.globals [] l.machine.run;
  fresh : l.machine.spent ≡ false;
  belongs : belongs l.code l.machine.run ≡ true;
  short : l.machine.run.ops ≤ 2 ^ 49;
}

abbrev pub decreases-loop-machine : goal.decreases-loop-machine
decreases-loop-machine l = 2 ^ 49 - l.machine.run.ops
