use Rattle.std.proofs.Common.{◌≡◌, ◌+◌, true, false}
use Rattle.vm_course.specs.Run.{run_for}
use Rattle.vm_course.specs.Belongs.{belongs}
use Rattle.hogvm.proofs.Slices.{IsAfter}
use Rattle.hogvm.proofs.slice.go.Given as goal

abbrev pub invariant-loop-i : goal.invariant-loop-i
invariant-loop-i l = IsAfter l.code l._i l.fn.machine.run l.machine
