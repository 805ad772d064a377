use Rattle.std.proofs.Common.{◌≡◌, drop}
use Rattle.vm_course.specs.States.{throws_stand}
use Rattle.vm_state.proofs.standing.throws_stand.Given as goal

abbrev pub invariant-loop-t : goal.invariant-loop-t
invariant-loop-t l = throws_stand l.frames l.height l.fewest l.lowest (drop l.t-index l.throws) ≡ throws_stand l.frames l.height 0 0 l.throws
