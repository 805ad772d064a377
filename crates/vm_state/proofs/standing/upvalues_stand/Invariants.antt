use Rattle.std.proofs.Common.{◌≡◌, drop, map, []}
use Rattle.vm_frames.specs.Views.{upvalue_of}
use Rattle.vm_course.specs.States.{upvalues_stand}
use Rattle.vm_state.proofs.standing.upvalues_stand.Given as goal

abbrev pub invariant-loop-u : goal.invariant-loop-u
invariant-loop-u l = upvalues_stand l.cells l.height l.taken.keys (map upvalue_of (drop l.u-index l.upvalues)) ≡ upvalues_stand l.cells l.height [] (map upvalue_of l.upvalues)
