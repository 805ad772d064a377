use Rattle.std.proofs.Common.{◌≡◌, ◌++◌}
use Rattle.std.specs.Prelude.{replicate}
use Rattle.vm_course.specs.State.{Operand}
use Rattle.vm_frames.specs.Places.{slots_of}
use Rattle.vm_frames.proofs.slots.add_operands.Given as goal

abbrev pub invariant-loop-i : goal.invariant-loop-i
invariant-loop-i l = slots_of l.places.items ≡ slots_of l.fn.places.items ++ replicate l._i Operand
