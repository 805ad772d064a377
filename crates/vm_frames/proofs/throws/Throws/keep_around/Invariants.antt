use Rattle.std.proofs.Common.{◌≡◌, length}
use Rattle.std.specs.Prelude.{reverse}
use Rattle.vm_course.specs.Step.{throws_around}
use Rattle.vm_frames.proofs.throws.Throws.keep_around.Given as goal

abbrev pub invariant-loop-t : goal.invariant-loop-t
invariant-loop-t l = throws_around l.frames (reverse l.self-inside.list.items) ≡ throws_around l.frames l.fn.self

abbrev pub decreases-loop-t : goal.decreases-loop-t
decreases-loop-t l = length l.self-inside.list.items
