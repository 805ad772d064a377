use Rattle.std.proofs.Common.{◌≡◌, ◌++◌, ◌+◌, ◌*◌, take}
use Rattle.hog_ops.specs.Table.{size, span}
use Rattle.hog_ops.specs.View.{op_of, ops_of}
use Rattle.vm_course.specs.State.{slots}
use Rattle.vm_frames.specs.Places.{slots_of}
use Rattle.vm_frames.proofs.slots.+places.Given as goal

abbrev pub decreases-add_op : goal.decreases-add_op
decreases-add_op l = 2 * size (op_of l.op.now)

abbrev pub decreases-add_code : goal.decreases-add_code
decreases-add_code l = 2 * span l.code.now + 1

abbrev pub invariant-add_code-loop-op : goal.invariant-add_code-loop-op
invariant-add_code-loop-op l = slots_of l.places.items ≡ slots_of l.fn.places.items ++ slots (ops_of (take l.op-index l.op-items))
