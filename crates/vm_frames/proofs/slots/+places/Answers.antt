use Rattle.std.proofs.Common.{ap, arith}
use Rattle.hog_ops.specs.Table.{span}
use Rattle.vm_frames.specs.Places.{slots_of}
use Rattle.vm_frames.proofs.Elements.{ops_more, size_within}
use Rattle.vm_frames.proofs.slots.+places.Goals as goal

pub add_code-add_op-requires : goal.add_code-add_op-requires
add_code-add_op-requires t c =
    let within = size_within c.ops-op-items.result.now c.loop-op.op-index c.op-item.result c.loop-op-test.true c.op-item.is in
    let all = ap span c.ops-op-items.ensures.value in
    omega (arith, c.decreases, within, all)

pub add_code-loop-op-preserved : goal.add_code-loop-op-preserved
add_code-loop-op-preserved t c =
    ops_more c.ops-op-items.result.now c.loop-op.op-index c.op-item.result (slots_of c.args.places.now.items) (slots_of c.loop-op.places.items) (slots_of c.add_op.new.places.items)
    c.loop-op-test.true c.op-item.is c.loop-op.invariant c.in_ok-add_op.ensures
