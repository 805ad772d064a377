use Rattle.std.proofs.Common.{ap, arith}
use Rattle.hog_ops.specs.Table.{span}
use Rattle.bytecode_check.proofs.Telling.{next_within, left_within}
use Rattle.bytecode_check.proofs.checker.+pass.Goals as goal

pub check_code-check_op-requires : goal.check_code-check_op-requires
check_code-check_op-requires t c =
    let xs = c.ops-op-items.result.now in
    let i = c.loop-op.op-index in
    let next = next_within xs i c.op-item.result c.loop-op-test.true c.op-item.is in
    let less = left_within xs i in
    let all = ap span c.ops-op-items.ensures.value in
    let at = c.loop-op.invariant.at in
    let r = c.requires in
    (omega (arith, c.decreases, next, less, all), omega (arith, next, all, at, r))
