use Rattle.std.proofs.Common.{◌+◌, ap, arith}
use Rattle.hog_ops.specs.Table.{span}
use Rattle.hog_ops.specs.View.{ops_of}
use Rattle.hog_ops.proofs.Spans.{span_more, span_take}
use Rattle.hog_ops.proofs.operation.Code.new.Goals as goal

pub overflow_cast-elements : goal.overflow_cast-elements
overflow_cast-elements c =
    let xs = c.deref-op-items.result.now in
    let i = c.loop-op.op-index in
    let all = ap (λ ys. span (ops_of ys)) c.deref-op-items.ensures.value in
    omega (arith, all, c.requires.short, span_take xs (i + 1), span_more xs i c.op-item.result c.loop-op-test.true c.op-item.is)

pub overflow_add-elements : goal.overflow_add-elements
overflow_add-elements c =
    let xs = c.deref-op-items.result.now in
    let i = c.loop-op.op-index in
    let all = ap (λ ys. span (ops_of ys)) c.deref-op-items.ensures.value in
    omega (arith, all, c.requires.short, span_take xs (i + 1), span_more xs i c.op-item.result c.loop-op-test.true c.op-item.is)

pub loop-op-preserved : goal.loop-op-preserved
loop-op-preserved c = omega (arith, span_more c.deref-op-items.result.now c.loop-op.op-index c.op-item.result c.loop-op-test.true c.op-item.is)
