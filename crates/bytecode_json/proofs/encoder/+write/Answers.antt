use Rattle.std.proofs.Common.{ap, arith}
use Rattle.hog_ops.specs.Table.{span}
use Rattle.bytecode_front.specs.Views.{views}
use Rattle.bytecode_json.proofs.Written.{ops_more, ops_fit_more, size_within}
use Rattle.bytecode_json.proofs.encoder.+write.Goals as goal

pub write_code-write_op-requires : goal.write_code-write_op-requires
write_code-write_op-requires t c =
    let xs = c.ops-op-items.result.now in
    let within = size_within xs c.loop-op.op-index c.op-item.result c.loop-op-test.true c.op-item.is in
    let all = ap span c.ops-op-items.ensures.value in
    (omega (arith, c.decreases, within, all), omega (arith, within, all, c.ops-op-items.ensures.code.short))

pub write_code-loop-op-preserved : goal.write_code-loop-op-preserved
write_code-loop-op-preserved t c =
    let xs = c.ops-op-items.result.now in
    let i = c.loop-op.op-index in
    let x = c.op-item.result in
    record {
      written = ops_more xs i x (views c.args.items.now.items) (views c.loop-op.items.items) (views c.write_op.new.items.items) c.loop-op-test.true c.op-item.is c.loop-op.invariant.written c.in_ok-write_op.ensures.written;
      fits = ops_fit_more xs i x c.loop-op-test.true c.op-item.is c.loop-op.invariant.fits c.in_ok-write_op.ensures.fits;
    }
