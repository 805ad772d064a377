use Rattle.std.proofs.Common.{◌≡◌, ◌+◌, ◌*◌, ◌++◌, map, take}
use Rattle.hog_ops.specs.Elements.{elements}
use Rattle.hog_ops.specs.Ranges.{OpsFit}
use Rattle.hog_ops.specs.Table.{size, span}
use Rattle.hog_ops.specs.View.{op_of, ops_of}
use Rattle.bytecode_front.specs.Elements.{elem_data}
use Rattle.bytecode_front.specs.Views.{views}
use Rattle.bytecode_json.proofs.encoder.+write.Given as goal

abbrev pub decreases-write_op : goal.decreases-write_op
decreases-write_op l = 2 * size (op_of l.op.now)

abbrev pub decreases-write_code : goal.decreases-write_code
decreases-write_code l = 2 * span l.code.now + 1

abbrev pub invariant-write_code-loop-op : goal.invariant-write_code-loop-op
invariant-write_code-loop-op l = record {
  written : views l.items.items ≡ views l.fn.items.items ++ map elem_data (elements (ops_of (take l.op-index l.op-items)));
  fits : OpsFit (ops_of (take l.op-index l.op-items));
}
