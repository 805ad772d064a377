use Rattle.std.proofs.Common.{◌≡◌, ◌+◌, ◌*◌, drop}
use Rattle.hog_ops.specs.Table.{size, span}
use Rattle.hog_ops.specs.View.{op_of, ops_of}
use Rattle.bytecode_check.specs.Verify.{check_all}
use Rattle.bytecode_check.proofs.checker.+pass.Given as goal

abbrev pub decreases-check_op : goal.decreases-check_op
decreases-check_op l = 3 * size (op_of l.op.now)

abbrev pub decreases-check_body : goal.decreases-check_body
decreases-check_body l = 3 * span l.body.now + 2

abbrev pub decreases-check_code : goal.decreases-check_code
decreases-check_code l = 3 * span l.code.now + 1

abbrev pub invariant-check_code-loop-op : goal.invariant-check_code-loop-op
invariant-check_code-loop-op l = record {
  goes : check_all l.around l.at (ops_of (drop l.op-index l.op-items)) l.shapes ≡ check_all l.around l.fn.start (ops_of l.op-items) l.fn.shapes;
  at : l.at + span (ops_of (drop l.op-index l.op-items)) ≡ l.fn.start + span (ops_of l.op-items);
}
