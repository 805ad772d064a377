use Rattle.std.proofs.Common.{◌≡◌, take}
use Rattle.hog_ops.specs.Table.{span}
use Rattle.hog_ops.specs.View.{ops_of}
use Rattle.hog_ops.proofs.operation.Code.new.Given as goal

abbrev pub invariant-loop-op : goal.invariant-loop-op
invariant-loop-op l = l.elements ≡ span (ops_of (take l.op-index l.op-items))
