use Rattle.std.proofs.Common.{sym, ◌∙◌}
use Rattle.hog_ops.specs.View.{op_of}
use Rattle.vm_operations.specs.Here.{here_of}
use Rattle.vm_operations.proofs.Landing.{on_ok}
use Rattle.vm_operations.proofs.Steps.{operated}
use Rattle.vm_operations.proofs.state.State.operate.Goals as goal

pub returns : goal.returns
returns c =
    on_ok c.binary.result (λ is fixed code. is ∙ operated fixed code (op_of c.args.op.now) c.in-Some.operator (here_of c.args.behind c.args.self.now) c.args.self.now (sym c.in-Some.is ∙ c.operator_of.ensures)) c.binary.ensures
