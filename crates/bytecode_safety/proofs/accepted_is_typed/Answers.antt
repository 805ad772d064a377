use Rattle.bytecode_safety.proofs.Pass.{typed}
use Rattle.bytecode_safety.proofs.accepted_is_typed.Goals as goal

pub returns : goal.returns
returns c = λ code accepted. typed code accepted.shapes accepted.is
