use Rattle.bytecode_safety.proofs.Top.{accepted_is_bounded}
use Rattle.bytecode_safety.proofs.accepted_is_bounded.Goals as goal

pub returns : goal.returns
returns c = accepted_is_bounded
