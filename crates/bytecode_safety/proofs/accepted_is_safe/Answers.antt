use Rattle.bytecode_safety.proofs.Top.{accepted_is_safe}
use Rattle.bytecode_safety.proofs.accepted_is_safe.Goals as goal

pub returns : goal.returns
returns c = accepted_is_safe
