use Rattle.bytecode_safety.proofs.Top.{accepted_rests}
use Rattle.bytecode_safety.proofs.accepted_rests.Goals as goal

pub returns : goal.returns
returns c = accepted_rests
