use Rattle.script_steps.proofs.HeadlineLemmas.{dead_flush}
use Rattle.script_steps.proofs.laws.dead_flush.Goals as goal

pub returns : goal.returns
returns c = dead_flush
