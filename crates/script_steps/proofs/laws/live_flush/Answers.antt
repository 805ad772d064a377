use Rattle.script_steps.proofs.HeadlineLemmas.{live_flush}
use Rattle.script_steps.proofs.laws.live_flush.Goals as goal

pub returns : goal.returns
returns c = live_flush
