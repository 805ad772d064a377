use Rattle.job_pool.proofs.Gone.{gone-turn}
use Rattle.job_pool.proofs.shared.Shared.sweep.Goals as goal

pub invariant_of-self : goal.invariant_of-self
invariant_of-self g c = gone-turn c.self.invariant c.turn.ensures.count _ c.turn.result c.turn.ensures.swept c.turn.ensures.err c.requires
