use Rattle.job_pool.proofs.Gone.{gone-take}
use Rattle.job_pool.proofs.shared.Shared.take.Goals as goal

pub invariant_of-self : goal.invariant_of-self
invariant_of-self g c = gone-take c.self.invariant c.take.ensures.count _ _ _ _ c.take.result c.take.ensures.some c.take.ensures.idle c.take.ensures.err c.requires
