use Rattle.std.proofs.Common.{refl}
use Rattle.job_pool.proofs.Gone.{gone-call}
use Rattle.job_pool.proofs.shared.Shared.beat.Goals as goal

pub invariant_of-self : goal.invariant_of-self
invariant_of-self g c = gone-call c.self.invariant c.beat.ensures.count _ _ c.beat.result _ _ _ c.beat.ensures.ok c.beat.ensures.err c.requires (λ row. record { job = refl; input = refl; priority = refl })
