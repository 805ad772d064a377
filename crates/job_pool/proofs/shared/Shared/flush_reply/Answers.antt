use Rattle.std.proofs.Common.{refl}
use Rattle.job_pool.proofs.Gone.{gone-call}
use Rattle.job_pool.proofs.shared.Shared.flush_reply.Goals as goal

pub invariant_of-self : goal.invariant_of-self
invariant_of-self g c = gone-call c.self.invariant c.flush_reply.ensures.count _ _ c.flush_reply.result _ _ _ c.flush_reply.ensures.ok c.flush_reply.ensures.err tt (λ row. record { job = refl; input = refl; priority = refl })
