use Rattle.std.proofs.Common.{refl}
use Rattle.job_pool.proofs.Gone.{gone-call}
use Rattle.job_pool.proofs.shared.Shared.put_back.Goals as goal

pub invariant_of-self : goal.invariant_of-self
invariant_of-self g c = gone-call c.self.invariant c.put_back.ensures.count _ _ c.put_back.result _ _ _ c.put_back.ensures.ok c.put_back.ensures.err tt (λ row. record { job = refl; input = refl; priority = refl })
