use Rattle.std.proofs.Common.{refl}
use Rattle.job_pool.proofs.Gone.{gone-call}
use Rattle.job_pool.proofs.shared.Shared.flush_run.Goals as goal

pub invariant_of-self : goal.invariant_of-self
invariant_of-self g c = gone-call c.self.invariant c.flush_run.ensures.count _ _ c.flush_run.result _ _ _ c.flush_run.ensures.ok c.flush_run.ensures.err tt (λ row. record { job = refl; input = refl; priority = refl })
