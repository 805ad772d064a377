use Rattle.job_pool.specs.Pool.{HasGoneOn}
use Rattle.job_pool.proofs.pool.finish_from.Given as goal

abbrev pub invariant-loop : goal.invariant-loop
invariant-loop g l = HasGoneOn g.J.Opening.moments g.K.Keeper.faults g.J.Opening.start l.queue
