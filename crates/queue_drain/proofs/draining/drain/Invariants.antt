use Rattle.queue_drain.proofs.DrainLemmas.{IsDraining, left_in}
use Rattle.queue_drain.proofs.draining.drain.Given as goal

-- the jobs that are due go on, one after the other
abbrev pub invariant-jobs : goal.invariant-jobs
invariant-jobs g l = IsDraining g.K.Keeper.faults g.W.Worker.most_replies l.now l.fn.queue l.queue

abbrev pub decreases-jobs : goal.decreases-jobs
decreases-jobs g l = left_in l.queue.rows
