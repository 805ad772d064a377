use Rattle.std.proofs.Common.{◌≤◌}
use Rattle.std.specs.List.{AllZip}
use Rattle.job_batch.specs.Steps.{IsNewOf}
use Rattle.job_batch.proofs.batch.enqueue_all.Given as goal

-- the jobs that were yielded have the rows, in order
abbrev pub invariant-loop-job : goal.invariant-loop-job
invariant-loop-job g l =
    (goal.iterator-loop-job g).can_next l.job-iterator
    × (goal.iterator-loop-job g).is_finite l.job-iterator
    × AllZip IsNewOf l.yielded l.queue.rows
    × (g.K.Keeper.faults l.fn.queue.keeper ≤ g.K.Keeper.faults l.queue.keeper)
