use Rattle.janitor.proofs.Turns.{IsTurning, running_in}
use Rattle.janitor.proofs.turn.Janitor.turn.Given as goal

abbrev pub invariant-sweeps : goal.invariant-sweeps
invariant-sweeps g l = IsTurning g.K.Keeper.faults l.now l.fn.queue l.queue

abbrev pub decreases-sweeps : goal.decreases-sweeps
decreases-sweeps g l = running_in l.queue.rows
