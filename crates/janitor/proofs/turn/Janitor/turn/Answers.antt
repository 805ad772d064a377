use Rattle.std.proofs.Common.{arith}
use Rattle.janitor.proofs.Turns.{HasSwept-none, HasSwept-more, running-sweep}
use Rattle.janitor.proofs.turn.Janitor.turn.Goals as goal

pub sweeps-init : goal.sweeps-init
sweeps-init g c = record {
  n = 0;
  swept = HasSwept-none c.args.now c.args.queue.now;
  running = omega arith;
  count = omega arith;
}

pub sweeps-smaller : goal.sweeps-smaller
sweeps-smaller g c = omega (arith, running-sweep (rw c.in-Ok-Some.field-0-is at c.in-Ok-Some.ensures.some))

pub sweeps-preserved : goal.sweeps-preserved
sweeps-preserved g c =
    let sweep = rw c.in-Ok-Some.field-0-is at c.in-Ok-Some.ensures.some in
    record {
      n = _;
      swept = HasSwept-more c.sweeps.invariant.swept sweep;
      running = omega (arith, c.sweeps.invariant.running, running-sweep sweep);
      count = omega (arith, c.sweeps.invariant.count, c.in-Ok-Some.ensures.count);
    }
