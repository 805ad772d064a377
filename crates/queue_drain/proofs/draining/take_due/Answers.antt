use Rattle.cyclotron_jobs.specs.declared.row.QueueName.TheVariants.{Hog, Fetch}
use Rattle.queue_drain.proofs.DrainLemmas.{IsTaken-then}
use Rattle.queue_drain.proofs.draining.take_due.Goals as goal

pub returns-in-Some-clause-some : goal.returns-in-Some-clause-some
returns-in-Some-clause-some g c = let take = rw c.in-Some.is at c.in_ok-lease.ensures.some in record { on = Hog; take = take }

pub returns-in-None-clause-some : goal.returns-in-None-clause-some
returns-in-None-clause-some g c =
    let same = rw c.in-None.is at c.in_ok-lease.ensures.idle in
    IsTaken-then same c.take-in-None.new.self Fetch c.args.now c.take-in-None.result c.take-in-None.ensures.some
