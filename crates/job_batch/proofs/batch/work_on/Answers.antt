use Rattle.std.proofs.lemmas.Result.{on_ok_weaker}
use Rattle.job_batch.proofs.BatchLemmas.{all_ended}
use Rattle.job_batch.proofs.batch.work_on.Goals as goal

pub returns-clause-ended : goal.returns-clause-ended
returns-clause-ended g c =
    on_ok_weaker c.drain.result
    (all_ended c.args.batch.items c.enqueue_all.new.queue.rows c.drain.new.queue.rows c.in_ok-enqueue_all.ensures.new) c.drain.ensures.drained
