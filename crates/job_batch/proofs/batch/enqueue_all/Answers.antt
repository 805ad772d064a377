use Rattle.std.proofs.Common.{◌≡◌, length, arith, sym, subst}
use Rattle.std.specs.List.{AllZip}
use Rattle.std.specs.Vec.Iter.{into_iter_items, into_iter_len}
use Rattle.std.proofs.lemmas.Iterator.Adapters.{YieldsList-from_vec}
use Rattle.std.proofs.lemmas.Iterator.Consumers.{YieldsList-turn}
use Rattle.job_batch.specs.Steps.{IsNewOf}
use Rattle.job_batch.proofs.BatchLemmas.{zip_length, zip_push}
use Rattle.job_batch.proofs.batch.enqueue_all.Goals as goal

pub enqueue-requires-clause-room : goal.enqueue-requires-clause-room
enqueue-requires-clause-room g c =
    let source = c.into_iter-job-iterator.result in
    let items : into_iter_items source ≡ c.args.batch.items = cc in
    let count : into_iter_len source ≡ length c.args.batch.items = cc in
    let turn = YieldsList-turn (YieldsList-from_vec {s = source} c.args.batch.items items count) c.loop-job.yielded c.loop-job.job-iterator c.loop-job.yielded_by c.next.result c.next.new.self c.in-Some.job c.in-Some.is c.next.ensures.steps in
    let same = zip_length IsNewOf c.loop-job.yielded c.loop-job.queue.rows c.loop-job.invariant.2 in
    omega (arith, turn.0, same, c.requires.few)

pub loop-job-preserved : goal.loop-job-preserved
loop-job-preserved g c =
    let added = c.in_ok-enqueue.ensures.added in
    let more = zip_push IsNewOf c.loop-job.yielded c.loop-job.queue.rows c.in-Some.job added.row c.loop-job.invariant.2 added.is in
    (tt, tt, subst (AllZip IsNewOf _) (sym added.rows) more, omega (arith, c.loop-job.invariant.3, c.in_ok-enqueue.ensures.count))
