use Rattle.std.proofs.Common.{◌≡◌, ◌<◌, length, ap, ◌∙◌, subst}
use Rattle.hog_meaning.specs.Meaning.{most_requests}
use Rattle.cyclotron_jobs.specs.declared.row.QueueName.TheVariants.{Fetch}
use Rattle.cyclotron_jobs.specs.Leases.{LeaseOf}
use Rattle.job_batch.proofs.BatchLemmas.{few_asked}
use Rattle.job_batch.proofs.worker.ListWorkerWorkerHogCourse.answer.Goals as goal

pub returns-in-Ok-clause-few : goal.returns-in-Ok-clause-few
returns-in-Ok-clause-few c =
    let l = c.lease.inside in
    let on : l.queue ≡ Fetch = ap (λ (v : LeaseOf). v.queue) c.lease.view_is ∙ c.requires.on_fetch in
    let few = few_asked c.few_replies.ensures l.queue l.asks l.input l.replies l.ops l.saved l.shown.value c.lease.invariant.0 c.lease.invariant.1 on in
    subst (λ (v : LeaseOf). length v.replies < most_requests) c.lease.view_is few
