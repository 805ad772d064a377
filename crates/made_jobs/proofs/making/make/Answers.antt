use Rattle.std.proofs.Common.{◌≡◌, length, All, refl, sym, ap, ◌∙◌, subst, arith}
use Rattle.std.specs.List.{AllZip}
use Rattle.std.proofs.lemmas.List.{length-map}
use Rattle.job_counts.specs.Counts.{shown_of}
use Rattle.job_batch.specs.Batch.{CanRun, ShowsLines, inputs_in}
use Rattle.job_batch.specs.declared.batch.BatchJob.{BatchJob}
use Rattle.made_jobs.specs.Made.{IsCompletedOf, inputs_of_jobs}
use Rattle.made_jobs.proofs.Batches.{all_can_run, lines_shown, same_inputs}
use Rattle.made_jobs.proofs.making.make.Goals as goal

pub run_batch-requires-clause-can_run : goal.run_batch-requires-clause-can_run
run_batch-requires-clause-can_run g c =
    let plan = c.in-Ok.plan in
    let are = c.made_jobs_are_small.ensures c.args.n plan.jobs plan.broken c.in-Ok.ensures.plan.makes in
    subst (All CanRun) (sym c.in-Ok-batch_of.ensures) (all_can_run plan.jobs c.in-Ok.ensures.inputs are.small)

pub returns-in-Ok-run_batch-clause-made : goal.returns-in-Ok-run_batch-clause-made
returns-in-Ok-run_batch-clause-made g c =
    let plan = c.in-Ok.plan in
    let items = c.in-Ok-batch_of.batch.items in
    let rows = c.in-Ok-run_batch.queue.rows in
    let inputs = inputs_of_jobs plan.jobs in
    let same : inputs_in items ≡ inputs = ap inputs_in c.in-Ok-batch_of.ensures ∙ same_inputs plan.jobs in
    let shown = lines_shown inputs rows (subst (λ is. AllZip ShowsLines is rows) same c.in-Ok-run_batch.ensures.lines) in
    let mapped = length-map items (λ (job : BatchJob). job.input) in
    let as_many = ap length same in
    let jobs : c.len-jobs.result ≡ length inputs = omega (arith, c.len-jobs.ensures, c.in-Ok-batch_of.batch.ok, mapped, as_many) in (
      inputs,
      record {
        plan = plan;
        is_plan = c.in-Ok.ensures.plan;
        begins = refl;
        seen = shown_of rows;
        lines = shown;
        counted = λ i. record { events = plan.events; jobs = jobs i; lines = c.counts_of-lines.ensures i };
      },
      subst (λ is. AllZip IsCompletedOf is rows) same c.in-Ok-run_batch.ensures.completed,
    )
