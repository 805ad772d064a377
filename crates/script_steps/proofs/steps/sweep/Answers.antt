use Rattle.std.proofs.Common.{◌≡◌, true, false, sym, ◌∙◌}
use Rattle.cyclotron_jobs.specs.declared.row.Row.{Row}
use Rattle.cyclotron_jobs.specs.declared.row.JobState.TheVariants.{Failed}
use Rattle.script_steps.proofs.PlayLemmas.{swept_of, swept_open}
use Rattle.script_steps.proofs.steps.sweep.Goals as goal

pub returns-then-is_failed-clause-acts : goal.returns-then-is_failed-clause-acts
returns-then-is_failed-clause-acts g c =
    let is = rw c.in-Ok-Some.field-0-is at c.in-Ok-Some.ensures.some in
    swept_of c.args.now c.in-Ok-Some.job is Failed (λ (row : Row) there. (c.is_failed.ensures row there).0 c.if-is_failed.true)

pub returns-else-is_failed-clause-acts : goal.returns-else-is_failed-clause-acts
returns-else-is_failed-clause-acts g c =
    let is = rw c.in-Ok-Some.field-0-is at c.in-Ok-Some.ensures.some in
    swept_open c.args.now c.in-Ok-Some.job is
    (λ (row : Row) there failed. let bad : true ≡ false = sym ((c.is_failed.ensures row there).1 failed) ∙ c.if-is_failed.false in absurd (cc))
