-- The batch of a plan's jobs, and what its rows say.
use Rattle.std.proofs.Common.{◌≡◌, List, [], ◌∷◌, map, All, refl, ap}
use Rattle.std.specs.List.{AllZip}
use Rattle.std.proofs.lemmas.List.Elements.{All-map}
use Rattle.cyclotron_jobs.specs.declared.input.JobInput.{JobInput}
use Rattle.cyclotron_jobs.specs.declared.row.Row.{Row}
use Rattle.event_reader.specs.Plans.{IsTaken}
use Rattle.event_reader.specs.declared.plan.PlanJob.{PlanJob}
use Rattle.job_counts.specs.Counts.{shown_of}
use Rattle.job_lines.specs.Lines.{LinesOf}
use Rattle.job_batch.specs.Batch.{CanRun, ShowsLines, inputs_in}
use Rattle.made_jobs.specs.Jobs.{IsSmallJob, batch_job}
use Rattle.made_jobs.specs.Made.{inputs_of_jobs}

pub all_can_run : (jobs : List PlanJob) → All IsTaken jobs → All IsSmallJob jobs → All CanRun (map batch_job jobs)
all_can_run jobs taken small = All-map CanRun batch_job jobs (λ k d below. record { taken = taken k d below; listed = (small k d below).listed })

pub same_inputs : (jobs : List PlanJob) → inputs_in (map batch_job jobs) ≡ inputs_of_jobs jobs
same_inputs [] = refl
same_inputs (job ∷ jobs) = ap (λ is. job.input ∷ is) (same_inputs jobs)

pub lines_shown : (inputs : List JobInput) (rows : List Row) → AllZip ShowsLines inputs rows → AllZip LinesOf inputs (shown_of rows)
lines_shown [] [] all = all
lines_shown [] (row ∷ rows) all = absurd all
lines_shown (input ∷ inputs) [] all = absurd all
lines_shown (input ∷ inputs) (row ∷ rows) all = (all.0, lines_shown inputs rows all.1)
