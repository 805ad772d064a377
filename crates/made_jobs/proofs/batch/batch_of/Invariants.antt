use Rattle.std.proofs.Common.{◌≡◌, map}
use Rattle.made_jobs.specs.Jobs.{batch_job}
use Rattle.made_jobs.proofs.batch.batch_of.Given as goal

-- the jobs that were yielded are in the batch
abbrev pub invariant-loop-job : goal.invariant-loop-job
invariant-loop-job l = l.batch.items ≡ map batch_job l.yielded
