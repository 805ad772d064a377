use Rattle.std.proofs.Common.{ℕ, ◌<◌, ◌≢◌, slice_index_or}
use Rattle.cyclotron_jobs.specs.declared.row.Row.{Row}
use Rattle.job_keeper.proofs.memory.place_of.Given as goal

abbrev pub invariant-loop-i : goal.invariant-loop-i
invariant-loop-i l = (k : ℕ) (d : Row) → k < l.i → (slice_index_or l.rows k d).job ≢ l.job
