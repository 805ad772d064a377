use Rattle.std.proofs.Common.{◌≡◌, ◌≤◌, ◌-◌, ◌*◌, ◌^◌, length, take}
use Rattle.job_counts.specs.Counts.{counted_in, shown_of}
use Rattle.job_counts.proofs.counts.counts_of.Given as goal

-- the jobs up to this one are counted
abbrev pub invariant-jobs : goal.invariant-jobs
invariant-jobs g l = record {
  within : l.job ≤ length l.queue.rows;
  counted : l.counts ≡ counted_in (shown_of (take l.job l.queue.rows));
  prints : l.counts.prints ≤ l.job * 2 ^ 64;
  requests : l.counts.requests ≤ l.job * 2 ^ 64;
  done : l.counts.done ≤ l.job;
  threw : l.counts.threw ≤ l.job;
}

abbrev pub decreases-jobs : goal.decreases-jobs
decreases-jobs g l = length l.queue.rows - l.job
