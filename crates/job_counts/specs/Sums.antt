-- One job more. No reader has to trust this file.
use Rattle.std.specs.Prelude.{ℕ, ◌+◌, Bool, true, false}
use Rattle.hog_value.specs.declared.trace.Shown.{Shown}
use Rattle.job_counts.specs.declared.counts.JobCounts.{JobCounts}
use Rattle.job_counts.specs.Counts.{prints_in, requests_in, is_done, is_throw}

abbrev pub one_if : Bool → ℕ
one_if true = 1
one_if false = 0

abbrev pub counted_more : JobCounts → Shown → JobCounts
counted_more counts shown = record {
  prints = counts.prints + prints_in shown.trace;
  requests = counts.requests + requests_in shown.trace;
  done = counts.done + one_if (is_done shown.end);
  threw = counts.threw + one_if (is_throw shown.end);
}
