use Rattle.std.proofs.Common.{◌≡◌, ◌∙◌, Some, ap, sym, arith}
use Rattle.std.specs.Prelude.{slice_get}
use Rattle.std.proofs.lemmas.Option.{slice_get_within, get_or_from_slice_get}
use Rattle.cyclotron_jobs.specs.declared.row.Row.{Row}
use Rattle.job_counts.specs.Counts.{is_done, is_throw}
use Rattle.job_counts.specs.Sums.{counted_more}
use Rattle.job_counts.specs.declared.counts.JobCounts.{JobCounts}
use Rattle.job_counts.proofs.SumLemmas.{counted_in-row, one_few}
use Rattle.job_counts.proofs.counts.counts_of.Goals as goal

pub jobs-preserved : goal.jobs-preserved
jobs-preserved g c =
    let rows = c.args.queue.now.rows in
    let job = c.jobs.job in
    let row : Row = c.in-Some.row.now in
    let there : slice_get rows job ≡ Some row = sym c.in-Some.ensures.row in
    let within = slice_get_within rows job row there in
    let read = sym (get_or_from_slice_get rows job row row there) in
    let is = c.more-counts.ensures.counted in
    let done = ap (λ (n : JobCounts). n.done) is in
    let threw = ap (λ (n : JobCounts). n.threw) is in
    record {
      within = omega (arith, within);
      counted = is ∙ (ap (λ (n : JobCounts). counted_more n row.shown) c.jobs.invariant.counted ∙ sym (counted_in-row rows job row within read));
      prints = omega (arith, c.more-counts.ensures.prints, c.jobs.invariant.prints);
      requests = omega (arith, c.more-counts.ensures.requests, c.jobs.invariant.requests);
      done = omega (arith, done, c.jobs.invariant.done, one_few (is_done row.shown.end));
      threw = omega (arith, threw, c.jobs.invariant.threw, one_few (is_throw row.shown.end));
    }
