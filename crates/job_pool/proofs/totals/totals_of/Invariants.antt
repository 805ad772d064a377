use Rattle.std.proofs.Common.{◌≡◌, take, count_by}
use Rattle.queue_history.specs.Facts.{is_taken}
use Rattle.job_pool.specs.Totals.{is_ran, is_replied, is_swept, is_back}
use Rattle.job_pool.proofs.totals.totals_of.Given as goal

-- the entries up to this one are counted
abbrev pub invariant-entries : goal.invariant-entries
invariant-entries l = record {
  taken : l.taken ≡ count_by is_taken (take l.entry-index l.history);
  ran : l.ran ≡ count_by is_ran (take l.entry-index l.history);
  replied : l.replied ≡ count_by is_replied (take l.entry-index l.history);
  swept : l.swept ≡ count_by is_swept (take l.entry-index l.history);
  back : l.back ≡ count_by is_back (take l.entry-index l.history);
}
