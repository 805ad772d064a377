-- How many entries of each kind a history has.
use Rattle.std.specs.Prelude.{Bool, true, false, List, count_by}
use Rattle.cyclotron_jobs.specs.declared.entry.Entry.{Entry}
use Rattle.cyclotron_jobs.specs.declared.entry.Entry.TheVariants.{Queued, Taken, Beat, Ran, Replied, Swept, PutBack}
use Rattle.queue_history.specs.Facts.{is_taken}
use Rattle.job_pool.specs.declared.totals.Totals.{Totals}

abbrev pub is_ran : Entry → Bool
is_ran (Queued job priority at) = false
is_ran (Taken job on lock now) = false
is_ran (Beat job lock now) = false
is_ran (Ran job lock from to next) = true
is_ran (Replied job lock reply) = false
is_ran (Swept job now beat) = false
is_ran (PutBack job lock at) = false

abbrev pub is_replied : Entry → Bool
is_replied (Queued job priority at) = false
is_replied (Taken job on lock now) = false
is_replied (Beat job lock now) = false
is_replied (Ran job lock from to next) = false
is_replied (Replied job lock reply) = true
is_replied (Swept job now beat) = false
is_replied (PutBack job lock at) = false

abbrev pub is_swept : Entry → Bool
is_swept (Queued job priority at) = false
is_swept (Taken job on lock now) = false
is_swept (Beat job lock now) = false
is_swept (Ran job lock from to next) = false
is_swept (Replied job lock reply) = false
is_swept (Swept job now beat) = true
is_swept (PutBack job lock at) = false

abbrev pub is_back : Entry → Bool
is_back (Queued job priority at) = false
is_back (Taken job on lock now) = false
is_back (Beat job lock now) = false
is_back (Ran job lock from to next) = false
is_back (Replied job lock reply) = false
is_back (Swept job now beat) = false
is_back (PutBack job lock at) = true

-- how many takes, runs, replies, sweeps and put-backs a history has
abbrev pub totals_in : List Entry → Totals
totals_in history = record {
  taken = count_by is_taken history;
  ran = count_by is_ran history;
  replied = count_by is_replied history;
  swept = count_by is_swept history;
  back = count_by is_back history;
}
