-- How many lines of each kind are shown.
use Rattle.std.specs.Prelude.{ℕ, List, Bool, true, false, Option, Some, None, count_by, sum_by, map}
use Rattle.hog_value.specs.declared.trace.End.{End}
use Rattle.hog_value.specs.declared.trace.End.TheVariants.{Done, Threw, TurnsSpent, MemorySpent, TooDeep, TooManyFetches}
use Rattle.hog_value.specs.declared.trace.Shown.{Shown}
use Rattle.hog_value.specs.declared.trace.TraceItem.{TraceItem}
use Rattle.hog_value.specs.declared.trace.TraceItem.TheVariants.{Printed, Asked}
use Rattle.cyclotron_jobs.specs.declared.row.Row.{Row}
use Rattle.job_counts.specs.declared.counts.JobCounts.{JobCounts}

abbrev pub is_print : TraceItem → Bool
is_print (Printed text) = true
is_print (Asked request) = false

abbrev pub is_request : TraceItem → Bool
is_request (Printed text) = false
is_request (Asked request) = true

abbrev pub is_done : Option End → Bool
is_done None = false
is_done (Some (Done text)) = true
is_done (Some (Threw text)) = false
is_done (Some TurnsSpent) = false
is_done (Some MemorySpent) = false
is_done (Some TooDeep) = false
is_done (Some TooManyFetches) = false

abbrev pub is_throw : Option End → Bool
is_throw None = false
is_throw (Some (Done text)) = false
is_throw (Some (Threw text)) = true
is_throw (Some TurnsSpent) = false
is_throw (Some MemorySpent) = false
is_throw (Some TooDeep) = false
is_throw (Some TooManyFetches) = false

abbrev pub prints_in : List TraceItem → ℕ
prints_in trace = count_by is_print trace

abbrev pub requests_in : List TraceItem → ℕ
requests_in trace = count_by is_request trace

-- the prints and the requests of all traces, and how many ended with a result, and how many by a throw
abbrev pub counted_in : List Shown → JobCounts
counted_in all = record {
  prints = sum_by (λ shown. prints_in shown.trace) all;
  requests = sum_by (λ shown. requests_in shown.trace) all;
  done = count_by (λ shown. is_done shown.end) all;
  threw = count_by (λ shown. is_throw shown.end) all;
}

-- what rows have committed
abbrev pub shown_of : List Row → List Shown
shown_of rows = map (λ row. row.shown) rows
