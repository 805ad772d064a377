-- What the row of a job says of what its source means.
use Rattle.std.specs.Prelude.{◌≡◌, ◌≢◌, ℕ, List, [], ◌∷◌, ◌++◌, length, None, Some, slice_get}
use Rattle.hog_value.specs.declared.trace.Request.{Request}
use Rattle.hog_value.specs.declared.trace.TraceItem.{TraceItem}
use Rattle.hog_value.specs.declared.trace.TraceItem.TheVariants.{Asked}
use Rattle.hog_meaning.specs.World.{Got, Flow}
use Rattle.hog_meaning.specs.Program.{shows}
use Rattle.hog_program.specs.Course.{Means}
use Rattle.cyclotron_jobs.specs.declared.entry.Entry.{Entry}
use Rattle.cyclotron_jobs.specs.declared.row.JobState.TheVariants.{Completed}
use Rattle.cyclotron_jobs.specs.declared.row.QueueName.TheVariants as queue
use Rattle.cyclotron_jobs.specs.declared.row.Row.{Row}
use Rattle.cyclotron_jobs.specs.Replies.{AllowsReply}
use Rattle.queue_history.specs.Facts.{facts_of, jobs_of}
use Rattle.queue_history.specs.Legal.{IsLegal}
use Rattle.queue_history.specs.Rows.{RowIs, IsOnCourse, IsKept, inputs_of}
use Rattle.hog_jobs.specs.Course.{replies_of}
use Rattle.hog_jobs.specs.Inputs.{IsInput}
use Rattle.hog_jobs.specs.Jobs.{IsCourse}

-- Exactly this is shown by what waits for a reply: it has no end, and the last item is the request that the row asks.
pub record WaitsWith (got : Got Flow) (row : Row) : Type 0 where
  pub request : Request
  pub asks : row.asks ≡ Some request
  pub before : List TraceItem
  pub last : row.shown.trace ≡ before ++ Asked request ∷ []
  pub shown : shows got ≡ record { trace = row.shown.trace; end = None }

-- The row agrees with what comes of its source on its globals and its committed replies. The committed trace is a beginning of
-- that trace. A completed job's trace and end are that trace and end. A job on the queue of fetches waits with just that trace, for
-- the request that is its last item. A job that isn't completed has no end.
pub record AgreesWithMeaning (row : Row) : Type 0 where
  pub got : Got Flow
  pub means : Means row.input.source row.input.globals (replies_of row.replies) got
  pub prefix : (rest : List TraceItem) × ((shows got).trace ≡ row.shown.trace ++ rest)
  pub whole : row.state ≡ Completed → shows got ≡ record { trace = row.shown.trace; end = row.shown.end }
  pub waits : row.queue ≡ queue.Fetch → WaitsWith got row
  pub open_end : row.state ≢ Completed → row.shown.end ≡ None

-- a row of a history that is on course agrees with what its source means
abbrev pub RowsAgree : Type 0
RowsAgree = (job : ℕ) (history : List Entry) (row : Row) → RowIs (facts_of job history) row → IsOnCourse IsCourse row → AgreesWithMeaning row

-- What always holds of a queue of such jobs: the history is legal, there is a row for each job that was queued, row k is that of
-- job k, and that job is on course, and each row agrees with what its source means.
pub record KeepsTheMeaning (rows : List Row) (history : List Entry) : Type 0 where
  pub legal : IsLegal IsInput AllowsReply (inputs_of rows) history
  pub jobs : length rows ≡ jobs_of history
  pub numbered : (k : ℕ) (row : Row) → slice_get rows k ≡ Some row → row.job ≡ k
  pub each : (k : ℕ) (row : Row) → slice_get rows k ≡ Some row → RowIs (facts_of k history) row
  pub courses : (k : ℕ) (row : Row) → slice_get rows k ≡ Some row → IsOnCourse IsCourse row
  pub agree : (k : ℕ) (row : Row) → slice_get rows k ≡ Some row → AgreesWithMeaning row

-- it holds of what a queue over this course keeps
abbrev pub QueuesAgree : Type 0
QueuesAgree = (rows : List Row) (history : List Entry) → IsKept IsInput IsCourse AllowsReply rows history → KeepsTheMeaning rows history
