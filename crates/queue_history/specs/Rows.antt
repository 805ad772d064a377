-- Which row a job has.
use Rattle.std.specs.Prelude.{ℕ, ℤ, ◌≡◌, ◌<◌, ◌≤◌, List, [], length, map, slice_get, Option, Some, None, IsTrue, is_some}
use Rattle.hog_value.specs.declared.trace.Request.{Request}
use Rattle.cyclotron_jobs.specs.declared.input.JobInput.{JobInput}
use Rattle.cyclotron_jobs.specs.declared.row.Row.{Row}
use Rattle.cyclotron_jobs.specs.declared.row.QueueName.TheVariants as queue
use Rattle.cyclotron_jobs.specs.declared.row.JobState.{JobState}
use Rattle.cyclotron_jobs.specs.declared.row.JobState.TheVariants.{Available, Running, Completed, Failed}
use Rattle.cyclotron_jobs.specs.declared.row.After.{After}
use Rattle.cyclotron_jobs.specs.declared.row.After.TheVariants.{Finished}
use Rattle.cyclotron_jobs.specs.declared.entry.Entry.{Entry}
use Rattle.cyclotron_jobs.specs.Course.{after_of, shows_nothing, AsksOn}
use Rattle.queue_history.specs.declared.TheConstants.{MOST_JOBS}
use Rattle.queue_history.specs.Rules.{InputRule, CourseRule, ReplyRule}
use Rattle.queue_history.specs.Facts.{JobFacts, facts_of, state_of, jobs_of, job_of}
use Rattle.queue_history.specs.Legal.{IsLegal}

-- the row says of its job what the entries of that job say
pub record RowIs (facts : JobFacts) (row : Row) : Type 0 where
  pub lock : row.lock ≡ facts.owner
  pub beat : row.beat ≡ facts.beat
  pub scheduled : row.scheduled ≡ facts.scheduled
  pub priority : row.priority ≡ facts.priority
  pub replies : row.replies ≡ facts.replies
  pub ops : row.ops ≡ facts.ops
  pub tries : row.tries ≡ facts.tries
  pub sweeps : row.sweeps ≡ facts.sweeps
  pub queue : row.queue ≡ facts.queue
  pub state : row.state ≡ state_of facts
  pub asks : AsksOn row.queue row.asks

-- what comes next for a job: nothing where it is completed, else its request's reply or a run
abbrev pub after_in : JobState → Option Request → After
after_in Available asks = after_of asks
after_in Running asks = after_of asks
after_in Completed asks = Finished
after_in Failed asks = after_of asks

-- the row is on course, where its saved text is that of its operations
abbrev pub IsOnCourse : CourseRule → Row → Type 0
IsOnCourse on_course row = on_course row.input row.replies row.ops row.saved row.shown (after_in row.state row.asks)

abbrev pub inputs_of : List Row → List JobInput
inputs_of rows = map (λ row. row.input) rows

-- The rows, by job number, and the history of a queue belong together: the history is legal for the rows' inputs,
-- each row is the row of its job, and each job is on course.
pub record IsKept (takes : InputRule) (on_course : CourseRule) (reply_ok : ReplyRule) (rows : List Row) (history : List Entry) : Type 0 where
  pub legal : IsLegal takes reply_ok (inputs_of rows) history
  pub jobs : length rows ≡ jobs_of history
  pub few : length rows ≤ MOST_JOBS
  pub known : (k : ℕ) (e : Entry) → slice_get history k ≡ Some e → job_of e < length rows
  pub numbered : (k : ℕ) (row : Row) → slice_get rows k ≡ Some row → row.job ≡ k
  pub each : (k : ℕ) (row : Row) → slice_get rows k ≡ Some row → RowIs (facts_of k history) row
  pub locked : (k : ℕ) (row : Row) → slice_get rows k ≡ Some row → IsTrue (is_some row.lock) → row.state ≡ Running
  pub courses : (k : ℕ) (row : Row) → slice_get rows k ≡ Some row → IsOnCourse on_course row

-- the row of a new job
pub record IsNewRow (row : Row) (number : ℕ) (handed : JobInput) (rank : ℤ) (at : ℕ) : Type 0 where
  pub job : row.job ≡ number
  pub input : row.input ≡ handed
  pub queue : row.queue ≡ queue.Hog
  pub state : row.state ≡ Available
  pub priority : row.priority ≡ rank
  pub scheduled : row.scheduled ≡ at
  pub lock : row.lock ≡ None
  pub beat : row.beat ≡ 0
  pub sweeps : row.sweeps ≡ []
  pub replies : row.replies ≡ []
  pub ops : row.ops ≡ 0
  pub tries : row.tries ≡ 0
  pub saved : row.saved ≡ []
  pub shown : row.shown ≡ shows_nothing
  pub asks : row.asks ≡ None
