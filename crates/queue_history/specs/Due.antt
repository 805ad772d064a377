-- Which jobs are due, and which are stale.
use Rattle.std.specs.Prelude.{ℕ, ◌≡◌, ◌≢◌, ◌+◌, ◌<◌, ◌≤◌, List}
use Rattle.std.specs.Ordering.{ordering_then, nat_cmp, int_cmp}
use Rattle.std.specs.declared.cmp.Ordering.{Ordering}
use Rattle.std.specs.declared.cmp.Ordering.TheVariants.{Less}
use Rattle.cyclotron_jobs.specs.declared.row.QueueName.{QueueName}
use Rattle.cyclotron_jobs.specs.declared.row.JobState.TheVariants.{Available, Running}
use Rattle.cyclotron_jobs.specs.declared.row.Row.{Row}
use Rattle.cyclotron_jobs.specs.declared.entry.Entry.{Entry}
use Rattle.queue_history.specs.declared.turn.Turn.{Turn}
use Rattle.queue_history.specs.declared.turn.Silence.{Silence}
use Rattle.queue_history.specs.Facts.{facts_of, state_of, jobs_of}

-- by priority, then by moment, then by job number
abbrev pub turn_cmp : Turn → Turn → Ordering
turn_cmp a b = ordering_then (int_cmp a.priority b.priority) (ordering_then (nat_cmp a.moment b.moment) (nat_cmp a.job b.job))

-- the turn of a job that waits to be taken
abbrev pub turn_of : List Entry → ℕ → Turn
turn_of history job = record { priority = (facts_of job history).priority; moment = (facts_of job history).scheduled; job = job }

-- the job is available on the queue, and its moment has come
pub record IsDue (history : List Entry) (on : QueueName) (now job : ℕ) : Type 0 where
  pub there : job < jobs_of history
  pub state : state_of (facts_of job history) ≡ Available
  pub queue : (facts_of job history).queue ≡ on
  pub scheduled : (facts_of job history).scheduled ≤ now

-- the job is due, and its turn comes before that of each other job that is
pub record IsFirstDue (history : List Entry) (on : QueueName) (now job : ℕ) : Type 0 where
  pub due : IsDue history on now job
  pub first : (other : ℕ) → IsDue history on now other → other ≢ job → turn_cmp (turn_of history job) (turn_of history other) ≡ Less

abbrev pub NoneDue : List Entry → QueueName → ℕ → Type 0
NoneDue history on now = (job : ℕ) → ¬ (IsDue history on now job)

-- by the moment of the last beat, then by job number
abbrev pub silence_cmp : Silence → Silence → Ordering
silence_cmp a b = ordering_then (nat_cmp a.beat b.beat) (nat_cmp a.job b.job)

-- the silence of a job that runs
abbrev pub silence_of : List Entry → ℕ → Silence
silence_of history job = record { beat = (facts_of job history).beat; job = job }

-- the job runs, and its last beat is at least 30,000 milliseconds before the moment
pub record IsStale (history : List Entry) (now job : ℕ) : Type 0 where
  pub there : job < jobs_of history
  pub state : state_of (facts_of job history) ≡ Running
  pub silent : (facts_of job history).beat + 30000 ≤ now

-- the job is stale, and has been silent before each other job that is
pub record IsFirstStale (history : List Entry) (now job : ℕ) : Type 0 where
  pub stale : IsStale history now job
  pub first : (other : ℕ) → IsStale history now other → other ≢ job → silence_cmp (silence_of history job) (silence_of history other) ≡ Less

abbrev pub NoneStale : List Entry → ℕ → Type 0
NoneStale history now = (job : ℕ) → ¬ (IsStale history now job)

-- what makes a row that of a due job, its turn, and the same for a stale job
pub record IsDueRow (on : QueueName) (now : ℕ) (row : Row) : Type 0 where
  pub state : row.state ≡ Available
  pub queue : row.queue ≡ on
  pub scheduled : row.scheduled ≤ now

abbrev pub turn_of_row : Row → Turn
turn_of_row row = record { priority = row.priority; moment = row.scheduled; job = row.job }

pub record IsStaleRow (now : ℕ) (row : Row) : Type 0 where
  pub state : row.state ≡ Running
  pub silent : row.beat + 30000 ≤ now

abbrev pub silence_of_row : Row → Silence
silence_of_row row = record { beat = row.beat; job = row.job }

-- of the numbers below `n` that pass, `b` has the least key
pub record IsFirstBelow {K : Type 0} (cmp : K → K → Ordering) (key : ℕ → K) (passes : ℕ → Type 0) (n b : ℕ) : Type 0 where
  pub below : b < n
  pub here : passes b
  pub first : (k : ℕ) → k < n → passes k → k ≢ b → cmp (key b) (key k) ≡ Less
