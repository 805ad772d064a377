-- The lists in which a queue's jobs stand.
use Rattle.std.specs.Prelude.{ℕ, ◌≡◌, ◌≢◌, ◌<◌, ◌≤◌, ◌==◌, Bool, true, false, List, length, Option, Some, None, slice_get, slice_set}
use Rattle.index_lists.specs.Lists.{ListsOf, nodes_of}
use Rattle.index_lists.specs.Order.{IsListOf}
use Rattle.cyclotron_jobs.specs.declared.row.Row.{Row}
use Rattle.cyclotron_jobs.specs.declared.row.QueueName.{QueueName}
use Rattle.cyclotron_jobs.specs.declared.row.QueueName.TheVariants as queue
use Rattle.cyclotron_jobs.specs.declared.row.JobState.{JobState}
use Rattle.cyclotron_jobs.specs.declared.row.JobState.TheVariants.{Available, Running, Completed, Failed}
use Rattle.cyclotron_core.specs.Orders.{by_turn, by_silence}

-- the list of the available jobs of a queue
abbrev pub waiting_list : QueueName → ℕ
waiting_list queue.Hog = 0
waiting_list queue.Fetch = 1

-- the list of the running jobs
abbrev pub running_list : ℕ
running_list = 2

-- the list in which a job stands; completed and failed jobs stand in none
abbrev pub list_in : JobState → QueueName → Option ℕ
list_in Available on = Some (waiting_list on)
list_in Running on = Some running_list
list_in Completed on = None
list_in Failed on = None

abbrev pub list_of : Option Row → Option ℕ
list_of None = None
list_of (Some row) = list_in row.state row.queue

abbrev pub list_at : List Row → ℕ → Option ℕ
list_at rows job = list_of (slice_get rows job)

-- the order of a list: running jobs by their silences, available jobs by their turns
abbrev pub comes_by : Bool → List Row → ℕ → ℕ → Bool
comes_by true rows = by_silence rows
comes_by false rows = by_turn rows

abbrev pub comes_in : List Row → ℕ → ℕ → ℕ → Bool
comes_in rows list = comes_by (list == running_list) rows

-- each list has just the jobs that stand in it, in its order
pub record IsListing (rows : List Row) (lists : ListsOf) : Type 0 where
  pub reserved : length rows ≤ lists.reserved
  pub count : length lists.lists ≡ 3
  pub each : (list : ℕ) → IsListOf (comes_in rows list) (λ job. list_at rows job ≡ Some list) (nodes_of lists list)

-- the same of all jobs but one, which stands in no list
pub record IsListingBut (apart : ℕ) (rows : List Row) (lists : ListsOf) : Type 0 where
  pub within : length rows ≤ lists.reserved
  pub there : apart < length rows
  pub count : length lists.lists ≡ 3
  pub each : (list : ℕ) → IsListOf (comes_in rows list) (λ job. (list_at rows job ≡ Some list) × (job ≢ apart)) (nodes_of lists list)

-- the lists are those of the rows as they were before the row of this job was written, and it stood in one of them
pub record IsListingBefore (job : ℕ) (rows : List Row) (lists : ListsOf) : Type 0 where
  pub old : List Row
  pub row : Row
  pub written : rows ≡ slice_set old job row
  pub listing : IsListing old lists
  pub list : ℕ
  pub stood : list_at old job ≡ Some list
