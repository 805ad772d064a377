-- How a queue goes on in a pool.
use Rattle.std.specs.Prelude.{ℕ, ◌≡◌, ◌≤◌, List, ◌++◌, All}
use Rattle.std.specs.List.{AllZip}
use Rattle.cyclotron_jobs.specs.declared.row.Row.{Row}
use Rattle.cyclotron_jobs.specs.declared.entry.Entry.{Entry}
use Rattle.cyclotron_jobs.specs.declared.entry.Entry.TheVariants.{Queued, Taken, Beat, Ran, Replied, Swept, PutBack}
use Rattle.cyclotron_core.specs.Queue.{QueueOf}

-- it is the same job: number, input and priority are as before
pub record IsSameJob (before after : Row) : Type 0 where
  pub job : after.job ≡ before.job
  pub input : after.input ≡ before.input
  pub priority : after.priority ≡ before.priority

-- the entry adds no job; where it is a take, a beat or a sweep, its moment is one of these
abbrev pub IsWorkAmong : (ℕ → Type 0) → Entry → Type 0
IsWorkAmong moments (Queued job priority at) = ⊥
IsWorkAmong moments (Taken job on lock now) = moments now
IsWorkAmong moments (Beat job lock now) = moments now
IsWorkAmong moments (Ran job lock from to next) = Unit {0}
IsWorkAmong moments (Replied job lock reply) = Unit {0}
IsWorkAmong moments (Swept job now beat) = moments now
IsWorkAmong moments (PutBack job lock at) = Unit {0}

-- where a queue stands: its rows, its history, and its keeper's count of faults
pub record StandOf : Type 0 where
  pub rows : List Row
  pub history : List Entry
  pub faults : ℕ

abbrev pub stand_of : {K : Type 0} → (K → ℕ) → QueueOf K → StandOf
stand_of faults q = record { rows = q.rows; history = q.history; faults = faults q.keeper }

-- The queue went on from where it stood: its history by entries of work with these moments alone, and its jobs are the
-- same. The keeper's count of faults did not fall.
pub record HasGoneOn {K : Type 0} (moments : ℕ → Type 0) (faults : K → ℕ) (start : StandOf) (q : QueueOf K) : Type 0 where
  pub more : List Entry
  pub history : q.history ≡ start.history ++ more
  pub work : All (IsWorkAmong moments) more
  pub jobs : AllZip IsSameJob start.rows q.rows
  pub count : start.faults ≤ faults q.keeper
