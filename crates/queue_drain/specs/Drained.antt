-- What working the jobs of a queue leaves.
use Rattle.std.specs.Prelude.{ℕ, ◌≡◌, ◌≤◌, List, ◌++◌, length, All}
use Rattle.std.specs.List.{AllZip}
use Rattle.cyclotron_jobs.specs.declared.row.Row.{Row}
use Rattle.cyclotron_jobs.specs.declared.row.JobState.TheVariants.{Completed}
use Rattle.cyclotron_jobs.specs.declared.entry.Entry.{Entry}
use Rattle.cyclotron_jobs.specs.declared.entry.Entry.TheVariants.{Queued, Taken, Beat, Ran, Replied, Swept, PutBack}
use Rattle.queue_history.specs.Due.{IsDueRow}
use Rattle.cyclotron_core.specs.Queue.{QueueOf}

-- it is the same job: number, input, priority, moment and sweeps are as before
pub record IsSameJob (before after : Row) : Type 0 where
  pub job : after.job ≡ before.job
  pub input : after.input ≡ before.input
  pub priority : after.priority ≡ before.priority
  pub scheduled : after.scheduled ≡ before.scheduled
  pub sweeps : after.sweeps ≡ before.sweeps

-- the job is available, on whichever queue, and its moment has come
abbrev pub IsWaiting : ℕ → Row → Type 0
IsWaiting now row = IsDueRow row.queue now row

-- A job that was due has ended, and each other is as before. A job that had no more replies than this has no more.
pub record IsDrained (most now : ℕ) (before after : Row) : Type 0 where
  pub same : IsSameJob before after
  pub ended : IsWaiting now before → after.state ≡ Completed
  pub others : ¬ (IsWaiting now before) → after ≡ before
  pub few : length before.replies ≤ most → length after.replies ≤ most

-- the entry is a take of this moment, a run or a reply
abbrev pub IsWorkAt : ℕ → Entry → Type 0
IsWorkAt moment (Queued job priority at) = ⊥
IsWorkAt moment (Taken job on lock now) = now ≡ moment
IsWorkAt moment (Beat job lock now) = ⊥
IsWorkAt moment (Ran job lock from to next) = Unit {0}
IsWorkAt moment (Replied job lock reply) = Unit {0}
IsWorkAt moment (Swept job now beat) = ⊥
IsWorkAt moment (PutBack job lock at) = ⊥

-- takes of one moment, runs and replies were appended and nothing else, and the jobs are the same
pub record HasWorked {K : Type 0} (now : ℕ) (old new : QueueOf K) : Type 0 where
  pub more : List Entry
  pub history : new.history ≡ old.history ++ more
  pub work : All (IsWorkAt now) more
  pub jobs : AllZip IsSameJob old.rows new.rows
