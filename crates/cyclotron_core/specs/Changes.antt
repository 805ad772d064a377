-- What each step of a queue changes.
use Rattle.std.specs.Prelude.{ℕ, ℤ, ◌≡◌, ◌+◌, ◌≤◌, ◌<◌, min, length, List, [], ◌∷◌, ◌++◌, slice_get, slice_set, Bool, true, false, Option, Some, None}
use Rattle.lock_ids.specs.declared.lock.LockId.{LockId}
use Rattle.cyclotron_jobs.specs.declared.input.JobInput.{JobInput}
use Rattle.cyclotron_jobs.specs.declared.input.Reply.{Reply}
use Rattle.cyclotron_jobs.specs.declared.row.Row.{Row}
use Rattle.cyclotron_jobs.specs.declared.row.QueueName.{QueueName}
use Rattle.cyclotron_jobs.specs.declared.row.QueueName.TheVariants as queue
use Rattle.cyclotron_jobs.specs.declared.row.JobState.{JobState}
use Rattle.cyclotron_jobs.specs.declared.row.JobState.TheVariants.{Available, Running, Completed, Failed}
use Rattle.cyclotron_jobs.specs.declared.entry.Entry.{Entry}
use Rattle.cyclotron_jobs.specs.declared.entry.Entry.TheVariants.{Queued, Taken, Swept}
use Rattle.cyclotron_jobs.specs.Course.{next_of, asks_of}
use Rattle.cyclotron_jobs.specs.Leases.{LeaseOf, AdvanceOf}
use Rattle.queue_history.specs.declared.TheConstants.{MOST_JOBS}
use Rattle.queue_history.specs.Facts.{facts_of, jobs_of, takes_of, queue_at, state_after, swept_state}
use Rattle.queue_history.specs.Due.{IsFirstDue, IsFirstStale}
use Rattle.queue_history.specs.Rows.{IsNewRow}
use Rattle.job_keeper.specs.Held.{PutsRow, SameRows}
use Rattle.cyclotron_core.specs.Queue.{QueueOf}

-- a take: the job runs under a new lock from this moment on
abbrev pub row_after_take : LockId → ℕ → Row → Row
row_after_take lock now row = record row { state = Running; lock = Some lock; beat = now }

-- a heartbeat: the job's last sign of life is of this moment, also where that is earlier
abbrev pub row_after_beat : ℕ → Row → Row
row_after_beat now row = record row { beat = now }

-- a run: its operations, saved text and trace are committed, and the lock is given up
abbrev pub row_after_run : AdvanceOf → Row → Row
row_after_run run row = record row {
  queue = queue_at (next_of run.after);
  state = state_after (next_of run.after);
  lock = None;
  ops = run.to;
  tries = 0;
  saved = run.saved;
  shown = run.shown;
  asks = asks_of run.after;
}

-- a reply: it is committed, and the job is to run on, without a lock
abbrev pub row_after_reply : Reply → Row → Row
row_after_reply reply row = record row {
  queue = queue.Hog;
  state = Available;
  lock = None;
  replies = row.replies ++ reply ∷ [];
  tries = 0;
  asks = None;
}

-- a put-back: the job waits on its queue until the moment, without a lock
abbrev pub row_after_put_back : ℕ → Row → Row
row_after_put_back at row = record row { state = Available; lock = None; scheduled = at; tries = min 255 (row.tries + 1) }

-- a sweep: the lock is taken away; after the third the job is failed
abbrev pub row_after_sweep : ℕ → Row → Row
row_after_sweep now row = record row {
  state = swept_state (length row.sweeps + 1);
  lock = None;
  sweeps = row.sweeps ++ (now, row.beat) ∷ [];
}

-- One entry was appended, and the row of one job changed, which the keeper was told; no other row changed.
-- It cost the room of one entry at most.
pub record IsOneStep {K : Type 0} (tells : Bool) (held : K → ℕ → Option Row) (old new : QueueOf K) (job : ℕ) (change : Row → Row) (entry : Entry) : Type 0 where
  pub before : Row
  pub there : slice_get old.rows job ≡ Some before
  pub rows : new.rows ≡ slice_set old.rows job (change before)
  pub history : new.history ≡ old.history ++ entry ∷ []
  pub told : PutsRow tells (held old.keeper) (held new.keeper) (change before)
  pub spare : old.spare ≤ new.spare + 1

-- rows, history and the rows that the keeper tells are as before, and no room was lost
pub record IsUntouched {K : Type 0} (tells : Bool) (held : K → ℕ → Option Row) (old new : QueueOf K) : Type 0 where
  pub rows : new.rows ≡ old.rows
  pub history : new.history ≡ old.history
  pub told : SameRows tells (held old.keeper) (held new.keeper)
  pub spare : old.spare ≤ new.spare

-- nothing changed but the room for more entries, and none of it was lost
pub record IsGrown {K : Type 0} (old new : QueueOf K) : Type 0 where
  pub rows : new.rows ≡ old.rows
  pub history : new.history ≡ old.history
  pub keeper : new.keeper ≡ old.keeper
  pub spare : old.spare ≤ new.spare

-- a new job with the next number was added, with a row of its own
pub record IsEnqueue {K : Type 0} (tells : Bool) (held : K → ℕ → Option Row) (old new : QueueOf K) (job : ℕ) (input : JobInput) (priority : ℤ) (at : ℕ) : Type 0 where
  pub number : job ≡ jobs_of old.history
  pub row : Row
  pub fresh : IsNewRow row job input priority at
  pub rows : new.rows ≡ old.rows ++ row ∷ []
  pub history : new.history ≡ old.history ++ Queued job priority at ∷ []
  pub told : PutsRow tells (held old.keeper) (held new.keeper) row
  pub spare : old.spare ≤ new.spare + 1

-- the lease of a row
abbrev pub lease_of : LockId → Row → LeaseOf
lease_of lock row = record {
  lock = lock;
  queue = row.queue;
  input = row.input;
  replies = row.replies;
  ops = row.ops;
  tries = row.tries;
  saved = row.saved;
  asks = row.asks;
  shown = row.shown;
}

-- the job that is due first was taken, under its number and a new draw, and its row's fields were copied into the lease
pub record IsTake {K : Type 0} (tells : Bool) (held : K → ℕ → Option Row) (old new : QueueOf K) (on : QueueName) (now : ℕ) (lease : LeaseOf) : Type 0 where
  pub first : IsFirstDue old.history on now lease.lock.job
  pub draw : lease.lock.draw ≡ takes_of old.history + 1
  pub step : IsOneStep tells held old new lease.lock.job (row_after_take lease.lock now) (Taken lease.lock.job on lease.lock now)
  pub copied : lease ≡ lease_of lease.lock step.before

-- the job that is stale first was swept
pub record IsSweep {K : Type 0} (tells : Bool) (held : K → ℕ → Option Row) (old new : QueueOf K) (now job : ℕ) : Type 0 where
  pub first : IsFirstStale old.history now job
  pub step : IsOneStep tells held old new job (row_after_sweep now) (Swept job now (facts_of job old.history).beat)
  pub ran : step.before.state ≡ Running

abbrev pub is_open : JobState → Bool
is_open Available = true
is_open Running = true
is_open Completed = false
is_open Failed = false

-- the job is neither completed nor failed
abbrev pub is_unfinished : Row → Bool
is_unfinished row = is_open row.state

-- a row in this state stands at the place
pub record HasState (rows : List Row) (is : JobState) (at : ℕ) : Type 0 where
  pub within : at < length rows
  pub few : at < MOST_JOBS
  pub row : Row
  pub there : slice_get rows at ≡ Some row
  pub state : row.state ≡ is

-- the lease of the row at the place
pub record IsLeaseAt (rows : List Row) (at : ℕ) (lock : LockId) (lease : LeaseOf) : Type 0 where
  pub row : Row
  pub there : slice_get rows at ≡ Some row
  pub copied : lease ≡ lease_of lock row
