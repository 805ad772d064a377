-- What the entries of one job say of it.
use Rattle.std.specs.Prelude.{ℕ, ℤ, pos, ◌+◌, ◌==◌, min, nat_le, Bool, true, false, if◌then◌else◌, List, length, Option, Some, None, is_some, filter, fold, count_by}
use Rattle.std.specs.List.{filter_map}
use Rattle.lock_ids.specs.declared.lock.LockId.{LockId}
use Rattle.cyclotron_jobs.specs.declared.input.Reply.{Reply}
use Rattle.cyclotron_jobs.specs.declared.row.QueueName.{QueueName}
use Rattle.cyclotron_jobs.specs.declared.row.QueueName.TheVariants as queue
use Rattle.cyclotron_jobs.specs.declared.row.JobState.{JobState}
use Rattle.cyclotron_jobs.specs.declared.row.JobState.TheVariants.{Available, Running, Completed, Failed}
use Rattle.cyclotron_jobs.specs.declared.row.Next.{Next}
use Rattle.cyclotron_jobs.specs.declared.row.Next.TheVariants as next
use Rattle.cyclotron_jobs.specs.declared.entry.Entry.{Entry}
use Rattle.cyclotron_jobs.specs.declared.entry.Entry.TheVariants.{Queued, Taken, Beat, Ran, Replied, Swept, PutBack}

-- the job of an entry
abbrev pub job_of : Entry → ℕ
job_of (Queued job priority at) = job
job_of (Taken job on lock now) = job
job_of (Beat job lock now) = job
job_of (Ran job lock from to next) = job
job_of (Replied job lock reply) = job
job_of (Swept job now beat) = job
job_of (PutBack job lock at) = job

-- the entries of one job, in order
abbrev pub entries_of : ℕ → List Entry → List Entry
entries_of job history = filter (λ e. job_of e == job) history

abbrev pub is_queued : Entry → Bool
is_queued (Queued job priority at) = true
is_queued (Taken job on lock now) = false
is_queued (Beat job lock now) = false
is_queued (Ran job lock from to next) = false
is_queued (Replied job lock reply) = false
is_queued (Swept job now beat) = false
is_queued (PutBack job lock at) = false

abbrev pub is_taken : Entry → Bool
is_taken (Queued job priority at) = false
is_taken (Taken job on lock now) = true
is_taken (Beat job lock now) = false
is_taken (Ran job lock from to next) = false
is_taken (Replied job lock reply) = false
is_taken (Swept job now beat) = false
is_taken (PutBack job lock at) = false

-- how many jobs were enqueued
abbrev pub jobs_of : List Entry → ℕ
jobs_of history = count_by is_queued history

-- how many takes there were
abbrev pub takes_of : List Entry → ℕ
takes_of history = count_by is_taken history

-- the lock of the last Taken entry, where no Ran, Replied, Swept or PutBack follows
abbrev pub owner_after : Option LockId → Entry → Option LockId
owner_after owner (Queued job priority at) = owner
owner_after owner (Taken job on lock now) = Some lock
owner_after owner (Beat job lock now) = owner
owner_after owner (Ran job lock from to next) = None
owner_after owner (Replied job lock reply) = None
owner_after owner (Swept job now beat) = None
owner_after owner (PutBack job lock at) = None

-- the moment of the last Taken or Beat entry
abbrev pub beat_after : ℕ → Entry → ℕ
beat_after beat (Queued job priority at) = beat
beat_after beat (Taken job on lock now) = now
beat_after beat (Beat job lock now) = now
beat_after beat (Ran job lock from to next) = beat
beat_after beat (Replied job lock reply) = beat
beat_after beat (Swept job now last) = beat
beat_after beat (PutBack job lock at) = beat

-- the moment of the last Queued or PutBack entry
abbrev pub scheduled_after : ℕ → Entry → ℕ
scheduled_after scheduled (Queued job priority at) = at
scheduled_after scheduled (Taken job on lock now) = scheduled
scheduled_after scheduled (Beat job lock now) = scheduled
scheduled_after scheduled (Ran job lock from to next) = scheduled
scheduled_after scheduled (Replied job lock reply) = scheduled
scheduled_after scheduled (Swept job now beat) = scheduled
scheduled_after scheduled (PutBack job lock at) = at

-- the priority of the Queued entry
abbrev pub priority_after : ℤ → Entry → ℤ
priority_after before (Queued job priority at) = priority
priority_after before (Taken job on lock now) = before
priority_after before (Beat job lock now) = before
priority_after before (Ran job lock from to next) = before
priority_after before (Replied job lock reply) = before
priority_after before (Swept job now beat) = before
priority_after before (PutBack job lock at) = before

-- the replies of the Replied entries
abbrev pub reply_in : Entry → Option Reply
reply_in (Queued job priority at) = None
reply_in (Taken job on lock now) = None
reply_in (Beat job lock now) = None
reply_in (Ran job lock from to next) = None
reply_in (Replied job lock reply) = Some reply
reply_in (Swept job now beat) = None
reply_in (PutBack job lock at) = None

-- how many operations are done: where the last Ran entry leads
abbrev pub ops_after : ℕ → Entry → ℕ
ops_after ops (Queued job priority at) = ops
ops_after ops (Taken job on lock now) = ops
ops_after ops (Beat job lock now) = ops
ops_after ops (Ran job lock from to next) = to
ops_after ops (Replied job lock reply) = ops
ops_after ops (Swept job now beat) = ops
ops_after ops (PutBack job lock at) = ops

-- how often the job was put back since its last Ran or Replied entry; 255 where it was more
abbrev pub tries_after : ℕ → Entry → ℕ
tries_after tries (Queued job priority at) = 0
tries_after tries (Taken job on lock now) = tries
tries_after tries (Beat job lock now) = tries
tries_after tries (Ran job lock from to next) = 0
tries_after tries (Replied job lock reply) = 0
tries_after tries (Swept job now beat) = tries
tries_after tries (PutBack job lock at) = min 255 (tries + 1)

-- the sweeps: the moment of each Swept entry, and the beat beside it
abbrev pub sweep_in : Entry → Option (ℕ × ℕ)
sweep_in (Queued job priority at) = None
sweep_in (Taken job on lock now) = None
sweep_in (Beat job lock now) = None
sweep_in (Ran job lock from to next) = None
sweep_in (Replied job lock reply) = None
sweep_in (Swept job now beat) = Some (now, beat)
sweep_in (PutBack job lock at) = None

-- the queue on which a run leaves its job
abbrev pub queue_at : Next → QueueName
queue_at next.Hog = queue.Hog
queue_at next.Fetch = queue.Fetch
queue_at next.Finished = queue.Hog

-- the queue: `Fetch` where the last Ran or Replied entry is a run that waits for a reply
abbrev pub queue_after : QueueName → Entry → QueueName
queue_after before (Queued job priority at) = before
queue_after before (Taken job on lock now) = before
queue_after before (Beat job lock now) = before
queue_after before (Ran job lock from to next) = queue_at next
queue_after before (Replied job lock reply) = queue.Hog
queue_after before (Swept job now beat) = before
queue_after before (PutBack job lock at) = before

abbrev pub is_finished : Next → Bool
is_finished next.Hog = false
is_finished next.Fetch = false
is_finished next.Finished = true

-- whether the last Ran entry finished the job
abbrev pub ended_after : Bool → Entry → Bool
ended_after ended (Queued job priority at) = ended
ended_after ended (Taken job on lock now) = ended
ended_after ended (Beat job lock now) = ended
ended_after ended (Ran job lock from to next) = is_finished next
ended_after ended (Replied job lock reply) = ended
ended_after ended (Swept job now beat) = ended
ended_after ended (PutBack job lock at) = ended

-- what is known of one job
pub record JobFacts : Type 0 where
  pub owner : Option LockId
  pub beat : ℕ
  pub scheduled : ℕ
  pub priority : ℤ
  pub replies : List Reply
  pub ops : ℕ
  pub tries : ℕ
  pub sweeps : List (ℕ × ℕ)
  pub queue : QueueName
  pub ended : Bool

-- what entries say that are all of one job
abbrev pub facts_from : List Entry → JobFacts
facts_from entries = record {
  owner = fold owner_after None entries;
  beat = fold beat_after 0 entries;
  scheduled = fold scheduled_after 0 entries;
  priority = fold priority_after (pos 0) entries;
  replies = filter_map reply_in entries;
  ops = fold ops_after 0 entries;
  tries = fold tries_after 0 entries;
  sweeps = filter_map sweep_in entries;
  queue = fold queue_after queue.Hog entries;
  ended = fold ended_after false entries;
}

-- what a history says of a job
unfoldable pub facts_of : ℕ → List Entry → JobFacts
facts_of job history = facts_from (entries_of job history)

-- failed with three sweeps, completed where the last run finished it, running with an owner, else available
abbrev pub state_of : JobFacts → JobState
state_of facts = if nat_le 3 (length facts.sweeps) then Failed else (if facts.ended then Completed else (if is_some facts.owner then Running else Available))

-- the state in which a run leaves its job
abbrev pub state_after : Next → JobState
state_after next.Hog = Available
state_after next.Fetch = Available
state_after next.Finished = Completed

-- the state of a job that was just swept, after so many sweeps in all
abbrev pub swept_state : ℕ → JobState
swept_state n = if nat_le 3 n then Failed else Available
