-- Which histories are legal.
use Rattle.std.specs.Prelude.{ℕ, ◌≡◌, ◌+◌, ◌<◌, List, length, take, Some, slice_get}
use Rattle.cyclotron_jobs.specs.declared.input.JobInput.{JobInput}
use Rattle.cyclotron_jobs.specs.declared.entry.Entry.{Entry}
use Rattle.cyclotron_jobs.specs.declared.entry.Entry.TheVariants.{Queued, Taken, Beat, Ran, Replied, Swept, PutBack}
use Rattle.queue_history.specs.declared.TheConstants.{MOST_JOBS}
use Rattle.queue_history.specs.Rules.{InputRule, ReplyRule}
use Rattle.queue_history.specs.Facts.{facts_of, jobs_of, takes_of}
use Rattle.queue_history.specs.Due.{IsFirstDue, IsFirstStale}

-- the job has an input of which this holds
abbrev pub HasInput : List JobInput → ℕ → (JobInput → Type 0) → Type 0
HasInput inputs job holds = (input : JobInput) × (slice_get inputs job ≡ Some input) × holds input

-- An entry that may follow a history. The inputs are those of the jobs, by number.
-- Queued: the next number, below the most jobs of a queue, and an input that the course takes.
-- Taken: the job that is due first, under its number and a draw that is one more than the number of takes before.
-- Beat, Ran, Replied, PutBack: the lock is the job's owner. A run begins at the operations done and does some more,
-- and a reply is allowed at the number of replies before it.
-- Swept: the job that is stale first, with its last beat.
abbrev pub MayFollow : InputRule → ReplyRule → List JobInput → List Entry → Entry → Type 0
MayFollow takes reply_ok inputs history (Queued job priority at) =
    (job ≡ jobs_of history) × (job < MOST_JOBS) × HasInput inputs job takes
MayFollow takes reply_ok inputs history (Taken job on lock now) =
    IsFirstDue history on now job × (lock ≡ record { job = job; draw = takes_of history + 1 })
MayFollow takes reply_ok inputs history (Beat job lock now) =
    (facts_of job history).owner ≡ Some lock
MayFollow takes reply_ok inputs history (Ran job lock from to next) =
    ((facts_of job history).owner ≡ Some lock) × (from ≡ (facts_of job history).ops) × (from < to)
MayFollow takes reply_ok inputs history (Replied job lock reply) =
    ((facts_of job history).owner ≡ Some lock)
    × HasInput inputs job (λ input. reply_ok input (length (facts_of job history).replies) reply)
MayFollow takes reply_ok inputs history (Swept job now beat) =
    IsFirstStale history now job × (beat ≡ (facts_of job history).beat)
MayFollow takes reply_ok inputs history (PutBack job lock at) =
    (facts_of job history).owner ≡ Some lock

-- each entry may follow the entries before it
abbrev pub IsLegal : InputRule → ReplyRule → List JobInput → List Entry → Type 0
IsLegal takes reply_ok inputs history = (k : ℕ) (e : Entry) → slice_get history k ≡ Some e → MayFollow takes reply_ok inputs (take k history) e
