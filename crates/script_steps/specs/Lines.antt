-- The lines of a play.
use Rattle.std.specs.Prelude.{ℕ, List, [], ◌∷◌, ◌++◌, codes, count_by, flat_map, Option, Some, None, ◌==◌, nat_lt, if◌then◌else◌}
use Rattle.std.specs.Fmt.{decimal}
use Rattle.hog_json.specs.Lines.{ended}
use Rattle.lock_ids.specs.Lock.{id_text}
use Rattle.lock_ids.specs.declared.lock.LockId.{LockId}
use Rattle.line_writer.specs.Lines.{output_of}
use Rattle.cyclotron_jobs.specs.declared.row.Row.{Row}
use Rattle.cyclotron_jobs.specs.declared.row.JobState.{JobState}
use Rattle.cyclotron_jobs.specs.declared.row.JobState.TheVariants.{Available, Running, Completed, Failed}
use Rattle.cyclotron_jobs.specs.declared.row.QueueName.{QueueName}
use Rattle.cyclotron_jobs.specs.declared.row.QueueName.TheVariants as queue
use Rattle.cyclotron_jobs.specs.declared.entry.Entry.{Entry}
use Rattle.cyclotron_jobs.specs.declared.entry.Entry.TheVariants as entry
use Rattle.cyclotron_jobs.specs.declared.refused.LeaseStop.{LeaseStop}
use Rattle.cyclotron_jobs.specs.declared.refused.LeaseStop.TheVariants as stop
use Rattle.script_steps.specs.declared.said.Said.{Said}
use Rattle.script_steps.specs.declared.said.Said.TheVariants.{Job, Full, Taken, Busy, Nothing, Idle, Fine, Sliced, Asks, Ended, Answered, Poisoned, Refused, Keeper}
use Rattle.script_reader.specs.declared.step.Step.{Step}
use Rattle.script_reader.specs.declared.step.Step.TheVariants as step

-- the word of a step
abbrev pub word_of : Step → List ℕ
word_of (step.Enqueue input rank at) = codes "enqueue "
word_of (step.Take worker on now) = codes "take "
word_of (step.Beat worker now) = codes "beat "
word_of (step.Work worker slice) = codes "work "
word_of (step.Answer worker reply) = codes "answer "
word_of (step.Flush worker) = codes "flush "
word_of (step.Sweep now) = codes "sweep "
word_of (step.Lose worker) = codes "lose "
word_of (step.Forge worker job draw) = codes "forge "
word_of (step.Back worker at) = codes "back "

-- the live lock, where there is one
abbrev pub lock_text : Option LockId → List ℕ
lock_text None = codes "none"
lock_text (Some lock) = id_text lock

abbrev pub stop_text : LeaseStop → List ℕ
stop_text stop.UnknownJob = codes "unknown job"
stop_text (stop.WrongLock live) = codes "wrong lock " ++ lock_text live
stop_text stop.NotThisRun = codes "not this run"
stop_text stop.OutOfMemory = []
stop_text stop.Keeper = codes "keeper"

abbrev pub said_text : Said → List ℕ
said_text (Job job) = decimal job
said_text Full = codes "full"
said_text (Taken lock) = decimal lock.job ++ 32 ∷ id_text lock
said_text Busy = codes "busy"
said_text Nothing = codes "none"
said_text Idle = codes "idle"
said_text Fine = codes "ok"
said_text (Sliced ops) = codes "sliced " ++ decimal ops
said_text (Asks ops) = codes "asks " ++ decimal ops
said_text (Ended ops) = codes "ended " ++ decimal ops
said_text (Answered status) = decimal status
said_text (Poisoned job) = decimal job ++ codes " poisoned"
said_text (Refused stop) = stop_text stop
said_text Keeper = codes "keeper"

-- the line of a step
abbrev pub step_line : Step → Said → List ℕ
step_line s said = word_of s ++ said_text said

-- the lines of steps in order
abbrev pub step_lines : List Step → List Said → List ℕ
step_lines [] saids = []
step_lines (s ∷ steps) [] = []
step_lines (s ∷ steps) (said ∷ saids) = ended (step_line s said) ++ step_lines steps saids

abbrev pub state_text : JobState → QueueName → List ℕ
state_text Available queue.Hog = codes "available hog"
state_text Available queue.Fetch = codes "available fetch"
state_text Running queue.Hog = codes "running hog"
state_text Running queue.Fetch = codes "running fetch"
state_text Completed on = codes "completed"
state_text Failed on = codes "failed"

abbrev pub job_line : ℕ → JobState → QueueName → List ℕ
job_line job state on = codes "job " ++ (decimal job ++ 32 ∷ state_text state on)

-- a sweep: its moment, and the job's last beat
abbrev pub sweep_text : ℕ × ℕ → List ℕ
sweep_text sweep = 32 ∷ (decimal sweep.0 ++ 47 ∷ decimal sweep.1)

abbrev pub poisoned_line : List (ℕ × ℕ) → List ℕ
poisoned_line sweeps = codes "poisoned" ++ flat_map sweep_text sweeps

-- the line of a job's sweeps, where it failed
abbrev pub poisoned_lines : JobState → List (ℕ × ℕ) → List ℕ
poisoned_lines Available sweeps = []
poisoned_lines Running sweeps = []
poisoned_lines Completed sweeps = []
poisoned_lines Failed sweeps = ended (poisoned_line sweeps)

-- a job: its state, what was committed of its trace and its end, and its sweeps where it failed
abbrev pub row_lines : Row → List ℕ
row_lines row =
    ended (job_line row.job row.state row.queue)
    ++ (output_of row.shown ++ poisoned_lines row.state row.sweeps)

-- ---- how many entries there are of each kind

-- the place of an entry's kind among the kinds, in the order of the last line
abbrev pub kind_of : Entry → ℕ
kind_of (entry.Queued job rank at) = 0
kind_of (entry.Taken job on lock now) = 1
kind_of (entry.Beat job lock now) = 2
kind_of (entry.Ran job lock from to next) = 3
kind_of (entry.Replied job lock reply) = 4
kind_of (entry.Swept job now beat) = 5
kind_of (entry.PutBack job lock at) = 6

-- how many entries are of a kind
abbrev pub count_of : ℕ → List Entry → ℕ
count_of kind history = count_by (λ e. kind_of e == kind) history

-- put-backs are named only where there are some
abbrev pub backs_text : ℕ → List ℕ
backs_text n = if nat_lt 0 n then codes " back " ++ decimal n else []

abbrev pub counts_line : List Entry → List ℕ
counts_line history =
    codes "entries queued " ++ (decimal (count_of 0 history)
    ++ (codes " taken " ++ (decimal (count_of 1 history)
    ++ (codes " beat " ++ (decimal (count_of 2 history)
    ++ (codes " ran " ++ (decimal (count_of 3 history)
    ++ (codes " replied " ++ (decimal (count_of 4 history)
    ++ (codes " swept " ++ (decimal (count_of 5 history)
    ++ backs_text (count_of 6 history))))))))))))

-- the lines after the steps: those of the jobs in order, and then the counts
abbrev pub closing_lines : List Row → List Entry → List ℕ
closing_lines rows history = flat_map row_lines rows ++ ended (counts_line history)
