-- What a play of steps says, and what it does to rows, history and hands.
use Rattle.std.specs.Prelude.{◌≡◌, ◌≢◌, ℕ, ◌+◌, ◌<◌, ◌≤◌, ◌⊎◌, ◌^◌, ℤ, List, [], ◌∷◌, ◌++◌, Option, Some, None, IsSome, slice_get, slice_set}
use Rattle.lock_ids.specs.declared.lock.LockId.{LockId}
use Rattle.cyclotron_jobs.specs.declared.input.JobInput.{JobInput}
use Rattle.cyclotron_jobs.specs.declared.input.Reply.{Reply}
use Rattle.cyclotron_jobs.specs.declared.row.Row.{Row}
use Rattle.cyclotron_jobs.specs.declared.row.QueueName.{QueueName}
use Rattle.cyclotron_jobs.specs.declared.row.QueueName.TheVariants as queue
use Rattle.cyclotron_jobs.specs.declared.row.JobState.{JobState}
use Rattle.cyclotron_jobs.specs.declared.row.JobState.TheVariants.{Available, Failed}
use Rattle.cyclotron_jobs.specs.declared.row.After.{After}
use Rattle.cyclotron_jobs.specs.declared.row.After.TheVariants as after
use Rattle.cyclotron_jobs.specs.declared.entry.Entry.{Entry}
use Rattle.cyclotron_jobs.specs.declared.entry.Entry.TheVariants as entry
use Rattle.cyclotron_jobs.specs.declared.refused.LeaseStop.{LeaseStop}
use Rattle.cyclotron_jobs.specs.declared.refused.LeaseStop.TheVariants as stop
use Rattle.cyclotron_jobs.specs.Course.{next_of}
use Rattle.cyclotron_jobs.specs.Leases.{LeaseOf, AdvanceOf, AnsweredOf}
use Rattle.queue_history.specs.declared.TheConstants.{MOST_JOBS}
use Rattle.queue_history.specs.Facts.{facts_of, jobs_of, takes_of}
use Rattle.queue_history.specs.Due.{NoneDue, IsFirstDue, NoneStale, IsFirstStale}
use Rattle.queue_history.specs.Rows.{IsNewRow}
use Rattle.cyclotron_core.specs.Queue.{QueueOf}
use Rattle.cyclotron_core.specs.Changes.{row_after_take, row_after_beat, row_after_run, row_after_reply, row_after_put_back, row_after_sweep, lease_of}
use Rattle.cyclotron_core.specs.Refusals.{IsOwner, RunBegan, AnswerBegan, Refuses}
use Rattle.hog_worker.specs.Work.{IsWork}
use Rattle.script_steps.specs.declared.said.Held.{Held}
use Rattle.script_steps.specs.declared.said.Product.{Product}
use Rattle.script_steps.specs.declared.said.Product.TheVariants as kind
use Rattle.script_steps.specs.declared.said.Said.{Said}
use Rattle.script_steps.specs.declared.said.Said.TheVariants.{Job, Full, Taken, Busy, Nothing, Idle, Fine, Sliced, Asks, Ended, Answered, Poisoned, Refused, Keeper}
use Rattle.script_reader.specs.declared.step.Step.{Step}
use Rattle.script_reader.specs.declared.step.Step.TheVariants as step

-- what a step finds and leaves: the rows, the history, and what its worker holds
pub record Scene : Type 0 where
  pub rows : List Row
  pub history : List Entry
  pub hand : Option Held

abbrev pub scene_at : List Row → List Entry → Option Held → Scene
scene_at rows history hand = record { rows = rows; history = history; hand = hand }

abbrev pub scene_of : {K : Type 0} → QueueOf K → Option Held → Scene
scene_of queue hand = scene_at queue.rows queue.history hand

-- nothing changed
pub record Stays (old new : Scene) : Type 0 where
  pub rows : new.rows ≡ old.rows
  pub history : new.history ≡ old.history
  pub hand : new.hand ≡ old.hand

-- the hand alone changed
pub record Hands (old new : Scene) (hand : Option Held) : Type 0 where
  pub rows : new.rows ≡ old.rows
  pub history : new.history ≡ old.history
  pub held : new.hand ≡ hand

-- one entry was appended, the row of its job changed, and the worker holds this then
pub record Appends (old new : Scene) (job : ℕ) (change : Row → Row) (appended : Entry) (hand : Option Held) : Type 0 where
  pub before : Row
  pub there : slice_get old.rows job ≡ Some before
  pub rows : new.rows ≡ slice_set old.rows job (change before)
  pub history : new.history ≡ old.history ++ appended ∷ []
  pub held : new.hand ≡ hand

-- ---- steps without a worker

-- a job was added under the next number
pub record Enqueued (input : JobInput) (rank : ℤ) (at : ℕ) (old new : Scene) (job : ℕ) : Type 0 where
  pub number : job ≡ jobs_of old.history
  pub room : job < MOST_JOBS
  pub row : Row
  pub fresh : IsNewRow row job input rank at
  pub rows : new.rows ≡ old.rows ++ row ∷ []
  pub history : new.history ≡ old.history ++ entry.Queued job rank at ∷ []

abbrev pub Enqueues : JobInput → ℤ → ℕ → Scene → Said → Scene → Type 0
Enqueues input rank at old (Job job) new = Enqueued input rank at old new job
Enqueues input rank at old Full new = (MOST_JOBS ≤ jobs_of old.history) × Stays old new
Enqueues input rank at old Keeper new = (jobs_of old.history < MOST_JOBS) × Stays old new
Enqueues input rank at old said new = ⊥

-- the job that is stale first was swept, and its row is then in this state
pub record Swept (now : ℕ) (old new : Scene) (job : ℕ) (state : JobState) : Type 0 where
  pub first : IsFirstStale old.history now job
  pub step : Appends old new job (row_after_sweep now) (entry.Swept job now (facts_of job old.history).beat) old.hand
  pub then : (row_after_sweep now step.before).state ≡ state

abbrev pub Sweeps : ℕ → Scene → Said → Scene → Type 0
Sweeps now old (Job job) new = Swept now old new job Available
Sweeps now old (Poisoned job) new = Swept now old new job Failed
Sweeps now old Nothing new = NoneStale old.history now × Stays old new
Sweeps now old Keeper new = ¬ (NoneStale old.history now) × Stays old new
Sweeps now old said new = ⊥

-- ---- steps of a worker

-- the job that is due first was taken under a new lock, and the worker holds its lease
pub record TakesFirst (on : QueueName) (now : ℕ) (old new : Scene) (lock : LockId) : Type 0 where
  pub first : IsFirstDue old.history on now lock.job
  pub draw : lock.draw ≡ takes_of old.history + 1
  pub before : Row
  pub there : slice_get old.rows lock.job ≡ Some before
  pub rows : new.rows ≡ slice_set old.rows lock.job (row_after_take lock now before)
  pub history : new.history ≡ old.history ++ entry.Taken lock.job on lock now ∷ []
  pub held : new.hand ≡ Some (record { lock = lock; lease = lease_of lock before; product = None })

abbrev pub Takes : QueueName → ℕ → Scene → Said → Scene → Type 0
Takes on now old (Taken lock) new = (old.hand ≡ None) × TakesFirst on now old new lock
Takes on now old Busy new = IsSome old.hand × Stays old new
Takes on now old Nothing new = (old.hand ≡ None) × NoneDue old.history on now × Stays old new
Takes on now old Keeper new = (old.hand ≡ None) × ¬ (NoneDue old.history on now) × Stays old new
Takes on now old said new = ⊥

-- A call under a lock is refused in this way; the refusals are tested in their order, and want of memory says nothing.
pub record IsRefused (history : List Entry) (lock : LockId) (began : Type 0) (why : LeaseStop) : Type 0 where
  pub cause : Refuses history lock began (Unit {0}) why
  pub said : why ≢ stop.OutOfMemory

-- the worker holds something, and acts under its lock
pub record Beaten (now : ℕ) (old new : Scene) : Type 0 where
  pub held : Held
  pub hand : old.hand ≡ Some held
  pub owner : IsOwner old.history held.lock
  pub step : Appends old new held.lock.job (row_after_beat now) (entry.Beat held.lock.job held.lock now) old.hand

pub record RefusedUnder (old new : Scene) (stop : LeaseStop) : Type 0 where
  pub held : Held
  pub hand : old.hand ≡ Some held
  pub refused : IsRefused old.history held.lock (Unit {0}) stop
  pub stays : Stays old new

abbrev pub Beats : ℕ → Scene → Said → Scene → Type 0
Beats now old Idle new = (old.hand ≡ None) × Stays old new
Beats now old Fine new = Beaten now old new
Beats now old (Refused stop) new = RefusedUnder old new stop
Beats now old said new = ⊥

pub record GoneBack (at : ℕ) (old new : Scene) : Type 0 where
  pub held : Held
  pub hand : old.hand ≡ Some held
  pub owner : IsOwner old.history held.lock
  pub step : Appends old new held.lock.job (row_after_put_back at) (entry.PutBack held.lock.job held.lock at) None

abbrev pub Backs : ℕ → Scene → Said → Scene → Type 0
Backs at old Idle new = (old.hand ≡ None) × Stays old new
Backs at old Fine new = GoneBack at old new
Backs at old (Refused stop) new = RefusedUnder old new stop
Backs at old said new = ⊥

-- the worker holds a lease on a queue, and no product
pub record CanMake (on : QueueName) (hand : Option Held) : Type 0 where
  pub held : Held
  pub is : hand ≡ Some held
  pub leased : held.lease.queue ≡ on
  pub free : held.product ≡ None

-- the worker holds a product of its lease then
abbrev pub holding : Held → Product → Option Held
holding held product = Some (record { lock = held.lock; lease = held.lease; product = Some product })

abbrev pub said_of : After → ℕ → Said
said_of after.Hog ops = Sliced ops
said_of (after.Fetch request) ops = Asks ops
said_of after.Finished ops = Ended ops

-- the worker holds the run of a slice of work on its lease then
pub record Worked (slice : ℕ) (old : Scene) (said : Said) (new : Scene) : Type 0 where
  pub can : CanMake queue.Hog old.hand
  pub run : AdvanceOf
  pub work : IsWork can.held.lease slice run
  pub word : said ≡ said_of run.after run.to
  pub hands : Hands old new (holding can.held (kind.Run run))

abbrev pub Works : ℕ → Scene → Said → Scene → Type 0
Works slice old said new = ((said ≡ Idle) × ¬ (CanMake queue.Hog old.hand) × Stays old new) ⊎ Worked slice old said new

-- the reply to the request of a lease
abbrev pub answer_to : LeaseOf → Reply → AnsweredOf
answer_to lease reply = record { input = lease.input; replies = lease.replies; from = lease.ops; reply = reply }

-- the worker holds the step's reply to the request of its lease then
pub record Replied (reply : Reply) (old : Scene) (said : Said) (new : Scene) : Type 0 where
  pub can : CanMake queue.Fetch old.hand
  pub word : said ≡ Answered reply.status
  pub hands : Hands old new (holding can.held (kind.Reply (answer_to can.held.lease reply)))

abbrev pub Replies : Reply → Scene → Said → Scene → Type 0
Replies reply old said new = ((said ≡ Idle) × ¬ (CanMake queue.Fetch old.hand) × Stays old new) ⊎ Replied reply old said new

-- the worker holds a product
pub record HoldsProduct (hand : Option Held) : Type 0 where
  pub held : Held
  pub is : hand ≡ Some held
  pub product : Product
  pub made : held.product ≡ Some product

-- the product began at the committed state of the job
abbrev pub ProductBegan : List Row → ℕ → Product → Type 0
ProductBegan rows job (kind.Run run) = RunBegan rows job run
ProductBegan rows job (kind.Reply answered) = AnswerBegan rows job answered

-- the row of a job after the flush of a product
abbrev pub row_after : Product → Row → Row
row_after (kind.Run run) = row_after_run run
row_after (kind.Reply answered) = row_after_reply answered.reply

-- the entry of the flush of a product
abbrev pub entry_of : LockId → Product → Entry
entry_of lock (kind.Run run) = entry.Ran lock.job lock run.from run.to (next_of run.after)
entry_of lock (kind.Reply answered) = entry.Replied lock.job lock answered.reply

pub record Flushed (old new : Scene) : Type 0 where
  pub holds : HoldsProduct old.hand
  pub owner : IsOwner old.history holds.held.lock
  pub began : ProductBegan old.rows holds.held.lock.job holds.product
  pub step : Appends old new holds.held.lock.job (row_after holds.product) (entry_of holds.held.lock holds.product) None

pub record RefusedFlush (old new : Scene) (stop : LeaseStop) : Type 0 where
  pub holds : HoldsProduct old.hand
  pub refused : IsRefused old.history holds.held.lock (ProductBegan old.rows holds.held.lock.job holds.product) stop
  pub stays : Stays old new

abbrev pub Flushes : Scene → Said → Scene → Type 0
Flushes old Idle new = ¬ (HoldsProduct old.hand) × Stays old new
Flushes old Fine new = Flushed old new
Flushes old (Refused stop) new = RefusedFlush old new stop
Flushes old said new = ⊥

abbrev pub Loses : Scene → Said → Scene → Type 0
Loses old Idle new = (old.hand ≡ None) × Stays old new
Loses old Fine new = IsSome old.hand × Hands old new None
Loses old said new = ⊥

-- the worker acts from now on under another lock
pub record Forged (lock : LockId) (old new : Scene) : Type 0 where
  pub held : Held
  pub hand : old.hand ≡ Some held
  pub hands : Hands old new (Some (record held { lock = lock }))

abbrev pub Forges : LockId → Scene → Said → Scene → Type 0
Forges lock old Idle new = (old.hand ≡ None) × Stays old new
Forges lock old Fine new = Forged lock old new
Forges lock old said new = ⊥

-- ---- all workers

-- rows, history, and what each worker holds
pub record Stage : Type 0 where
  pub rows : List Row
  pub history : List Entry
  pub hands : List (Option Held)

abbrev pub stage_of : {K : Type 0} → QueueOf K → List (Option Held) → Stage
stage_of queue hands = record { rows = queue.rows; history = queue.history; hands = hands }

abbrev pub at_hand : Stage → Option Held → Scene
at_hand stage hand = record { rows = stage.rows; history = stage.history; hand = hand }

-- a step of one worker: the others hold what they held
pub record ByWorker (moves : Scene → Said → Scene → Type 0) (worker : ℕ) (old : Stage) (said : Said) (new : Stage) : Type 0 where
  pub hand : Option Held
  pub there : slice_get old.hands worker ≡ Some hand
  pub left : Option Held
  pub act : moves (at_hand old hand) said (at_hand new left)
  pub hands : new.hands ≡ slice_set old.hands worker left

-- a step of no worker
pub record ByNone (moves : Scene → Said → Scene → Type 0) (old : Stage) (said : Said) (new : Stage) : Type 0 where
  pub act : moves (at_hand old None) said (at_hand new None)
  pub hands : new.hands ≡ old.hands

-- the worker of a step, where it has one
abbrev pub worker_of : Step → Option ℕ
worker_of (step.Enqueue input rank at) = None
worker_of (step.Take worker on now) = Some worker
worker_of (step.Beat worker now) = Some worker
worker_of (step.Work worker slice) = Some worker
worker_of (step.Answer worker reply) = Some worker
worker_of (step.Flush worker) = Some worker
worker_of (step.Sweep now) = None
worker_of (step.Lose worker) = Some worker
worker_of (step.Forge worker job draw) = Some worker
worker_of (step.Back worker at) = Some worker

-- What a step says and does to rows, history and its worker's hand. In place of a step that would append an entry the
-- keeper's fault may be said, and all stays as it was.
abbrev pub ActsAt : Step → Scene → Said → Scene → Type 0
ActsAt (step.Enqueue input rank at) = Enqueues input rank at
ActsAt (step.Take worker on now) = Takes on now
ActsAt (step.Beat worker now) = Beats now
ActsAt (step.Work worker slice) = Works slice
ActsAt (step.Answer worker reply) = Replies reply
ActsAt (step.Flush worker) = Flushes
ActsAt (step.Sweep now) = Sweeps now
ActsAt (step.Lose worker) = Loses
ActsAt (step.Forge worker job draw) = Forges (record { job = job; draw = draw })
ActsAt (step.Back worker at) = Backs at

abbrev pub ActsFor : Option ℕ → (Scene → Said → Scene → Type 0) → Stage → Said → Stage → Type 0
ActsFor None moves = ByNone moves
ActsFor (Some worker) moves = ByWorker moves worker

-- what a step says and does
abbrev pub Acts : Step → Stage → Said → Stage → Type 0
Acts s = ActsFor (worker_of s) (ActsAt s)

-- steps in order, each with what it says
abbrev pub PlaysOn : List Step → Stage → List Said → Stage → Type 0
PlaysOn [] old [] new = new ≡ old
PlaysOn [] old (said ∷ more) new = ⊥
PlaysOn (s ∷ steps) old [] new = ⊥
PlaysOn (s ∷ steps) old (said ∷ more) new = (next : Stage) × Acts s old said next × PlaysOn steps next more new

-- ---- the keeper's faults

-- how many faults of the keeper are said
abbrev pub faults_in : Said → ℕ
faults_in Keeper = 1
faults_in (Refused stop.Keeper) = 1
faults_in said = 0

-- the count of faults rose by so many, or stands at its greatest
abbrev pub RoseBy : ℕ → ℕ → ℕ → Type 0
RoseBy n before after = (before + n ≤ after) ⊎ (2 ^ 64 ≤ after + 1)
