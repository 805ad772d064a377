-- Jobs of scripts take any reply, whatever steps are played.
use Rattle.std.proofs.Common.{◌≡◌, ℕ, ℤ, List, Option, Some, None, inl, inr, refl, sym, subst}
use Rattle.std.specs.Prelude.{slice_get, slice_set}
use Rattle.std.specs.List.{All}
use Rattle.std.proofs.lemmas.List.Elements.{All-nil, All-replicate, All-get_or, All-set, All-push}
use Rattle.std.proofs.lemmas.Option.{slice_get_within, get_or_from_slice_get}
use Rattle.lock_ids.specs.declared.lock.LockId.{LockId}
use Rattle.cyclotron_jobs.specs.declared.input.JobInput.{JobInput}
use Rattle.cyclotron_jobs.specs.declared.input.Reply.{Reply}
use Rattle.cyclotron_jobs.specs.declared.input.Answers.{Answers}
use Rattle.cyclotron_jobs.specs.declared.input.Answers.TheVariants.{Free}
use Rattle.cyclotron_jobs.specs.declared.row.Row.{Row}
use Rattle.cyclotron_jobs.specs.declared.row.QueueName.{QueueName}
use Rattle.cyclotron_jobs.specs.declared.entry.Entry.{Entry}
use Rattle.cyclotron_jobs.specs.Replies.{Allows}
use Rattle.cyclotron_core.specs.Changes.{row_after_take, row_after_beat, row_after_put_back, row_after_sweep}
use Rattle.script_reader.specs.Steps.{IsFit}
use Rattle.script_reader.specs.declared.step.Step.{Step}
use Rattle.script_reader.specs.declared.step.Step.TheVariants as step
use Rattle.script_steps.specs.declared.said.Held.{Held}
use Rattle.script_steps.specs.declared.said.Product.{Product}
use Rattle.script_steps.specs.declared.said.Product.TheVariants as kind
use Rattle.script_steps.specs.declared.said.Said.{Said}
use Rattle.script_steps.specs.declared.said.Said.TheVariants.{Job, Full, Taken, Busy, Nothing, Idle, Fine, Poisoned, Refused, Keeper}
use Rattle.script_steps.specs.Play.{Scene, Stage, Stays, Hands, Appends, Enqueues, Sweeps, Takes, Beats, Backs, Works, Replies, Flushes, Loses, Forges, Acts, ByWorker, at_hand, row_after, holding, answer_to}
use Rattle.script_steps.specs.Plays.{empty_stage}
use Rattle.script_steps.specs.Free.{IsFree, HandIsFree, AreFree}

-- any reply is allowed to such a job
pub free_allows : (answers : Answers) (n : ℕ) (reply : Reply) → answers ≡ Free → Allows answers n reply
free_allows answers n reply free = subst (λ a. Allows a n reply) (sym free) tt

-- what holds of all holds of the one at a place
pub all_at : {X : Type 0} (P : X → Type 0) (xs : List X) (i : ℕ) (x : X) → All P xs → slice_get xs i ≡ Some x → P x
all_at P xs i x all there = subst P (get_or_from_slice_get xs i x x there) (All-get_or P xs i x (slice_get_within xs i x there) all)

-- rows and hand of a place
record SceneIsFree (place : Scene) : Type 0 where
  pub rows : All (λ (row : Row). IsFree row.input) place.rows
  pub hand : HandIsFree place.hand

stays_free : (old new : Scene) → SceneIsFree old → Stays old new → SceneIsFree new
stays_free old new free stays = record {
  rows = subst (All (λ (row : Row). IsFree row.input)) (sym stays.rows) free.rows;
  hand = subst HandIsFree (sym stays.hand) free.hand;
}

hands_free : (old new : Scene) (hand : Option Held) → SceneIsFree old → HandIsFree hand → Hands old new hand → SceneIsFree new
hands_free old new hand free held hands = record {
  rows = subst (All (λ (row : Row). IsFree row.input)) (sym hands.rows) free.rows;
  hand = subst HandIsFree (sym hands.held) held;
}

-- the row of one job changed, and its input is as it was
set_free : (rows new : List Row) (job : ℕ) (before after : Row) → All (λ (row : Row). IsFree row.input) rows → slice_get rows job ≡ Some before
    → after.input ≡ before.input → new ≡ slice_set rows job after → All (λ (row : Row). IsFree row.input) new
set_free rows new job before after free there same is =
    subst (All (λ (row : Row). IsFree row.input)) (sym is)
    (All-set (λ (row : Row). IsFree row.input) rows job after
    (subst IsFree (sym same) (all_at (λ (row : Row). IsFree row.input) rows job before free there)) free)

appends_free : (old new : Scene) (job : ℕ) (change : Row → Row) (e : Entry) (hand : Option Held) → ((row : Row) → (change row).input ≡ row.input)
    → SceneIsFree old → HandIsFree hand → Appends old new job change e hand → SceneIsFree new
appends_free old new job change e hand same free held is = record {
  rows = set_free old.rows new.rows job is.before (change is.before) free.rows is.there (same is.before) is.rows;
  hand = subst HandIsFree (sym is.held) held;
}

-- what a worker holds, by what its hand is
held_free : (hand : Option Held) (held : Held) → HandIsFree hand → hand ≡ Some held → IsFree held.lease.input
held_free hand held free is = let known : HandIsFree (Some held) = subst HandIsFree is free in known

-- ---- each step

enqueue_free : (input : JobInput) (rank : ℤ) (at : ℕ) (old new : Scene) (said : Said) → IsFree input → All (λ (row : Row). IsFree row.input) old.rows
    → Enqueues input rank at old said new → All (λ (row : Row). IsFree row.input) new.rows
enqueue_free input rank at old new (Job job) is free act =
    subst (All (λ (row : Row). IsFree row.input)) (sym act.rows) (All-push (λ (row : Row). IsFree row.input) old.rows act.row free (subst IsFree (sym act.fresh.input) is))
enqueue_free input rank at old new Full is free act = subst (All (λ (row : Row). IsFree row.input)) (sym act.1.rows) free
enqueue_free input rank at old new Keeper is free act = subst (All (λ (row : Row). IsFree row.input)) (sym act.1.rows) free
enqueue_free input rank at old new said is free act = absurd act

sweep_free : (now : ℕ) (old new : Scene) (said : Said) → SceneIsFree old → Sweeps now old said new → SceneIsFree new
sweep_free now old new (Job job) free act = appends_free old new job (row_after_sweep now) _ old.hand (λ row. refl) free free.hand act.step
sweep_free now old new (Poisoned job) free act = appends_free old new job (row_after_sweep now) _ old.hand (λ row. refl) free free.hand act.step
sweep_free now old new Nothing free act = stays_free old new free act.1
sweep_free now old new Keeper free act = stays_free old new free act.1
sweep_free now old new said free act = absurd act

take_free : (on : QueueName) (now : ℕ) (old new : Scene) (said : Said) → SceneIsFree old → Takes on now old said new → SceneIsFree new
take_free on now old new (Taken lock) free act = record {
  rows = set_free old.rows new.rows lock.job act.1.before (row_after_take lock now act.1.before) free.rows act.1.there refl act.1.rows;
  hand = subst HandIsFree (sym act.1.held) (all_at (λ (row : Row). IsFree row.input) old.rows lock.job act.1.before free.rows act.1.there);
}
take_free on now old new Busy free act = stays_free old new free act.1
take_free on now old new Nothing free act = stays_free old new free act.2
take_free on now old new Keeper free act = stays_free old new free act.2
take_free on now old new said free act = absurd act

beat_free : (now : ℕ) (old new : Scene) (said : Said) → SceneIsFree old → Beats now old said new → SceneIsFree new
beat_free now old new Idle free act = stays_free old new free act.1
beat_free now old new Fine free act = appends_free old new act.held.lock.job (row_after_beat now) _ old.hand (λ row. refl) free free.hand act.step
beat_free now old new (Refused stop) free act = stays_free old new free act.stays
beat_free now old new said free act = absurd act

back_free : (at : ℕ) (old new : Scene) (said : Said) → SceneIsFree old → Backs at old said new → SceneIsFree new
back_free at old new Idle free act = stays_free old new free act.1
back_free at old new Fine free act = appends_free old new act.held.lock.job (row_after_put_back at) _ None (λ row. refl) free tt act.step
back_free at old new (Refused stop) free act = stays_free old new free act.stays
back_free at old new said free act = absurd act

work_free : (slice : ℕ) (old new : Scene) (said : Said) → SceneIsFree old → Works slice old said new → SceneIsFree new
work_free slice old new said free (inl idle) = stays_free old new free idle.2
work_free slice old new said free (inr made) = hands_free old new (holding made.can.held (kind.Run made.run)) free (held_free old.hand made.can.held free.hand made.can.is) made.hands

answer_free : (reply : Reply) (old new : Scene) (said : Said) → SceneIsFree old → Replies reply old said new → SceneIsFree new
answer_free reply old new said free (inl idle) = stays_free old new free idle.2
answer_free reply old new said free (inr made) = hands_free old new (holding made.can.held (kind.Reply (answer_to made.can.held.lease reply))) free (held_free old.hand made.can.held free.hand made.can.is) made.hands

same_input : (product : Product) (row : Row) → (row_after product row).input ≡ row.input
same_input (kind.Run run) row = refl
same_input (kind.Reply answered) row = refl

flush_free : (old new : Scene) (said : Said) → SceneIsFree old → Flushes old said new → SceneIsFree new
flush_free old new Idle free act = stays_free old new free act.1
flush_free old new Fine free act = appends_free old new act.holds.held.lock.job (row_after act.holds.product) _ None (same_input act.holds.product) free tt act.step
flush_free old new (Refused stop) free act = stays_free old new free act.stays
flush_free old new said free act = absurd act

lose_free : (old new : Scene) (said : Said) → SceneIsFree old → Loses old said new → SceneIsFree new
lose_free old new Idle free act = stays_free old new free act.1
lose_free old new Fine free act = hands_free old new None free tt act.1
lose_free old new said free act = absurd act

forge_free : (lock : LockId) (old new : Scene) (said : Said) → SceneIsFree old → Forges lock old said new → SceneIsFree new
forge_free lock old new Idle free act = stays_free old new free act.1
forge_free lock old new Fine free act = hands_free old new (Some (record act.held { lock = lock })) free (held_free old.hand act.held free.hand act.hand) act.hands
forge_free lock old new said free act = absurd act

-- ---- all workers

scene_free : (stage : Stage) (hand : Option Held) → AreFree stage → HandIsFree hand → SceneIsFree (at_hand stage hand)
scene_free stage hand free held = record { rows = free.rows; hand = held }

by_worker_free : (moves : Scene → Said → Scene → Type 0) (worker : ℕ) (old new : Stage) (said : Said) → AreFree old
    → ((a b : Scene) → SceneIsFree a → moves a said b → SceneIsFree b) → ByWorker moves worker old said new → AreFree new
by_worker_free moves worker old new said free keeps act =
    let left = keeps (at_hand old act.hand) (at_hand new act.left) (scene_free old act.hand free (all_at HandIsFree old.hands worker act.hand free.hands act.there)) act.act in
    record {
      rows = left.rows;
      hands = subst (All HandIsFree) (sym act.hands) (All-set HandIsFree old.hands worker act.left left.hand free.hands);
    }

-- a step leaves all jobs as free as they were
pub acts_free : (s : Step) (old new : Stage) (said : Said) → IsFit s → AreFree old → Acts s old said new → AreFree new
acts_free (step.Enqueue input rank at) old new said fit free act = record {
  rows = enqueue_free input rank at (at_hand old None) (at_hand new None) said fit.ranges.1 free.rows act.act;
  hands = subst (All HandIsFree) (sym act.hands) free.hands;
}
acts_free (step.Sweep now) old new said fit free act = record {
  rows = (sweep_free now (at_hand old None) (at_hand new None) said (scene_free old None free tt) act.act).rows;
  hands = subst (All HandIsFree) (sym act.hands) free.hands;
}
acts_free (step.Take worker on now) old new said fit free act = by_worker_free (Takes on now) worker old new said free (λ a b. take_free on now a b said) act
acts_free (step.Beat worker now) old new said fit free act = by_worker_free (Beats now) worker old new said free (λ a b. beat_free now a b said) act
acts_free (step.Work worker slice) old new said fit free act = by_worker_free (Works slice) worker old new said free (λ a b. work_free slice a b said) act
acts_free (step.Answer worker reply) old new said fit free act = by_worker_free (Replies reply) worker old new said free (λ a b. answer_free reply a b said) act
acts_free (step.Flush worker) old new said fit free act = by_worker_free Flushes worker old new said free (λ a b. flush_free a b said) act
acts_free (step.Lose worker) old new said fit free act = by_worker_free Loses worker old new said free (λ a b. lose_free a b said) act
acts_free (step.Forge worker job draw) old new said fit free act = by_worker_free (Forges (record { job = job; draw = draw })) worker old new said free (λ a b. forge_free (record { job = job; draw = draw }) a b said) act
acts_free (step.Back worker at) old new said fit free act = by_worker_free (Backs at) worker old new said free (λ a b. back_free at a b said) act

-- a play begins with no job
pub empty_free : AreFree empty_stage
empty_free = record { rows = All-nil (λ (row : Row). IsFree row.input); hands = All-replicate HandIsFree 16 None tt }
