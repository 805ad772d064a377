-- Steps of a play, from what the calls of a queue do.
use Rattle.std.proofs.Common.{◌≡◌, ◌≢◌, ℕ, zero, suc, ◌+◌, ◌≤◌, inl, inr, List, [], ◌∷◌, Option, Some, None, Bool, true, false, cond, length, refl, ap, ◌∙◌, arith}
use Rattle.hog_outside.specs.Faults.{Rose}
use Rattle.lock_ids.specs.declared.lock.LockId.{LockId}
use Rattle.cyclotron_jobs.specs.declared.entry.Entry.{Entry}
use Rattle.cyclotron_jobs.specs.declared.input.Reply.{Reply}
use Rattle.cyclotron_jobs.specs.declared.row.Row.{Row}
use Rattle.cyclotron_jobs.specs.declared.refused.LeaseStop.{LeaseStop}
use Rattle.cyclotron_jobs.specs.declared.refused.LeaseStop.TheVariants as stop
use Rattle.cyclotron_core.specs.Queue.{QueueOf}
use Rattle.std.specs.Prelude.{slice_get, slice_set, nat_le}
use Rattle.cyclotron_jobs.specs.declared.row.JobState.{JobState}
use Rattle.cyclotron_jobs.specs.declared.row.JobState.TheVariants.{Available, Failed}
use Rattle.cyclotron_core.specs.Changes.{IsOneStep, IsSweep, IsUntouched, row_after_sweep}
use Rattle.cyclotron_core.specs.Refusals.{Refuses}
use Rattle.script_steps.specs.declared.said.Held.{Held}
use Rattle.script_steps.specs.declared.said.Said.{Said}
use Rattle.script_steps.specs.declared.said.Said.TheVariants.{Idle, Fine, Refused}
use Rattle.cyclotron_jobs.specs.declared.row.After.{After}
use Rattle.cyclotron_jobs.specs.declared.row.After.TheVariants as after
use Rattle.script_steps.specs.Play.{Scene, scene_of, Stays, Appends, Swept, IsRefused, Works, Replies, Loses, Forges, RoseBy, faults_in, said_of}

pub rose_none : (a b : ℕ) → a ≤ b → RoseBy 0 a b
rose_none a b le = inl (omega (arith, le))

pub rose_one : (a b : ℕ) → Rose a b → RoseBy 1 a b
rose_one a b (inl lt) = inl (omega (arith, lt))
rose_one a b (inr top) = inr (omega (arith, top))

-- a refusal says the keeper's fault only where its count rose
pub rose_refused : (history : List Entry) (lock : LockId) (began : Type 0) (a b : ℕ) (s : LeaseStop) → Refuses history lock began (Rose a b) s → a ≤ b → RoseBy (faults_in (Refused s)) a b
rose_refused history lock began a b stop.UnknownJob h le = rose_none a b le
rose_refused history lock began a b (stop.WrongLock live) h le = rose_none a b le
rose_refused history lock began a b stop.NotThisRun h le = rose_none a b le
rose_refused history lock began a b stop.OutOfMemory h le = rose_none a b le
rose_refused history lock began a b stop.Keeper h le = rose_one a b h.2

pub refused_of : (history : List Entry) (lock : LockId) (began rose : Type 0) (s : LeaseStop) → Refuses history lock began rose s → s ≢ stop.OutOfMemory → IsRefused history lock began s
refused_of history lock began rose stop.UnknownJob h said = record { cause = h; said = said }
refused_of history lock began rose (stop.WrongLock live) h said = record { cause = h; said = said }
refused_of history lock began rose stop.NotThisRun h said = record { cause = h; said = said }
refused_of history lock began rose stop.OutOfMemory h said = absurd (said refl)
refused_of history lock began rose stop.Keeper h said = record { cause = (h.0, h.1, tt); said = said }

pub stays_of : {K : Type 0} {tells : Bool} {held : K → ℕ → Option Row} {old new : QueueOf K} (hand : Option Held) → IsUntouched tells held old new → Stays (scene_of old hand) (scene_of new hand)
stays_of hand is = record { rows = is.rows; history = is.history; hand = refl }

pub appends_of : {K : Type 0} {tells : Bool} {held : K → ℕ → Option Row} {old new : QueueOf K} {job : ℕ} {change : Row → Row} {e : Entry} (before after : Option Held)
    → IsOneStep tells held old new job change e → Appends (scene_of old before) (scene_of new after) job change e after
appends_of before after is = record { before = is.before; there = is.there; rows = is.rows; history = is.history; held = refl }

-- ---- sweeps

set_there : {A : Type 0} (xs : List A) (i : ℕ) (old new : A) → slice_get xs i ≡ Some old → slice_get (slice_set xs i new) i ≡ Some new
set_there [] i old new there = absurd (cc)
set_there (x ∷ xs) zero old new there = refl
set_there (x ∷ xs) (suc i) old new there = set_there xs i old new there

-- the row of the job that was swept
swept_row : {K : Type 0} {tells : Bool} {held : K → ℕ → Option Row} {old new : QueueOf K} (now job : ℕ) (is : IsSweep tells held old new now job)
    → slice_get new.rows job ≡ Some (row_after_sweep now is.step.before)
swept_row {old = old} now job is =
    ap (λ (rows : List Row). slice_get rows job) is.step.rows ∙ set_there old.rows job is.step.before (row_after_sweep now is.step.before) is.step.there

pub swept_of : {K : Type 0} {tells : Bool} {held : K → ℕ → Option Row} {old new : QueueOf K} (now job : ℕ) → IsSweep tells held old new now job
    → (state : JobState) → ((row : Row) → slice_get new.rows job ≡ Some row → row.state ≡ state) → Swept now (scene_of old None) (scene_of new None) job state
swept_of now job is state states = record {
  first = is.first;
  step = record { before = is.step.before; there = is.step.there; rows = is.step.rows; history = is.step.history; held = refl };
  then = states (row_after_sweep now is.step.before) (swept_row now job is);
}

available_by : (third : Bool) → cond third Failed Available ≢ Failed → cond third Failed Available ≡ Available
available_by true differs = absurd (differs refl)
available_by false differs = refl

pub swept_open : {K : Type 0} {tells : Bool} {held : K → ℕ → Option Row} {old new : QueueOf K} (now job : ℕ) → IsSweep tells held old new now job
    → ((row : Row) → slice_get new.rows job ≡ Some row → row.state ≢ Failed) → Swept now (scene_of old None) (scene_of new None) job Available
swept_open now job is open_row = record {
  first = is.first;
  step = record { before = is.step.before; there = is.step.there; rows = is.step.rows; history = is.step.history; held = refl };
  then = available_by (nat_le 3 (length is.step.before.sweeps + 1)) (open_row (row_after_sweep now is.step.before) (swept_row now job is));
}

-- ---- steps that take no keeper

said_no_fault : (next : After) (ops : ℕ) → faults_in (said_of next ops) ≡ 0
said_no_fault after.Hog ops = refl
said_no_fault (after.Fetch request) ops = refl
said_no_fault after.Finished ops = refl

rose_by : (n a b : ℕ) → n ≡ 0 → a ≤ b → RoseBy n a b
rose_by n a b none le = inl (omega (arith, none, le))

pub works_rose : (slice : ℕ) (old new : Scene) (said : Said) (a b : ℕ) → Works slice old said new → a ≤ b → RoseBy (faults_in said) a b
works_rose slice old new said a b (inl idle) le = rose_by (faults_in said) a b (ap faults_in idle.0) le
works_rose slice old new said a b (inr worked) le = rose_by (faults_in said) a b (ap faults_in worked.word ∙ said_no_fault worked.run.after worked.run.to) le

pub replies_rose : (reply : Reply) (old new : Scene) (said : Said) (a b : ℕ) → Replies reply old said new → a ≤ b → RoseBy (faults_in said) a b
replies_rose reply old new said a b (inl idle) le = rose_by (faults_in said) a b (ap faults_in idle.0) le
replies_rose reply old new said a b (inr replied) le = rose_by (faults_in said) a b (ap faults_in replied.word) le

pub loses_rose : (old new : Scene) (said : Said) (a b : ℕ) → Loses old said new → a ≤ b → RoseBy (faults_in said) a b
loses_rose old new Idle a b h le = rose_none a b le
loses_rose old new Fine a b h le = rose_none a b le
loses_rose old new said a b h le = absurd h

pub forges_rose : (lock : LockId) (old new : Scene) (said : Said) (a b : ℕ) → Forges lock old said new → a ≤ b → RoseBy (faults_in said) a b
forges_rose lock old new Idle a b h le = rose_none a b le
forges_rose lock old new Fine a b h le = rose_none a b le
forges_rose lock old new said a b h le = absurd h
