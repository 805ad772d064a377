-- What a flush does is what it promises.
use Rattle.std.proofs.Common.{◌≡◌, ℕ, ◌<◌, ◌≤◌, ◌↔◌, Bool, true, false, Option, Ok, Err, List, set, ◌++◌, ◌∷◌, [], refl, ap, sym, ◌∙◌, subst, arith}
use Rattle.std.specs.Prelude.{slice_get, Some, Result, IsErrAnd, OnErr}
use Rattle.lock_ids.specs.declared.lock.LockId.{LockId}
use Rattle.cyclotron_jobs.specs.declared.row.Row.{Row}
use Rattle.cyclotron_jobs.specs.declared.entry.Entry.{Entry}
use Rattle.cyclotron_jobs.specs.declared.refused.Refused.{Refused}
use Rattle.cyclotron_jobs.specs.declared.refused.LeaseStop.{LeaseStop}
use Rattle.cyclotron_jobs.specs.declared.refused.LeaseStop.TheVariants.{UnknownJob, WrongLock, NotThisRun, OutOfMemory, Keeper}
use Rattle.hog_outside.specs.Faults.{Rose}
use Rattle.queue_history.specs.Facts.{jobs_of}
use Rattle.job_keeper.specs.Held.{PutsRow, SameRows}
use Rattle.cyclotron_core.specs.Queue.{QueueOf}
use Rattle.cyclotron_core.specs.Changes.{IsOneStep, IsUntouched, IsGrown}
use Rattle.cyclotron_core.specs.Puts.{LeaseFails}
use Rattle.cyclotron_core.specs.Refusals.{IsOwner, IsOwnedBy, KeeperRose, Refuses}
use Rattle.cyclotron_core.specs.Flushes.{Flushes}

-- an error that is passed on as it is
pub passed_on : {T E : Type 0} (result : Result T E) (error : E) → IsErrAnd result (λ e. e ≡ error) → result ≡ Err error
passed_on (Ok x) error is = absurd is
passed_on (Err e) error is = ap Err is

-- what holds anyway holds at an error
pub at_err : {T E P : Type 0} (result : Result T E) → P → OnErr result P
at_err (Ok x) p = tt
at_err (Err e) p = p

-- a step and a refusal after more room was made
module _ {K : Type 0} {tells : Bool} {held : K → ℕ → Option Row} {old mid new : QueueOf K} (grown : IsGrown old mid) where
  IsOneStep-grown : {job : ℕ} {change : Row → Row} {entry : Entry} → IsOneStep tells held mid new job change entry → IsOneStep tells held old new job change entry
  IsOneStep-grown {job} {change} {entry} step = record {
    before = step.before;
    there = subst (λ (rows : List Row). slice_get rows job ≡ Some step.before) grown.rows step.there;
    rows = subst (λ (rows : List Row). new.rows ≡ set rows job (change step.before)) grown.rows step.rows;
    history = subst (λ (history : List Entry). new.history ≡ history ++ entry ∷ []) grown.history step.history;
    told = subst (λ (k : K). PutsRow tells (held k) (held new.keeper) (change step.before)) grown.keeper step.told;
    spare = omega (arith, grown.spare, step.spare);
  }

  IsUntouched-grown : IsUntouched tells held mid new → IsUntouched tells held old new
  IsUntouched-grown same = record {
    rows = same.rows ∙ grown.rows;
    history = same.history ∙ grown.history;
    told = subst (λ (k : K). SameRows tells (held k) (held new.keeper)) grown.keeper same.told;
    spare = omega (arith, grown.spare, same.spare);
  }

-- a job has one owner
owned-apart : {history : List Entry} {lock : LockId} {live : Option LockId} → IsOwner history lock → IsOwnedBy history lock live → ⊥
owned-apart owner by = by.other (sym by.owner ∙ owner.owner)

module _ (history : List Entry) (lock : LockId) (began rose : Type 0) where
  -- the keeper refused what was to be committed
  Refuses-kept : (stop : LeaseStop) → LeaseFails rose stop → IsOwner history lock → began → Refuses history lock began rose stop
  Refuses-kept UnknownJob fails owner is = absurd fails
  Refuses-kept (WrongLock live) fails owner is = absurd fails
  Refuses-kept NotThisRun fails owner is = absurd fails
  Refuses-kept OutOfMemory fails owner is = (owner, is)
  Refuses-kept Keeper fails owner is = (owner, is, fails)

  -- it was refused before the keeper was asked
  Refuses-unasked : (stop : LeaseStop) → Refuses history lock began ⊥ stop → Refuses history lock began rose stop
  Refuses-unasked UnknownJob is = is
  Refuses-unasked (WrongLock live) is = is
  Refuses-unasked NotThisRun is = is
  Refuses-unasked OutOfMemory is = is
  Refuses-unasked Keeper is = absurd is.2

  -- then the lock isn't live, or what is flushed began elsewhere, or there was no room
  Refuses-unready : (stop : LeaseStop) → Refuses history lock began ⊥ stop → (stop ≡ OutOfMemory → ⊥) → IsOwner history lock → began → ⊥
  Refuses-unready UnknownJob is room owner start = omega (arith, is, owner.there)
  Refuses-unready (WrongLock live) is room owner start = is.other (sym is.owner ∙ owner.owner)
  Refuses-unready NotThisRun is room owner start = is.1 start
  Refuses-unready OutOfMemory is room owner start = room refl
  Refuses-unready Keeper is room owner start = is.2

  -- each refusal comes exactly where it should
  unknown-exact : (stop : LeaseStop) → Refuses history lock began rose stop → (stop ≡ UnknownJob) ↔ (jobs_of history ≤ lock.job)
  unknown-exact UnknownJob is = (λ _. is, λ _. refl)
  unknown-exact (WrongLock live) is = (λ (e : WrongLock live ≡ UnknownJob). absurd cc, λ past. absurd (omega (arith, past, is.there)))
  unknown-exact NotThisRun is = (λ (e : NotThisRun ≡ UnknownJob). absurd cc, λ past. absurd (omega (arith, past, is.0.there)))
  unknown-exact OutOfMemory is = (λ (e : OutOfMemory ≡ UnknownJob). absurd cc, λ past. absurd (omega (arith, past, is.0.there)))
  unknown-exact Keeper is = (λ (e : Keeper ≡ UnknownJob). absurd cc, λ past. absurd (omega (arith, past, is.0.there)))

  wrong-exact : (live : Option LockId) (stop : LeaseStop) → Refuses history lock began rose stop → (stop ≡ WrongLock live) ↔ IsOwnedBy history lock live
  wrong-exact live UnknownJob is = (λ (e : UnknownJob ≡ WrongLock live). absurd cc, λ by. absurd (omega (arith, is, by.there)))
  wrong-exact live (WrongLock other) is = (λ e. subst (λ (stop : LeaseStop). Refuses history lock began rose stop) e is, λ by. ap WrongLock (sym is.owner ∙ by.owner))
  wrong-exact live NotThisRun is = (λ (e : NotThisRun ≡ WrongLock live). absurd cc, λ by. absurd (owned-apart is.0 by))
  wrong-exact live OutOfMemory is = (λ (e : OutOfMemory ≡ WrongLock live). absurd cc, λ by. absurd (owned-apart is.0 by))
  wrong-exact live Keeper is = (λ (e : Keeper ≡ WrongLock live). absurd cc, λ by. absurd (owned-apart is.0 by))

  elsewhere-exact : (stop : LeaseStop) → Refuses history lock began rose stop → (stop ≡ NotThisRun) ↔ (IsOwner history lock × ¬ began)
  elsewhere-exact UnknownJob is = (λ (e : UnknownJob ≡ NotThisRun). absurd cc, λ both. absurd (omega (arith, is, both.0.there)))
  elsewhere-exact (WrongLock live) is = (λ (e : WrongLock live ≡ NotThisRun). absurd cc, λ both. absurd (owned-apart both.0 is))
  elsewhere-exact NotThisRun is = (λ _. is, λ _. refl)
  elsewhere-exact OutOfMemory is = (λ (e : OutOfMemory ≡ NotThisRun). absurd cc, λ both. absurd (both.1 is.1))
  elsewhere-exact Keeper is = (λ (e : Keeper ≡ NotThisRun). absurd cc, λ both. absurd (both.1 is.1))

-- more room is no change
IsUntouched-room : {K : Type 0} {tells : Bool} {held : K → ℕ → Option Row} {old new : QueueOf K} → IsGrown old new → IsUntouched tells held old new
IsUntouched-room {held = held} grown = record {
  rows = grown.rows;
  history = grown.history;
  told = λ _ job. ap (λ k. held k job) grown.keeper;
  spare = grown.spare;
}

module _ {K V : Type 0} {faults : K → ℕ} {tells : Bool} {held : K → ℕ → Option Row} {sure : Bool} {old : QueueOf K}
    {lock : LockId} {began : Type 0} {change : Row → Row} {entry : Entry} {flushed : V} where
  Flushes-refused : {new : QueueOf K} (refused : Refused V) → Refuses old.history lock began (KeeperRose faults old new) refused.stop → refused.back ≡ flushed
      → IsUntouched tells held old new → (sure ≡ true → 1 ≤ old.spare → IsOwner old.history lock → began → ⊥) → faults old.keeper ≤ faults new.keeper
      → Flushes faults tells held sure old new lock began change entry flushed (Err refused)
  Flushes-refused {new} refused why back same never count = record {
    ok = tt;
    owner = tt;
    began = tt;
    unknown_job = unknown-exact old.history lock began (KeeperRose faults old new) refused.stop why;
    wrong_lock = λ live. wrong-exact old.history lock began (KeeperRose faults old new) live refused.stop why;
    not_this_run = elsewhere-exact old.history lock began (KeeperRose faults old new) refused.stop why;
    refused = why;
    back = back;
    err = same;
    succeeds = λ sure room owner start. absurd (never sure room owner start);
    count = count;
  }

  -- it could not begin
  pub Flushes-unready : {new : QueueOf K} (refused : Refused V) → IsGrown old new → Refuses old.history lock began ⊥ refused.stop
      → (refused.stop ≡ OutOfMemory → old.spare < 1) → refused.back ≡ flushed
      → Flushes faults tells held sure old new lock began change entry flushed (Err refused)
  Flushes-unready {new} refused grown why full back =
      Flushes-refused refused (Refuses-unasked old.history lock began (KeeperRose faults old new) refused.stop why) back (IsUntouched-room grown)
      (λ sure room owner start. Refuses-unready old.history lock began (KeeperRose faults old new) refused.stop why (λ memory. let none = full memory in omega arith) owner start)
      (subst (λ (k : K). faults old.keeper ≤ faults k) (sym grown.keeper) (omega arith))

  -- the keeper refused
  pub Flushes-unkept : {mid new : QueueOf K} → IsGrown old mid → IsOwner mid.history lock → began → faults mid.keeper ≤ faults new.keeper
      → (refused : Refused V) → LeaseFails (KeeperRose faults mid new) refused.stop → refused.back ≡ flushed → IsUntouched tells held mid new
      → (sure ≡ true → false ≡ true) → Flushes faults tells held sure old new lock began change entry flushed (Err refused)
  Flushes-unkept {mid} {new} grown owner start count refused fails back same never =
      let rose : LeaseFails (KeeperRose faults old new) refused.stop = subst (λ (k : K). LeaseFails (Rose (faults k) (faults new.keeper)) refused.stop) grown.keeper fails in
      let owned : IsOwner old.history lock = subst (λ (history : List Entry). IsOwner history lock) grown.history owner in
      Flushes-refused refused (Refuses-kept old.history lock began (KeeperRose faults old new) refused.stop rose owned start) back (IsUntouched-grown grown same)
      (λ sure room owner start. let bad : false ≡ true = never sure in absurd cc)
      (subst (λ (k : K). faults k ≤ faults new.keeper) grown.keeper count)

  -- it is committed
  pub Flushes-kept : {mid new : QueueOf K} → IsGrown old mid → IsOwner mid.history lock → began → faults mid.keeper ≤ faults new.keeper
      → IsOneStep tells held mid new lock.job change entry → Flushes faults tells held sure old new lock began change entry flushed (Ok tt)
  Flushes-kept {mid} {new} grown owner start count step =
      let owned : IsOwner old.history lock = subst (λ (history : List Entry). IsOwner history lock) grown.history owner in
      record {
        ok = IsOneStep-grown grown step;
        owner = owned;
        began = start;
        unknown_job = (λ bad. absurd bad, λ past. absurd (omega (arith, past, owned.there)));
        wrong_lock = λ live. (λ bad. absurd bad, λ by. absurd (owned-apart owned by));
        not_this_run = (λ bad. absurd bad, λ both. absurd (both.1 start));
        refused = tt;
        back = tt;
        err = tt;
        succeeds = λ sure room owner start. refl;
        count = subst (λ (k : K). faults k ≤ faults new.keeper) grown.keeper count;
      }
