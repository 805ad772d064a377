-- A queue goes on by each call.
use Rattle.std.proofs.Common.{◌≡◌, ◌≤◌, ◌++◌, ◌∷◌, [], ℕ, zero, suc, Bool, List, Some, None, Option, Ok, Err, Result, OnOk, OnErr, IfOk, IfSome, IfNone, set, slice_get, refl, ap, sym, ◌∙◌, subst, arith, append_assoc, inl, inr}
use Rattle.std.specs.List.{AllZip}
use Rattle.std.proofs.lemmas.List.{append-nil}
use Rattle.std.proofs.lemmas.List.Elements.{All-nil, All-push, All-append, All-weaker}
use Rattle.cyclotron_jobs.specs.declared.row.QueueName.{QueueName}
use Rattle.cyclotron_jobs.specs.declared.row.Row.{Row}
use Rattle.cyclotron_jobs.specs.declared.entry.Entry.{Entry}
use Rattle.cyclotron_jobs.specs.declared.entry.Entry.TheVariants.{Queued, Taken, Beat, Ran, Replied, Swept, PutBack}
use Rattle.cyclotron_jobs.specs.Leases.{LeaseOf}
use Rattle.cyclotron_core.specs.Queue.{QueueOf}
use Rattle.cyclotron_core.specs.Changes.{IsOneStep, IsUntouched, IsTake, row_after_take, row_after_sweep}
use Rattle.janitor.specs.Turn.{IsSweptAt, IsSameOrSwept, HasSwept}
use Rattle.job_pool.specs.Pool.{IsSameJob, IsWorkAmong, StandOf, stand_of, HasGoneOn}

-- jobs stay the same

is_same : (row : Row) → IsSameJob row row
is_same row = record { job = refl; input = refl; priority = refl }

same_then : {a b c : Row} → IsSameJob a b → IsSameJob b c → IsSameJob a c
same_then ab bc = record { job = bc.job ∙ ab.job; input = bc.input ∙ ab.input; priority = bc.priority ∙ ab.priority }

all_same : (rows : List Row) → AllZip IsSameJob rows rows
all_same [] = tt
all_same (row ∷ rows) = (is_same row, all_same rows)

-- one row of the second list is changed
same_set : (xs ys : List Row) (i : ℕ) (before after : Row) → slice_get ys i ≡ Some before → IsSameJob before after → AllZip IsSameJob xs ys → AllZip IsSameJob xs (set ys i after)
same_set [] [] i before after at step all = all
same_set [] (y ∷ ys) i before after at step all = absurd all
same_set (x ∷ xs) [] i before after at step all = absurd all
same_set (x ∷ xs) (y ∷ ys) zero before after at step all = let is : y ≡ before = cc in (same_then (subst (λ v. IsSameJob x v) is all.0) step, all.1)
same_set (x ∷ xs) (y ∷ ys) (suc i) before after at step all = (all.0, same_set xs ys i before after at step all.1)

swept_same : (moment : ℕ) (before after : Row) → IsSameOrSwept moment before after → IsSameJob before after
swept_same moment before after (inl same) = subst (λ (r : Row). IsSameJob before r) (sym same) (is_same before)
swept_same moment before after (inr swept) =
    let is : IsSameJob before (row_after_sweep moment before) = record { job = refl; input = refl; priority = refl } in
    subst (λ (r : Row). IsSameJob before r) (sym swept) is

same_swept : (moment : ℕ) (xs ys zs : List Row) → AllZip IsSameJob xs ys → AllZip (IsSameOrSwept moment) ys zs → AllZip IsSameJob xs zs
same_swept moment [] [] [] xy yz = tt
same_swept moment [] [] (z ∷ zs) xy yz = absurd yz
same_swept moment [] (y ∷ ys) zs xy yz = absurd xy
same_swept moment (x ∷ xs) [] zs xy yz = absurd xy
same_swept moment (x ∷ xs) (y ∷ ys) [] xy yz = absurd yz
same_swept moment (x ∷ xs) (y ∷ ys) (z ∷ zs) xy yz = (same_then xy.0 (swept_same moment y z yz.0), same_swept moment xs ys zs xy.1 yz.1)

-- sweeps of a moment are work

swept_work : (moments : ℕ → Type 0) (moment : ℕ) → moments moment → (e : Entry) → IsSweptAt moment e → IsWorkAmong moments e
swept_work moments moment shown (Queued job priority at) is = absurd is
swept_work moments moment shown (Taken job on lock now) is = absurd is
swept_work moments moment shown (Beat job lock now) is = absurd is
swept_work moments moment shown (Ran job lock from to next) is = absurd is
swept_work moments moment shown (Replied job lock reply) is = absurd is
swept_work moments moment shown (Swept job now beat) is = subst moments (sym is) shown
swept_work moments moment shown (PutBack job lock at) is = absurd is

-- a call

module _ {K : Type 0} {moments : ℕ → Type 0} {faults : K → ℕ} where
  pub gone-not : (q : QueueOf K) → HasGoneOn moments faults (stand_of faults q) q
  gone-not q = record {
    more = [];
    history = sym (append-nil q.history);
    work = All-nil (IsWorkAmong moments);
    jobs = all_same q.rows;
    count = omega arith;
  }

  module _ {start : StandOf} {old new : QueueOf K} (was : HasGoneOn moments faults start old) (count : faults old.keeper ≤ faults new.keeper) where
    pub gone-same : {tells : Bool} {held : K → ℕ → Option Row} → IsUntouched tells held old new → HasGoneOn moments faults start new
    gone-same same = record {
      more = was.more;
      history = same.history ∙ was.history;
      work = was.work;
      jobs = subst (λ (rows : List Row). AllZip IsSameJob start.rows rows) (sym same.rows) was.jobs;
      count = let c = was.count in omega (arith, c, count);
    }

    pub gone-step : {tells : Bool} {held : K → ℕ → Option Row} (job : ℕ) (change : Row → Row) (entry : Entry) → IsOneStep tells held old new job change entry
        → IsWorkAmong moments entry → ((row : Row) → IsSameJob row (change row)) → HasGoneOn moments faults start new
    gone-step job change entry step work same = record {
      more = was.more ++ entry ∷ [];
      history = step.history ∙ (ap (λ h. h ++ entry ∷ []) was.history ∙ append_assoc start.history was.more (entry ∷ []));
      work = All-push (IsWorkAmong moments) was.more entry was.work work;
      jobs = subst (λ (rows : List Row). AllZip IsSameJob start.rows rows) (sym step.rows)
          (same_set start.rows old.rows job step.before (change step.before) step.there (same step.before) was.jobs);
      count = let c = was.count in omega (arith, c, count);
    }

    -- a call under a lease
    pub gone-call : {T E : Type 0} (tells : Bool) (held : K → ℕ → Option Row) (r : Result T E) (job : ℕ) (change : Row → Row) (entry : Entry)
        → OnOk r (IsOneStep tells held old new job change entry) → OnErr r (IsUntouched tells held old new)
        → IsWorkAmong moments entry → ((row : Row) → IsSameJob row (change row)) → HasGoneOn moments faults start new
    gone-call tells held (Ok x) job change entry step same work keeps = gone-step job change entry step work keeps
    gone-call tells held (Err x) job change entry step same work keeps = gone-same same

    pub gone-take : {E : Type 0} (tells : Bool) (held : K → ℕ → Option Row) (on : QueueName) (now : ℕ) (r : Result (Option LeaseOf) E)
        → IfOk r (λ o. IfSome o (IsTake tells held old new on now)) → IfOk r (λ o. IfNone o (IsUntouched tells held old new)) → OnErr r (IsUntouched tells held old new)
        → moments now → HasGoneOn moments faults start new
    gone-take tells held on now (Ok None) some none same shown = gone-same none
    gone-take tells held on now (Ok (Some lease)) some none same shown = gone-step lease.lock.job (row_after_take lease.lock now) (Taken lease.lock.job on lease.lock now) some.step shown (λ row. record { job = refl; input = refl; priority = refl })
    gone-take tells held on now (Err x) some none same shown = gone-same same

    gone-swept : (now n : ℕ) → HasSwept now n old new → moments now → HasGoneOn moments faults start new
    gone-swept now n swept shown = record {
      more = was.more ++ swept.more;
      history = swept.history ∙ (ap (λ h. h ++ swept.more) was.history ∙ append_assoc start.history was.more swept.more);
      work = All-append (IsWorkAmong moments) was.more swept.more was.work (All-weaker (IsSweptAt now) (IsWorkAmong moments) (swept_work moments now shown) swept.more swept.sweeps);
      jobs = same_swept now start.rows old.rows new.rows was.jobs swept.rows;
      count = let c = was.count in omega (arith, c, count);
    }

    -- a turn of the janitor
    pub gone-turn : {E : Type 0} (now : ℕ) (r : Result ℕ E) → IfOk r (λ n. HasSwept now n old new) → OnErr r ((n : ℕ) × HasSwept now n old new)
        → moments now → HasGoneOn moments faults start new
    gone-turn now (Ok n) swept some shown = gone-swept now n swept shown
    gone-turn now (Err e) swept some shown = gone-swept now some.0 some.1 shown
