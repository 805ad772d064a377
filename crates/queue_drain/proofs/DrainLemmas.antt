-- One job after the other goes on.
use Rattle.std.proofs.Common.{◌≡◌, ℕ, zero, suc, ◌+◌, ◌-◌, ◌*◌, ◌^◌, ◌<◌, ◌≤◌, ◌⊎◌, inl, inr, ⊎_elim, cond, List, [], ◌∷◌, ◌++◌, Bool, length, set, get_or, Some, Option, None, Result, Ok, Err, IfOk, IfSome, slice_get, refl, ap, sym, ◌∙◌, subst, arith, append_assoc}
use Rattle.std.specs.Prelude.{◌==◌, sum_by}
use Rattle.std.specs.List.{AllZip}
use Rattle.std.proofs.lemmas.List.{append-nil, length_push}
use Rattle.std.proofs.lemmas.List.Elements.{All-nil, All-push, All-append}
use Rattle.std.proofs.lemmas.List.Sums.{sum_by-set}
use Rattle.std.proofs.lemmas.Option.{same_Some, slice_get_within, get_or_from_slice_get}
use Rattle.hog_outside.specs.Faults.{Rose}
use Rattle.cyclotron_jobs.specs.declared.input.Reply.{Reply}
use Rattle.cyclotron_jobs.specs.declared.row.Row.{Row}
use Rattle.cyclotron_jobs.specs.declared.row.JobState.TheVariants.{Available, Completed}
use Rattle.cyclotron_jobs.specs.declared.row.Next.{Next}
use Rattle.cyclotron_jobs.specs.declared.row.Next.TheVariants as kind
use Rattle.cyclotron_jobs.specs.declared.row.QueueName.{QueueName}
use Rattle.cyclotron_jobs.specs.declared.row.QueueName.TheVariants as queue
use Rattle.cyclotron_jobs.specs.declared.entry.Entry.{Entry}
use Rattle.cyclotron_jobs.specs.declared.entry.Entry.TheVariants.{Taken, Ran, Replied}
use Rattle.cyclotron_jobs.specs.declared.refused.LeaseStop.{LeaseStop}
use Rattle.cyclotron_jobs.specs.declared.refused.LeaseStop.TheVariants as stop
use Rattle.cyclotron_jobs.specs.Course.{next_of}
use Rattle.cyclotron_jobs.specs.Leases.{LeaseOf, AdvanceOf, AnsweredOf}
use Rattle.queue_history.specs.Rules.{InputRule, CourseRule, ReplyRule}
use Rattle.queue_history.specs.Facts.{facts_of, jobs_of, takes_of, queue_at, state_after}
use Rattle.queue_history.specs.Due.{IsFirstDue, NoneDue}
use Rattle.queue_history.specs.Rows.{IsKept}
use Rattle.queue_history.proofs.Push.{facts_of-push, jobs_of-push}
use Rattle.queue_history.proofs.First.{IsDue-from_row, IsDueRow-from_job}
use Rattle.cyclotron_core.specs.Queue.{QueueOf}
use Rattle.cyclotron_core.specs.Changes.{IsOneStep, IsUntouched, IsTake, row_after_take, row_after_run, row_after_reply}
use Rattle.cyclotron_core.specs.Refusals.{RunBegan, AnswerBegan, Refuses}
use Rattle.queue_drain.specs.Work.{IsRunFrom, IsAnswerTo}
use Rattle.queue_drain.specs.Stops.{IsStopOf}
use Rattle.queue_drain.specs.Drained.{IsSameJob, IsWaiting, IsDrained, IsWorkAt, HasWorked}
use Rattle.queue_drain.specs.Steps.{request_on, left_of, GoesOn, IsTaken, IsLive, IsFlushed, IsStep}

-- a relation between two lists, place by place

AllZip-same : {A : Type 0} (R : A → A → Type 0) → ((x : A) → R x x) → (xs : List A) → AllZip R xs xs
AllZip-same R same [] = tt
AllZip-same R same (x ∷ xs) = (same x, AllZip-same R same xs)

AllZip-set : {A : Type 0} (R : A → A → Type 0) (xs ys : List A) (i : ℕ) (y z : A) → slice_get ys i ≡ Some y → ((x : A) → R x y → R x z) → AllZip R xs ys → AllZip R xs (set ys i z)
AllZip-set R [] [] i y z at step all = all
AllZip-set R [] (w ∷ ys) i y z at step all = absurd all
AllZip-set R (x ∷ xs) [] i y z at step all = absurd all
AllZip-set R (x ∷ xs) (w ∷ ys) zero y z at step all = let same : w ≡ y = cc in (step x (subst (λ v. R x v) same all.0), all.1)
AllZip-set R (x ∷ xs) (w ∷ ys) (suc i) y z at step all = (all.0, AllZip-set R xs ys i y z at step all.1)

-- one that follows of it where the second stands at its place
AllZip-map : {A : Type 0} (R S : A → A → Type 0) (xs ys : List A) → ((k : ℕ) (x y : A) → slice_get ys k ≡ Some y → R x y → S x y) → AllZip R xs ys → AllZip S xs ys
AllZip-map R S [] [] step all = tt
AllZip-map R S [] (y ∷ ys) step all = absurd all
AllZip-map R S (x ∷ xs) [] step all = absurd all
AllZip-map R S (x ∷ xs) (y ∷ ys) step all = (step 0 x y refl all.0, AllZip-map R S xs ys (λ k. step (suc k)) all.1)

-- what was written stands there
set_there : {A : Type 0} (xs : List A) (i : ℕ) (y z : A) → slice_get xs i ≡ Some y → slice_get (set xs i z) i ≡ Some z
set_there [] i y z at = absurd cc
set_there (x ∷ xs) zero y z at = refl
set_there (x ∷ xs) (suc i) y z at = set_there xs i y z at

set_twice : {A : Type 0} (xs : List A) (i : ℕ) (y z : A) → set (set xs i y) i z ≡ set xs i z
set_twice [] i y z = refl
set_twice (x ∷ xs) zero y z = refl
set_twice (x ∷ xs) (suc i) y z = ap (λ l. x ∷ l) (set_twice xs i y z)

-- the same job

is_same : (row : Row) → IsSameJob row row
is_same row = record { job = refl; input = refl; priority = refl; scheduled = refl; sweeps = refl }

same_then : {a b c : Row} → IsSameJob a b → IsSameJob b c → IsSameJob a c
same_then ab bc = record {
  job = bc.job ∙ ab.job;
  input = bc.input ∙ ab.input;
  priority = bc.priority ∙ ab.priority;
  scheduled = bc.scheduled ∙ ab.scheduled;
  sweeps = bc.sweeps ∙ ab.sweeps;
}

AllZip-then : (xs ys zs : List Row) → AllZip IsSameJob xs ys → AllZip IsSameJob ys zs → AllZip IsSameJob xs zs
AllZip-then [] [] zs xy yz = yz
AllZip-then [] (y ∷ ys) zs xy yz = absurd xy
AllZip-then (x ∷ xs) [] zs xy yz = absurd xy
AllZip-then (x ∷ xs) (y ∷ ys) [] xy yz = absurd yz
AllZip-then (x ∷ xs) (y ∷ ys) (z ∷ zs) xy yz = (same_then xy.0 yz.0, AllZip-then xs ys zs xy.1 yz.1)

-- what was worked, entry by entry

module _ {K : Type 0} {now : ℕ} where
  pub HasWorked-none : {old new : QueueOf K} → new.rows ≡ old.rows → new.history ≡ old.history → HasWorked now old new
  HasWorked-none {old} {new} rows history = record {
    more = [];
    history = history ∙ sym (append-nil old.history);
    work = All-nil (IsWorkAt now);
    jobs = subst (λ rs. AllZip IsSameJob old.rows rs) (sym rows) (AllZip-same IsSameJob is_same old.rows);
  }

  pub HasWorked-more : {first old new : QueueOf K} → HasWorked now first old → (job : ℕ) (before after : Row) (entry : Entry)
      → slice_get old.rows job ≡ Some before → new.rows ≡ set old.rows job after → IsSameJob before after
      → new.history ≡ old.history ++ entry ∷ [] → IsWorkAt now entry → HasWorked now first new
  HasWorked-more {first} {old} {new} was job before after entry there rows same history work = record {
    more = was.more ++ entry ∷ [];
    history = history ∙ (ap (λ h. h ++ entry ∷ []) was.history ∙ append_assoc first.history was.more (entry ∷ []));
    work = All-push (IsWorkAt now) was.more entry was.work work;
    jobs = subst (λ rs. AllZip IsSameJob first.rows rs) (sym rows)
        (AllZip-set IsSameJob first.rows old.rows job before after there (λ x is. same_then is same) was.jobs);
  }

-- a take

module _ {K : Type 0} {tells : Bool} {held : K → ℕ → Option Row} {old mid : QueueOf K} {on : QueueName} {now : ℕ} {lease : LeaseOf} (take : IsTake tells held old mid on now lease) where
  abbrev taken_row : Row
  taken_row = row_after_take lease.lock now take.step.before

  pub HasWorked-take : HasWorked now old mid
  HasWorked-take = HasWorked-more (HasWorked-none {old = old} {new = old} refl refl) lease.lock.job take.step.before taken_row (Taken lease.lock.job on lease.lock now)
      take.step.there take.step.rows (record { job = refl; input = refl; priority = refl; scheduled = refl; sweeps = refl }) take.step.history refl

  -- the row that was taken stands where its job stands
  taken_there : slice_get mid.rows lease.lock.job ≡ Some taken_row
  taken_there = ap (λ rs. slice_get rs lease.lock.job) take.step.rows ∙ set_there old.rows lease.lock.job take.step.before taken_row take.step.there

  pub IsLive-take : IsLive mid lease
  IsLive-take =
      let entry : Entry = Taken lease.lock.job on lease.lock now in
      let jobs : jobs_of mid.history ≡ jobs_of old.history = ap jobs_of take.step.history ∙ (jobs_of-push old.history entry ∙ omega arith) in
      let there = take.first.due.there in
      record {
        leased = record { row = taken_row; there = taken_there; copied = take.copied };
        owner = record {
          there = omega (arith, there, jobs);
          owner = ap (λ h. (facts_of lease.lock.job h).owner) take.step.history ∙ ap (λ l. l.owner) (facts_of-push lease.lock.job old.history entry refl);
        };
      }

-- a refused call changed nothing, so what comes after it comes as if it hadn't been made

module _ {K : Type 0} {tells : Bool} {held : K → ℕ → Option Row} {old mid new : QueueOf K} (same : IsUntouched tells held old mid) where
  pub IsUntouched-then : IsUntouched tells held mid new → IsUntouched tells held old new
  IsUntouched-then next = record {
    rows = next.rows ∙ same.rows;
    history = next.history ∙ same.history;
    told = λ tell job. next.told tell job ∙ same.told tell job;
    spare = let first = same.spare in let then = next.spare in omega (arith, first, then);
  }

  pub IsTake-then : {on : QueueName} {now : ℕ} {lease : LeaseOf} → IsTake tells held mid new on now lease → IsTake tells held old new on now lease
  IsTake-then {on} {now} {lease} take =
      let job : ℕ = lease.lock.job in
      let after : Row = row_after_take lease.lock now take.step.before in
      let entry : Entry = Taken job on lease.lock now in
      let first = same.spare in
      let then = take.step.spare in
      record {
        first = subst (λ (h : List Entry). IsFirstDue h on now job) same.history take.first;
        draw = take.draw ∙ ap (λ (h : List Entry). takes_of h + 1) same.history;
        step = record {
          before = take.step.before;
          there = subst (λ (rs : List Row). slice_get rs job ≡ Some take.step.before) same.rows take.step.there;
          rows = take.step.rows ∙ ap (λ (rs : List Row). set rs job after) same.rows;
          history = take.step.history ∙ ap (λ (h : List Entry). h ++ entry ∷ []) same.history;
          told = λ tell j. take.step.told tell j ∙ ap (λ (o : Option Row). cond (j == after.job) (Some after) o) (same.told tell j);
          spare = omega (arith, first, then);
        };
        copied = take.copied;
      }

taken_later : {K : Type 0} {tells : Bool} {held : K → ℕ → Option Row} {old mid new : QueueOf K} {on : QueueName} {now : ℕ} {lease : LeaseOf}
    → IsUntouched tells held old mid → IsTake tells held mid new on now lease → IsTaken tells held old new now lease
taken_later {on = on} same take = record { on = on; take = IsTake-then same take }

-- where the second queue is asked, what it answers is of the queue as it was
pub IsTaken-then : {K E : Type 0} {tells : Bool} {held : K → ℕ → Option Row} {old mid : QueueOf K}
    → IsUntouched tells held old mid → (new : QueueOf K) (on : QueueName) (now : ℕ) (r : Result (Option LeaseOf) E) → IfOk r (λ o. IfSome o (IsTake tells held mid new on now))
    → IfOk r (λ o. IfSome o (IsTaken tells held old new now))
IsTaken-then same new on now (Ok None) is = tt
IsTaken-then same new on now (Ok (Some l)) is = taken_later same is
IsTaken-then same new on now (Err e) is = tt

pub none_both : {history : List Entry} {now : ℕ} → NoneDue history queue.Hog now → NoneDue history queue.Fetch now → (on : QueueName) → NoneDue history on now
none_both hog fetch queue.Hog = hog
none_both hog fetch queue.Fetch = fetch

pub rose_later : (a b c : ℕ) → a ≤ b → Rose b c → Rose a c
rose_later a b c le (inl less) = inl (omega (arith, le, less))
rose_later a b c le (inr most) = inr most

-- a flush

rests_after : (next : Next) → (state_after next ≡ Available) ⊎ (state_after next ≡ Completed)
rests_after kind.Hog = inl refl
rests_after kind.Fetch = inl refl
rests_after kind.Finished = inr refl

request_few : (q : QueueName) → request_on q ≤ 1
request_few queue.Hog = omega arith
request_few queue.Fetch = omega arith

module _ {K : Type 0} {old : QueueOf K} {lease : LeaseOf} (live : IsLive old lease) where
  -- what goes on from the lease began at the committed state
  pub began_run : {run : AdvanceOf} → IsRunFrom lease run → RunBegan old.rows lease.lock.job run
  began_run is = record {
    row = live.leased.row;
    there = live.leased.there;
    same_input = is.input ∙ ap (λ (l : LeaseOf). l.input) live.leased.copied;
    same_replies = is.replies ∙ ap (λ (l : LeaseOf). l.replies) live.leased.copied;
    same_ops = is.from ∙ ap (λ (l : LeaseOf). l.ops) live.leased.copied;
  }

  pub began_answer : {answered : AnsweredOf} → IsAnswerTo lease answered → AnswerBegan old.rows lease.lock.job answered
  began_answer is = record {
    row = live.leased.row;
    there = live.leased.there;
    same_input = is.input ∙ ap (λ (l : LeaseOf). l.input) live.leased.copied;
    same_replies = is.replies ∙ ap (λ (l : LeaseOf). l.replies) live.leased.copied;
    same_ops = is.from ∙ ap (λ (l : LeaseOf). l.ops) live.leased.copied;
  }

  -- so it is refused for memory alone, or by the keeper
  pub refused_by : (began rose : Type 0) → began → (s : LeaseStop) → Refuses old.history lease.lock began rose s → IsStopOf s
  refused_by began rose is_begun stop.UnknownJob is = let there = live.owner.there in absurd (omega (arith, is, there))
  refused_by began rose is_begun (stop.WrongLock locked) is = absurd (is.other (sym is.owner ∙ live.owner.owner))
  refused_by began rose is_begun stop.NotThisRun is = absurd (is.1 is_begun)
  refused_by began rose is_begun stop.OutOfMemory is = tt
  refused_by began rose is_begun stop.Keeper is = tt

  module _ {tells : Bool} {held : K → ℕ → Option Row} {new : QueueOf K} (entry : Entry) (change : Row → Row) (step : IsOneStep tells held old new lease.lock.job change entry) where
    -- the row that was flushed is the lease's
    the_row : live.leased.row ≡ step.before
    the_row = same_Some live.leased.row step.before (sym live.leased.there ∙ step.there)

    pub ops_there : lease.ops ≡ step.before.ops
    ops_there = ap (λ (l : LeaseOf). l.ops) live.leased.copied ∙ ap (λ (r : Row). r.ops) the_row

    pub queue_there : lease.queue ≡ step.before.queue
    queue_there = ap (λ (l : LeaseOf). l.queue) live.leased.copied ∙ ap (λ (r : Row). r.queue) the_row

    pub replies_there : lease.replies ≡ step.before.replies
    replies_there = ap (λ (l : LeaseOf). l.replies) live.leased.copied ∙ ap (λ (r : Row). r.replies) the_row

    pub IsFlushed-of : {most : ℕ} → ((now : ℕ) → IsWorkAt now entry) → GoesOn most step.before (change step.before) → IsFlushed most old new lease.lock.job
    IsFlushed-of {most} work on = record {
      leased = step.before;
      there = step.there;
      after = change step.before;
      rows = step.rows;
      goes_on = on;
      entry = entry;
      work = work;
      history = step.history;
    }

  pub IsFlushed-run : {tells : Bool} {held : K → ℕ → Option Row} {most : ℕ} {new : QueueOf K} (run : AdvanceOf) → IsRunFrom lease run → run.from < run.to → run.to < 2 ^ 64
      → IsOneStep tells held old new lease.lock.job (row_after_run run) (Ran lease.lock.job lease.lock run.from run.to (next_of run.after)) → IsFlushed most old new lease.lock.job
  IsFlushed-run run is rises fits step =
      let entry : Entry = Ran lease.lock.job lease.lock run.from run.to (next_of run.after) in
      let before = step.before in
      let ops : run.from ≡ before.ops = is.from ∙ ops_there entry (row_after_run run) step in
      let asks = request_few (queue_at (next_of run.after)) in
      IsFlushed-of entry (row_after_run run) step (λ now. tt) (record {
        same = record { job = refl; input = refl; priority = refl; scheduled = refl; sweeps = refl };
        rests = rests_after (next_of run.after);
        less = run_less run.from run.to before.ops (request_on (queue_at (next_of run.after))) (request_on before.queue) ops rises fits asks;
        few = λ few. few;
      })
    where
      run_less : (from to ops new_request request : ℕ) → from ≡ ops → from < to → to < 2 ^ 64 → new_request ≤ 1 → 2 * (2 ^ 64 - to) + new_request < 2 * (2 ^ 64 - ops) + request
      run_less from to ops new_request request same rises fits asks = omega (arith, same, rises, fits, asks)

  pub IsFlushed-reply : {tells : Bool} {held : K → ℕ → Option Row} {most : ℕ} {new : QueueOf K} (reply : Reply) → lease.queue ≡ queue.Fetch → length lease.replies < most
      → IsOneStep tells held old new lease.lock.job (row_after_reply reply) (Replied lease.lock.job lease.lock reply) → IsFlushed most old new lease.lock.job
  IsFlushed-reply reply fetch few step =
      let entry : Entry = Replied lease.lock.job lease.lock reply in
      let before = step.before in
      let asked : before.queue ≡ queue.Fetch = sym (queue_there entry (row_after_reply reply) step) ∙ fetch in
      let request : request_on before.queue ≡ 1 = ap request_on asked in
      let replies : length lease.replies ≡ length before.replies = ap length (replies_there entry (row_after_reply reply) step) in
      IsFlushed-of entry (row_after_reply reply) step (λ now. tt) (record {
        same = record { job = refl; input = refl; priority = refl; scheduled = refl; sweeps = refl };
        rests = inl refl;
        less = omega (arith, request);
        few = λ was. let long = length_push before.replies reply in omega (arith, long, few, replies);
      })

-- a job went on

module _ {K : Type 0} {tells : Bool} {held : K → ℕ → Option Row} {most now : ℕ} {old mid new : QueueOf K} {on : QueueName} {lease : LeaseOf}
    (take : IsTake tells held old mid on now lease) (flushed : IsFlushed most mid new lease.lock.job) where
  -- the row that was flushed is the one that was taken
  the_taken : taken_row take ≡ flushed.leased
  the_taken = same_Some (taken_row take) flushed.leased (sym (taken_there take) ∙ flushed.there)

  pub HasWorked-step : HasWorked now old new
  HasWorked-step = HasWorked-more (HasWorked-take take) lease.lock.job flushed.leased flushed.after flushed.entry flushed.there flushed.rows flushed.goes_on.same flushed.history (flushed.work now)

module _ {takes : InputRule} {on_course : CourseRule} {reply_ok : ReplyRule} {K : Type 0} {tells : Bool} {held : K → ℕ → Option Row} {most now : ℕ} {old mid new : QueueOf K} {on : QueueName} {lease : LeaseOf}
    (kept : IsKept takes on_course reply_ok old.rows old.history) (take : IsTake tells held old mid on now lease) (flushed : IsFlushed most mid new lease.lock.job) where
  pub IsStep-of : IsStep most now old new
  IsStep-of =
      let before = take.step.before in
      let due = IsDueRow-from_job kept lease.lock.job before take.step.there take.first.due in
      let leased : taken_row take ≡ flushed.leased = the_taken take flushed in
      let on_it : GoesOn most (taken_row take) flushed.after = subst (λ (r : Row). GoesOn most r flushed.after) (sym leased) flushed.goes_on in
      record {
        job = lease.lock.job;
        before = before;
        there = take.step.there;
        waits = record { state = due.state; queue = refl; scheduled = due.scheduled };
        after = flushed.after;
        rows = flushed.rows ∙ (ap (λ rs. set rs lease.lock.job flushed.after) take.step.rows ∙ set_twice old.rows lease.lock.job (taken_row take) flushed.after);
        goes_on = record {
          same = record { job = on_it.same.job; input = on_it.same.input; priority = on_it.same.priority; scheduled = on_it.same.scheduled; sweeps = on_it.same.sweeps };
          rests = on_it.rests;
          less = on_it.less;
          few = on_it.few;
        };
      }

-- the whole drain

-- the row is as it was, or its job was due and went on
pub record WentOn (most now : ℕ) (before after : Row) : Type 0 where
  pub waits : IsWaiting now before
  pub same : IsSameJob before after
  pub rests : (after.state ≡ Available) ⊎ (after.state ≡ Completed)
  pub few : length before.replies ≤ most → length after.replies ≤ most

abbrev pub IsOn : ℕ → ℕ → Row → Row → Type 0
IsOn most now before after = (after ≡ before) ⊎ WentOn most now before after

on_more : {most now : ℕ} {first before after : Row} → IsOn most now first before → IsWaiting now before → GoesOn most before after → WentOn most now first after
on_more {most} {now} {first} {before} {after} (inl same) waits on = record {
  waits = subst (IsWaiting now) same waits;
  same = subst (λ (r : Row). IsSameJob r after) same on.same;
  rests = on.rests;
  few = subst (λ (r : Row). length r.replies ≤ most → length after.replies ≤ most) same on.few;
}
on_more (inr went) waits on = record {
  waits = went.waits;
  same = same_then went.same on.same;
  rests = on.rests;
  few = λ few. on.few (went.few few);
}

-- how much is left to do
abbrev pub left_in : List Row → ℕ
left_in rows = sum_by left_of rows

pub left_in-step : {K : Type 0} {most now : ℕ} {old new : QueueOf K} → IsStep most now old new → left_in new.rows < left_in old.rows
left_in-step {old = old} {new} step =
    let lt : step.job < length old.rows = slice_get_within old.rows step.job step.before step.there in
    let read : get_or old.rows step.job step.before ≡ step.before = get_or_from_slice_get old.rows step.job step.before step.before step.there in
    let rows : left_in new.rows ≡ left_in (set old.rows step.job step.after) = ap left_in step.rows in
    let was : left_of (get_or old.rows step.job step.before) ≡ left_of step.before = ap left_of read in
    let less = step.goes_on.less in
    omega (arith, sum_by-set left_of old.rows step.job step.after step.before lt, rows, was, less)

-- what holds before each step
pub record IsDraining {K : Type 0} (faults : K → ℕ) (most now : ℕ) (first q : QueueOf K) : Type 0 where
  pub worked : HasWorked now first q
  pub rows : AllZip (IsOn most now) first.rows q.rows
  pub count : faults first.keeper ≤ faults q.keeper

pub IsOn-step : {K : Type 0} {most now : ℕ} (first : QueueOf K) {old new : QueueOf K} → AllZip (IsOn most now) first.rows old.rows → IsStep most now old new → AllZip (IsOn most now) first.rows new.rows
IsOn-step {most = most} {now} first {old} {new} was step =
    subst (λ rs. AllZip (IsOn most now) first.rows rs) (sym step.rows)
    (AllZip-set (IsOn most now) first.rows old.rows step.job step.before step.after step.there (λ x is. inr (on_more is step.waits step.goes_on)) was)

pub IsOn-none : (most now : ℕ) (rows : List Row) → AllZip (IsOn most now) rows rows
IsOn-none most now rows = AllZip-same (IsOn most now) (λ row. inl refl) rows

pub HasWorked-both : {K : Type 0} {now : ℕ} {first old new : QueueOf K} → HasWorked now first old → HasWorked now old new → HasWorked now first new
HasWorked-both {now = now} {first} {old} {new} a b = record {
  more = a.more ++ b.more;
  history = b.history ∙ (ap (λ h. h ++ b.more) a.history ∙ append_assoc first.history a.more b.more);
  work = All-append (IsWorkAt now) a.more b.more a.work b.work;
  jobs = AllZip-then first.rows old.rows new.rows a.jobs b.jobs;
}

-- at the end no job is due
drained_row : {most now : ℕ} {before after : Row} → IsOn most now before after → ¬ (IsWaiting now after) → IsDrained most now before after
drained_row {most} {now} {before} {after} (inl same) none = record {
  same = subst (λ (r : Row). IsSameJob before r) (sym same) (is_same before);
  ended = λ waits. absurd (none (subst (IsWaiting now) (sym same) waits));
  others = λ idle. same;
  few = λ few. subst (λ (r : Row). length r.replies ≤ most) (sym same) few;
}
drained_row {most} {now} {before} {after} (inr went) none = record {
  same = went.same;
  ended = λ waits. ⊎_elim
      (λ available. absurd (none (record { state = available; queue = refl; scheduled = subst (λ n. n ≤ now) (sym went.same.scheduled) waits.scheduled })))
      (λ completed. completed) went.rests;
  others = λ idle. absurd (idle went.waits);
  few = went.few;
}

pub IsDrained-all : {takes : InputRule} {on_course : CourseRule} {reply_ok : ReplyRule} (most now : ℕ) (first rows : List Row) (history : List Entry)
    → IsKept takes on_course reply_ok rows history → ((on : QueueName) → NoneDue history on now) → AllZip (IsOn most now) first rows → AllZip (IsDrained most now) first rows
IsDrained-all most now first rows history kept none was =
    AllZip-map (IsOn most now) (IsDrained most now) first rows
    (λ k before after there is. drained_row is (λ waits. none after.queue k (IsDue-from_row kept k after there waits))) was
