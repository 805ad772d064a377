-- What each entry leaves of the row of its job.
use Rattle.std.proofs.Common.{◌≡◌, ◌≢◌, ℕ, ◌+◌, ◌<◌, Bool, true, false, List, [], ◌∷◌, ◌++◌, length, refl, ap, sym, ◌∙◌, subst, arith, Some, None, Option, is_some, slice_get}
use Rattle.std.specs.Prelude.{if◌then◌else◌, min, nat_le}
use Rattle.std.proofs.lemmas.List.{length_push}
use Rattle.std.proofs.lemmas.Bool.Decides.{nat_tests}
use Rattle.hog_value.specs.declared.trace.Shown.{Shown}
use Rattle.hog_value.specs.declared.trace.Request.{Request}
use Rattle.lock_ids.specs.declared.lock.LockId.{LockId}
use Rattle.cyclotron_jobs.specs.declared.input.Reply.{Reply}
use Rattle.cyclotron_jobs.specs.declared.row.Row.{Row}
use Rattle.cyclotron_jobs.specs.declared.row.JobState.{JobState}
use Rattle.cyclotron_jobs.specs.declared.row.JobState.TheVariants.{Available, Running, Completed, Failed}
use Rattle.cyclotron_jobs.specs.declared.row.QueueName.{QueueName}
use Rattle.cyclotron_jobs.specs.declared.row.QueueName.TheVariants as queue
use Rattle.cyclotron_jobs.specs.declared.row.After.{After}
use Rattle.cyclotron_jobs.specs.declared.row.After.TheVariants as after
use Rattle.cyclotron_jobs.specs.declared.row.Next.{Next}
use Rattle.cyclotron_jobs.specs.declared.row.Next.TheVariants as next
use Rattle.cyclotron_jobs.specs.declared.entry.Entry.{Entry}
use Rattle.cyclotron_jobs.specs.declared.entry.Entry.TheVariants.{Taken, Beat, Ran, Replied, Swept, PutBack}
use Rattle.cyclotron_jobs.specs.Course.{next_of, asks_of, after_of, AsksOn}
use Rattle.queue_history.specs.Rules.{InputRule, CourseRule, ReplyRule}
use Rattle.queue_history.specs.Facts.{JobFacts, facts_of, state_after, swept_state, queue_at, is_finished}
use Rattle.queue_history.specs.Rows.{IsKept, after_in}
use Rattle.queue_history.proofs.Step.{IsStep}

-- a running job has fewer than three sweeps and has not ended
Running-by : (failed ended owned : Bool) → (if failed then Failed else (if ended then Completed else (if owned then Running else Available))) ≡ Running → (failed ≡ false) × (ended ≡ false)
Running-by true ended owned is = absurd cc
Running-by false true owned is = absurd cc
Running-by false false owned is = (refl, refl)

-- an available job, too, and it has no owner
Available-by : (failed ended owned : Bool) → (if failed then Failed else (if ended then Completed else (if owned then Running else Available))) ≡ Available → (failed ≡ false) × (ended ≡ false) × (owned ≡ false)
Available-by true ended owned is = absurd cc
Available-by false true owned is = absurd cc
Available-by false false true is = absurd cc
Available-by false false false is = (refl, refl, refl)

abbrev IsOpen : JobFacts → Type 0
IsOpen facts = (nat_le 3 (length facts.sweeps) ≡ false) × (facts.ended ≡ false)

state_after-is : (n : Next) → (if is_finished n then Completed else Available) ≡ state_after n
state_after-is next.Hog = refl
state_after-is next.Fetch = refl
state_after-is next.Finished = refl

asks_after : (a : After) → AsksOn (queue_at (next_of a)) (asks_of a)
asks_after after.Hog = refl
asks_after (after.Fetch asked) = refl
asks_after after.Finished = refl

after_in-run : (a : After) → after_in (state_after (next_of a)) (asks_of a) ≡ a
after_in-run after.Hog = refl
after_in-run (after.Fetch asked) = refl
after_in-run after.Finished = refl

swept_by : (failed : Bool) (asks : Option Request) → after_in (if failed then Failed else Available) asks ≡ after_in Running asks
swept_by true asks = refl
swept_by false asks = refl

after_of-not_finished : (asks : Option Request) → after_of asks ≢ after.Finished
after_of-not_finished None = λ (e : after.Hog ≡ after.Finished). absurd cc
after_of-not_finished (Some asked) = λ (e : after.Fetch asked ≡ after.Finished). absurd cc

unlocked : {s : JobState} → is_some {T = LockId} None ≡ true → s ≡ Running
unlocked bad = absurd cc

module _ {takes : InputRule} {on_course : CourseRule} {reply_ok : ReplyRule} {rows : List Row} {history : List Entry} {old : Row} (kept : IsKept takes on_course reply_ok rows history) (i : ℕ) (at : slice_get rows i ≡ Some old) where
  -- a row with a lock is that of a running job
  locked_runs : {lock : LockId} → old.lock ≡ Some lock → old.state ≡ Running
  locked_runs live = kept.locked i old at (ap is_some live)

  open_where_running : old.state ≡ Running → IsOpen (facts_of i history)
  open_where_running runs = let facts = facts_of i history in
      Running-by (nat_le 3 (length facts.sweeps)) facts.ended (is_some facts.owner) (sym (kept.each i old at).state ∙ runs)

  -- what comes next for a running job
  course_where_running : old.state ≡ Running → on_course old.input old.replies old.ops old.saved old.shown (after_of old.asks)
  course_where_running runs =
      subst (λ (s : JobState). on_course old.input old.replies old.ops old.saved old.shown (after_in s old.asks)) runs (kept.courses i old at)

  pub sweeps_few : old.state ≡ Running → length old.sweeps < 3
  sweeps_few runs =
      let so = open_where_running runs in
      let few : length (facts_of i history).sweeps < 3 = grind (arith, nat_tests) in
      rw (kept.each i old at).sweeps few

  module _ (job : ℕ) (same : job ≡ i) where
    pub IsStep-take : old.state ≡ Available → (on : QueueName) (lock : LockId) (now : ℕ)
        → IsStep on_course history i old (record old { state = Running; lock = Some lock; beat = now }) (Taken job on lock now)
    IsStep-take free on lock now =
        let is = kept.each i old at in
        let facts = facts_of i history in
        let so = Available-by (nat_le 3 (length facts.sweeps)) facts.ended (is_some facts.owner) (sym is.state ∙ free) in
        record {
          job = same;
          late = refl;
          number = refl;
          input = refl;
          row = record {
            lock = refl;
            beat = refl;
            scheduled = is.scheduled;
            priority = is.priority;
            replies = is.replies;
            ops = is.ops;
            tries = is.tries;
            sweeps = is.sweeps;
            queue = is.queue;
            state = rw (so.0, so.1) refl;
            asks = is.asks;
          };
          locked = λ _. refl;
          course = subst (λ (s : JobState). on_course old.input old.replies old.ops old.saved old.shown (after_in s old.asks)) free (kept.courses i old at);
        }

    pub IsStep-beat : (lock : LockId) (now : ℕ)
        → IsStep on_course history i old (record old { beat = now }) (Beat job lock now)
    IsStep-beat lock now =
        let is = kept.each i old at in
        record {
          job = same;
          late = refl;
          number = refl;
          input = refl;
          row = record {
            lock = is.lock;
            beat = refl;
            scheduled = is.scheduled;
            priority = is.priority;
            replies = is.replies;
            ops = is.ops;
            tries = is.tries;
            sweeps = is.sweeps;
            queue = is.queue;
            state = is.state;
            asks = is.asks;
          };
          locked = kept.locked i old at;
          course = kept.courses i old at;
        }

    pub IsStep-run : (lock : LockId) → old.lock ≡ Some lock → (from to : ℕ) (saved : List ℕ) (shown : Shown) (a : After)
        → on_course old.input old.replies to saved shown a
        → IsStep on_course history i old (record old { queue = queue_at (next_of a); state = state_after (next_of a); lock = None; ops = to; tries = 0; saved = saved; shown = shown; asks = asks_of a }) (Ran job lock from to (next_of a))
    IsStep-run lock live from to saved shown a course =
        let is = kept.each i old at in
        let so = open_where_running (locked_runs live) in
        record {
          job = same;
          late = refl;
          number = refl;
          input = refl;
          row = record {
            lock = refl;
            beat = is.beat;
            scheduled = is.scheduled;
            priority = is.priority;
            replies = is.replies;
            ops = refl;
            tries = refl;
            sweeps = is.sweeps;
            queue = refl;
            state = rw so.0 (sym (state_after-is (next_of a)));
            asks = asks_after a;
          };
          locked = unlocked;
          course = subst (λ (x : After). on_course old.input old.replies to saved shown x) (sym (after_in-run a)) course;
        }

    pub IsStep-reply : (lock : LockId) → old.lock ≡ Some lock → (reply : Reply) → reply_ok old.input (length old.replies) reply
        → ((a : After) → on_course old.input old.replies old.ops old.saved old.shown a → a ≢ after.Finished → reply_ok old.input (length old.replies) reply → on_course old.input (old.replies ++ reply ∷ []) old.ops old.saved old.shown after.Hog)
        → IsStep on_course history i old (record old { queue = queue.Hog; state = Available; lock = None; replies = old.replies ++ reply ∷ []; tries = 0; asks = None }) (Replied job lock reply)
    IsStep-reply lock live reply ok goes_on =
        let is = kept.each i old at in
        let runs = locked_runs live in
        let so = open_where_running runs in
        record {
          job = same;
          late = refl;
          number = refl;
          input = refl;
          row = record {
            lock = refl;
            beat = is.beat;
            scheduled = is.scheduled;
            priority = is.priority;
            replies = ap (λ r. r ++ reply ∷ []) is.replies;
            ops = is.ops;
            tries = refl;
            sweeps = is.sweeps;
            queue = refl;
            state = rw (so.0, so.1) refl;
            asks = refl;
          };
          locked = unlocked;
          course = goes_on (after_of old.asks) (course_where_running runs) (after_of-not_finished old.asks) ok;
        }

    pub IsStep-put_back : (lock : LockId) → old.lock ≡ Some lock → (when : ℕ)
        → IsStep on_course history i old (record old { state = Available; lock = None; scheduled = when; tries = min 255 (old.tries + 1) }) (PutBack job lock when)
    IsStep-put_back lock live when =
        let is = kept.each i old at in
        let runs = locked_runs live in
        let so = open_where_running runs in
        record {
          job = same;
          late = refl;
          number = refl;
          input = refl;
          row = record {
            lock = refl;
            beat = is.beat;
            scheduled = refl;
            priority = is.priority;
            replies = is.replies;
            ops = is.ops;
            tries = ap (λ n. min 255 (n + 1)) is.tries;
            sweeps = is.sweeps;
            queue = is.queue;
            state = rw (so.0, so.1) refl;
            asks = is.asks;
          };
          locked = unlocked;
          course = course_where_running runs;
        }

    pub IsStep-sweep : old.state ≡ Running → (now : ℕ)
        → IsStep on_course history i old (record old { state = swept_state (length old.sweeps + 1); lock = None; sweeps = old.sweeps ++ (now, old.beat) ∷ [] }) (Swept job now old.beat)
    IsStep-sweep runs now =
        let is = kept.each i old at in
        let facts = facts_of i history in
        let so = open_where_running runs in
        let count : length (facts.sweeps ++ (now, old.beat) ∷ []) ≡ length old.sweeps + 1 = length_push facts.sweeps (now, old.beat) ∙ ap (λ s. length s + 1) (sym is.sweeps) in
        record {
          job = same;
          late = refl;
          number = refl;
          input = refl;
          row = record {
            lock = refl;
            beat = is.beat;
            scheduled = is.scheduled;
            priority = is.priority;
            replies = is.replies;
            ops = is.ops;
            tries = is.tries;
            sweeps = ap (λ s. s ++ (now, old.beat) ∷ []) is.sweeps;
            queue = is.queue;
            state = rw (count, so.1) refl;
            asks = is.asks;
          };
          locked = unlocked;
          course = subst (λ (a : After). on_course old.input old.replies old.ops old.saved old.shown a) (sym (swept_by (nat_le 3 (length old.sweeps + 1)) old.asks)) (course_where_running runs);
        }
