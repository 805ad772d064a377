-- Runs of the course: how one begins and goes on, that there is one at most, and what one more reply changes. These are lemmas
-- for the laws of the course; no reader has to trust this file.
use Rattle.std.proofs.Common.{◌≡◌, ◌≢◌, ℕ, zero, suc, ◌+◌, ◌-◌, ◌<◌, ◌≤◌, List, [], ◌∷◌, ◌++◌, length, Some, refl, sym, ap, ◌∙◌, subst, inl, inr, arith}
use Rattle.std.specs.Prelude.{drop, slice_get}
use Rattle.std.proofs.lemmas.List.{drop-append-le, length-drop}
use Rattle.hog_value.specs.declared.trace.Shown.{Shown}
use Rattle.hog_value.specs.declared.trace.TraceItem.{TraceItem}
use Rattle.hog_ops.specs.Plain.{Ops}
use Rattle.hog_meaning.specs.World.{Reply}
use Rattle.vm_course.specs.State.{Running, Waiting, Ended, Mode, State}
use Rattle.vm_course.specs.Course.{machine, is_over_in, IsOver, IsDefined, shown_by}
use Rattle.vm_course.specs.Run.{RunState, begun, one_more, where_running, run_for, resumed, with_replies, IsRunOf}
use Rattle.vm_course.proofs.OnCourseRuns.{begins_on_course, slices_on_course, replies_on_course}
use Rattle.vm_state.specs.Laws.{IsMachineOf}
use Rattle.vm_state.specs.Text.{state_text}
use Rattle.cyclotron_jobs.specs.declared.row.After.{After}
use Rattle.cyclotron_jobs.specs.declared.row.After.TheVariants.{Hog, Finished}
use Rattle.hog_jobs.specs.Course.{IsRunAt, ComesNext, StandsAt}
use Rattle.hog_jobs.specs.Laws.{GoesOn}

-- places in lists

first_there : {X : Type 0} (xs : List X) (n : ℕ) (x : X) (rest : List X) → drop n xs ≡ x ∷ rest → slice_get xs n ≡ Some x
first_there [] zero x rest e = absurd cc
first_there [] (suc n) x rest e = absurd cc
first_there (y ∷ ys) zero x rest e = let same : y ≡ x = cc in ap Some same
first_there (y ∷ ys) (suc n) x rest e = first_there ys n x rest e

there_below : {X : Type 0} (xs : List X) (n : ℕ) (x : X) → slice_get xs n ≡ Some x → n < length xs
there_below [] n x there = absurd cc
there_below (y ∷ ys) zero x there = omega arith
there_below (y ∷ ys) (suc n) x there = let less = there_below ys n x there in omega (arith, less)

there_longer : {X : Type 0} (xs ys : List X) (n : ℕ) (x : X) → slice_get xs n ≡ Some x → slice_get (xs ++ ys) n ≡ Some x
there_longer [] ys n x there = absurd cc
there_longer (y ∷ xs) ys zero x there = there
there_longer (y ∷ xs) ys (suc n) x there = there_longer xs ys n x there

-- a run's own state has no replies to come

bare : (s : State) → s.replies ≡ [] → s ≡ with_replies [] s
bare s none = ap (λ rs. with_replies rs s) none

-- which drops are the same

same_drop : {X : Type 0} (xs : List X) (m n : ℕ) → m ≤ length xs → n ≤ length xs → drop m xs ≡ drop n xs → m ≡ n
same_drop xs m n few few_too same =
    let a = length-drop m xs in
    let b = length-drop n xs in
    let c = ap length same in
    omega (arith, few, few_too, a, b, c)

used_few : (m : Mode) (n most : ℕ) → n < most → where_running m (n + 1) n ≤ most
used_few Running n most below = omega (arith, below)
used_few Waiting n most below = omega (arith, below)
used_few (Ended end) n most below = omega (arith, below)

module _ (code : Ops) (globals : List ℕ) where
  -- what a run says of the machine
  module _ (replies : List Reply) (ops : ℕ) (r : RunState) (is : IsRunAt code globals replies ops r) where
    pub there : with_replies (drop r.used replies) r.state ≡ machine code globals replies (ops - 1)
    there = is.course.state ∙ ap (λ n. machine code globals replies (n - 1)) is.count

    pub mode_there : (machine code globals replies (ops - 1)).mode ≡ r.state.mode
    mode_there = sym (ap (λ (s : State). s.mode) there)

    pub trace_there : (machine code globals replies (ops - 1)).trace ≡ r.state.trace
    trace_there = sym (ap (λ (s : State). s.trace) there)

    pub turns_there : (machine code globals replies (ops - 1)).turns ≡ r.state.turns
    turns_there = sym (ap (λ (s : State). s.turns) there)

    pub left_there : (machine code globals replies (ops - 1)).replies ≡ drop r.used replies
    left_there = sym (ap (λ (s : State). s.replies) there)

    pub defined_there : IsDefined code globals replies ops
    defined_there = subst (IsDefined code globals replies) is.count is.course.defined

    -- where the run is over, the machine is over there
    pub is_over_there : is_over_in r.state.mode (drop r.used replies) → IsOver (machine code globals replies (ops - 1))
    is_over_there over = subst IsOver there over

    -- an operation more of one that goes on
    pub goes_more : r.state.mode ≡ Running → IsRunAt code globals replies (ops + 1) (one_more code r)
    goes_more running = record {
      course =
          subst (IsRunOf code globals replies) (ap (λ m. where_running m (one_more code r) r) running)
          (slices_on_course code globals replies 1 r is.course);
      count = ap (λ n. n + 1) is.count;
      few = is.few;
    }

    -- the next reply is taken in
    pub takes_more : (reply : Reply) → r.state.mode ≡ Waiting → slice_get replies r.used ≡ Some reply → IsRunAt code globals replies (ops + 1) (resumed reply r)
    takes_more reply waiting here = record {
      course = replies_on_course code globals replies reply r is.course waiting here;
      count = ap (λ n. n + 1) is.count;
      few = used_few (resumed reply r).state.mode r.used (length replies) (there_below replies r.used reply here);
    }

  pub begins_at : (replies : List Reply) → IsRunAt code globals replies 1 (begun code globals)
  begins_at replies = record {
    course = begins_on_course code globals replies;
    count = refl;
    few = omega arith;
  }

  -- slices and replies, at the operations that a run counts itself
  pub slices_at : (replies : List Reply) (n : ℕ) (r : RunState) → IsRunAt code globals replies r.ops r → IsRunAt code globals replies (run_for code n r).ops (run_for code n r)
  slices_at replies zero r is = is
  slices_at replies (suc n) r is = by_mode (λ e. slices_at replies n (one_more code r) (goes_more replies r.ops r is e)) r.state.mode refl
    where
      by_mode : (r.state.mode ≡ Running → IsRunAt code globals replies (run_for code n (one_more code r)).ops (run_for code n (one_more code r))) → (m : Mode) → r.state.mode ≡ m
          → IsRunAt code globals replies (where_running m (run_for code n (one_more code r)) r).ops (where_running m (run_for code n (one_more code r)) r)
      by_mode runs Running e = runs e
      by_mode runs Waiting e = is
      by_mode runs (Ended end) e = is

  pub replies_at : (replies : List Reply) (reply : Reply) (r : RunState) → IsRunAt code globals replies r.ops r → r.state.mode ≡ Waiting → slice_get replies r.used ≡ Some reply → IsRunAt code globals replies (resumed reply r).ops (resumed reply r)
  replies_at replies reply r is waiting here = takes_more replies r.ops r is reply waiting here

  -- there is one run at most
  pub one_run : (replies : List Reply) (ops : ℕ) (a b : RunState) → IsRunAt code globals replies ops a → IsRunAt code globals replies ops b → a ≡ b
  one_run replies ops a b p q =
      let both : with_replies (drop a.used replies) a.state ≡ with_replies (drop b.used replies) b.state = there replies ops a p ∙ sym (there replies ops b q) in
      let count : a.ops ≡ b.ops = p.count ∙ sym q.count in
      let used : a.used ≡ b.used = same_drop replies a.used b.used p.few q.few (ap (λ (s : State). s.replies) both) in
      let cell : a.globals ≡ b.globals = p.course.cell ∙ sym q.course.cell in
      let state : a.state ≡ b.state = bare a.state p.course.none_left ∙ ap (with_replies []) both ∙ sym (bare b.state q.course.none_left) in
      λ i. record { ops = count i; used = used i; globals = cell i; state = state i }

  -- one run on the replies and on more of them
  record Both (replies longer : List Reply) (ops : ℕ) : Type 0 where
    run : RunState
    is : IsRunAt code globals replies ops run
    on_more : IsRunAt code globals longer ops run

  module _ (replies : List Reply) (reply : Reply) where
    abbrev longer : List Reply
    longer = replies ++ reply ∷ []

    -- one operation more
    module _ (k : ℕ) (defined : IsDefined code globals replies (suc (suc k))) (b : Both replies longer (suc k)) where
      on : suc k + 1 ≡ suc (suc k)
      on = omega arith

      here : suc k - 1 ≡ k
      here = omega arith

      over_by : is_over_in b.run.state.mode (drop b.run.used replies) → ⊥
      over_by over = defined k (omega arith) (subst (λ n. IsOver (machine code globals replies n)) here (is_over_there replies (suc k) b.run b.is over))

      by_left : b.run.state.mode ≡ Waiting → (left : List Reply) → drop b.run.used replies ≡ left → Both replies longer (suc (suc k))
      by_left e [] none = absurd (over_by (subst (λ m. is_over_in m (drop b.run.used replies)) (sym e) (subst (is_over_in Waiting) (sym none) tt)))
      by_left e (x ∷ xs) some =
          let first = first_there replies b.run.used x xs some in
          record {
            run = resumed x b.run;
            is = subst (λ n. IsRunAt code globals replies n (resumed x b.run)) on (takes_more replies (suc k) b.run b.is x e first);
            on_more = subst (λ n. IsRunAt code globals longer n (resumed x b.run)) on (takes_more longer (suc k) b.run b.on_more x e (there_longer replies (reply ∷ []) b.run.used x first));
          }

      by_mode : (m : Mode) → b.run.state.mode ≡ m → Both replies longer (suc (suc k))
      by_mode Running e = record {
        run = one_more code b.run;
        is = subst (λ n. IsRunAt code globals replies n (one_more code b.run)) on (goes_more replies (suc k) b.run b.is e);
        on_more = subst (λ n. IsRunAt code globals longer n (one_more code b.run)) on (goes_more longer (suc k) b.run b.on_more e);
      }
      by_mode Waiting e = by_left e (drop b.run.used replies) refl
      by_mode (Ended end) e = absurd (over_by (subst (λ m. is_over_in m (drop b.run.used replies)) (sym e) tt))

    both : (k : ℕ) → IsDefined code globals replies (suc k) → Both replies longer (suc k)
    both zero defined = record { run = begun code globals; is = begins_at replies; on_more = begins_at longer }
    both (suc k) defined =
        let before = both k (λ j below. defined j (omega (arith, below))) in
        by_mode k defined before before.run.state.mode refl

    goes : (m : Mode) (left more : List Reply) (trace : List TraceItem) (next : After) → ComesNext m left trace next → next ≢ Finished → more ≡ left ++ reply ∷ [] → ComesNext m more trace Hog
    goes Running left more trace next is unfinished e = refl
    goes Waiting [] more trace next is unfinished e = subst (λ x. ComesNext Waiting x trace Hog) (sym e) refl
    goes Waiting (x ∷ xs) more trace next is unfinished e = subst (λ x. ComesNext Waiting x trace Hog) (sym e) refl
    goes (Ended end) left more trace next is unfinished e = absurd (unfinished is)

    -- one more reply changes nothing of what a job has behind it
    pub stands_on : (ops : ℕ) (saved : List ℕ) (shown : Shown) (next : After) → StandsAt code globals replies ops saved shown next → next ≢ Finished → StandsAt code globals longer ops saved shown Hog
    stands_on zero saved shown next is unfinished = (is.0, is.1, refl)
    stands_on (suc k) saved shown next is unfinished =
        let b = both k (defined_there replies (suc k) is.run is.at) in
        let same : is.run ≡ b.run = one_run replies (suc k) is.run b.run is.at b.is in
        record {
          run = b.run;
          at = b.on_more;
          machine = subst (IsMachineOf code) same is.machine;
          utf8 = is.utf8;
          text = is.text ∙ ap state_text same;
          seen = is.seen ∙ ap (λ (r : RunState). shown_by r.state) same;
          after =
              goes b.run.state.mode (drop b.run.used replies) (drop b.run.used longer) b.run.state.trace next
              (subst (λ (r : RunState). ComesNext r.state.mode (drop r.used replies) r.state.trace next) same is.after) unfinished
              (drop-append-le b.run.used replies (reply ∷ []) b.is.few);
        }

-- a machine after which more operations come runs, or waits for a reply that is there
pub hog_runs : (m : Mode) (replies : List Reply) (used : ℕ) (trace : List TraceItem) → ComesNext m (drop used replies) trace Hog → GoesOn m replies used
hog_runs Running replies used trace is = inl refl
hog_runs Waiting replies used trace is = by_left (drop used replies) refl is
  where
    by_left : (left : List Reply) → drop used replies ≡ left → ComesNext Waiting left trace Hog → GoesOn Waiting replies used
    by_left [] e next = let bad = next.fetches in absurd cc
    by_left (x ∷ xs) e next = inr (refl, x, first_there replies used x xs e)
hog_runs (Ended end) replies used trace is = absurd cc
