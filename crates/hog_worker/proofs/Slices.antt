-- A run for so many operations: it is Running at each count in between, and it has done all or doesn't run at its end.
use Rattle.std.proofs.Common.{◌≡◌, ◌≢◌, ℕ, zero, suc, ◌+◌, ◌-◌, ◌<◌, ◌≤◌, List, refl, sym, ap, ◌∙◌, subst, ◌⊎◌, inl, inr, ⊎_elim, arith}
use Rattle.std.proofs.lemmas.Bool.{cases_lt}
use Rattle.hog_ops.specs.Plain.{Ops}
use Rattle.hog_meaning.specs.World.{Reply}
use Rattle.vm_course.specs.State.{Running, Waiting, Ended, Mode, State}
use Rattle.vm_course.specs.Course.{machine}
use Rattle.vm_course.specs.Run.{RunState, one_more, where_running, run_for, IsRunOf}
use Rattle.vm_course.specs.Laws.{SlicesOnCourse}
use Rattle.hog_worker.specs.Steps.{IsTakenUp}
use Rattle.hog_worker.specs.Work.{IsSlice}

module _ (code : Ops) (globals : List ℕ) (replies : List Reply) where
  abbrev mode_at : ℕ → Mode
  mode_at ops = (machine code globals replies (ops - 1)).mode

  pub mode_of : (r : RunState) → IsRunOf code globals replies r → mode_at r.ops ≡ r.state.mode
  mode_of r is = sym (ap (λ (s : State). s.mode) is.state)

  -- what leads from a run to one that is so many operations on
  pub record HasRun (n : ℕ) (r s : RunState) : Type 0 where
    pub least : r.ops ≤ s.ops
    pub most : s.ops ≤ r.ops + n
    pub moves : 1 ≤ n → r.state.mode ≡ Running → r.ops < s.ops
    pub runs : (k : ℕ) → r.ops ≤ k → k < s.ops → mode_at k ≡ Running
    pub stops : (s.ops ≡ r.ops + n) ⊎ (s.state.mode ≢ Running)

  still : (n : ℕ) (r : RunState) → (1 ≤ n → r.state.mode ≢ Running) → (r.ops ≡ r.ops + n) ⊎ (r.state.mode ≢ Running) → HasRun n r r
  still n r rests stops = record {
    least = omega arith;
    most = omega arith;
    moves = λ some running. absurd (rests some running);
    runs = λ k low high. absurd (omega (arith, low, high));
    stops = stops;
  }

  module _ (law : SlicesOnCourse) where
    more : (r : RunState) → IsRunOf code globals replies r → r.state.mode ≡ Running → IsRunOf code globals replies (one_more code r)
    more r is running = subst (IsRunOf code globals replies) (ap (λ m. where_running m (one_more code r) r) running) (law code globals replies 1 r is)

    goes : (n : ℕ) (r s : RunState) → IsRunOf code globals replies r → r.state.mode ≡ Running → HasRun n (one_more code r) s → HasRun (suc n) r s
    goes n r s is running on =
        let least = on.least in
        let most = on.most in
        record {
          least = omega (arith, least);
          most = omega (arith, most);
          moves = λ some run. omega (arith, least);
          runs = λ k low high.
              ⊎_elim (λ later. on.runs k (omega (arith, later)) high)
              (λ first. subst (λ n. mode_at n ≡ Running) (let same : r.ops ≡ k = omega (arith, low, first) in same) (mode_of r is ∙ running))
              (cases_lt r.ops k);
          stops = ⊎_elim (λ all. inl (omega (arith, all))) (λ stopped. inr stopped) on.stops;
        }

    pub has_run : (n : ℕ) (r : RunState) → IsRunOf code globals replies r → HasRun n r (run_for code n r)
    has_run zero r is = still zero r (λ some. absurd (omega (arith, some))) (inl (omega arith))
    has_run (suc n) r is = by_mode (λ running. has_run n (one_more code r) (more r is running)) r.state.mode refl
      where
        by_mode : (r.state.mode ≡ Running → HasRun n (one_more code r) (run_for code n (one_more code r))) → (m : Mode) → r.state.mode ≡ m
            → HasRun (suc n) r (where_running m (run_for code n (one_more code r)) r)
        by_mode next Running e = goes n r (run_for code n (one_more code r)) is e (next e)
        by_mode next Waiting e = still (suc n) r (λ some running. absurd cc) (inr (λ running. absurd cc))
        by_mode next (Ended end) e = still (suc n) r (λ some running. absurd cc) (inr (λ running. absurd cc))

    -- what was taken up, and then the rest of the slice, is a slice
    pub is_slice : (slice ops left : ℕ) (r : RunState) → 1 ≤ slice → IsTakenUp code globals replies ops r → r.ops + left ≡ ops + slice
        → IsSlice code globals replies slice ops (run_for code left r).ops
    is_slice slice ops left r some up all =
        let s = run_for code left r in
        let on = has_run left r up.at.course in
        let least = on.least in
        let most = on.most in
        record {
          above = ⊎_elim (λ one. omega (arith, one, least)) (λ none. let moves = on.moves (omega (arith, none.0, all, some)) none.1 in omega (arith, none.0, moves)) up.first;
          most = omega (arith, most, all);
          runs = λ k low high. on.runs k (⊎_elim (λ one. omega (arith, one, low)) (λ none. omega (arith, none.0, low)) up.first) high;
          stops =
              ⊎_elim (λ done. inl (omega (arith, done, all)))
              (λ stopped. inr (λ running. stopped (sym (mode_of s (law code globals replies left r up.at.course)) ∙ running))) on.stops;
        }

  -- what is left of a slice behind what was taken up
  pub slice_left : (slice ops left : ℕ) (r : RunState) → 1 ≤ slice → IsTakenUp code globals replies ops r → left ≡ slice - (r.ops - ops) → r.ops + left ≡ ops + slice
  slice_left slice ops left r some up is =
      ⊎_elim (λ one. omega (arith, some, one, is)) (λ none. let same = none.0 in omega (arith, same, is)) up.first
