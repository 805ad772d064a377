-- A step, a refusal and a new job leave a queue sound.
use Rattle.std.proofs.Common.{◌≡◌, ℕ, ℤ, add-zero, ◌+◌, ◌<◌, ◌==◌, Bool, true, false, cond, List, [], ◌∷◌, ◌++◌, inl, inr, length, get_or, set, ap, sym, ◌∙◌, subst, arith, Some, Option, slice_get}
use Rattle.std.proofs.lemmas.Option.{slice_get_within}
use Rattle.std.proofs.lemmas.List.Sums.{sum_by-append}
use Rattle.std.proofs.lemmas.List.{set-get_or}
use Rattle.std.proofs.lemmas.Bool.Decides.{nat_tests}
use Rattle.cyclotron_jobs.specs.declared.input.JobInput.{JobInput}
use Rattle.cyclotron_jobs.specs.declared.row.Row.{Row}
use Rattle.cyclotron_jobs.specs.declared.row.After.TheVariants as after
use Rattle.cyclotron_jobs.specs.declared.entry.Entry.{Entry}
use Rattle.cyclotron_jobs.specs.declared.entry.Entry.TheVariants.{Queued}
use Rattle.cyclotron_jobs.specs.Course.{shows_nothing}
use Rattle.queue_history.specs.declared.TheConstants.{MOST_JOBS}
use Rattle.queue_history.specs.Rules.{InputRule, CourseRule, ReplyRule}
use Rattle.queue_history.specs.Facts.{is_taken, takes_of}
use Rattle.queue_history.specs.Legal.{MayFollow}
use Rattle.queue_history.specs.Rows.{IsKept, IsNewRow, inputs_of}
use Rattle.queue_history.proofs.Step.{IsStep, IsKept-step}
use Rattle.queue_history.proofs.Places.{slice_get_set, slice_get_push}
use Rattle.queue_history.proofs.Enqueue.{IsKept-enqueue}
use Rattle.job_keeper.specs.Held.{PutsRow, SameRows}
use Rattle.cyclotron_core.specs.Queue.{IsSound}

-- how many takes there are with one more entry
takes_of-push : (h : List Entry) (e : Entry) → takes_of (h ++ e ∷ []) ≡ takes_of h + cond (is_taken e) 1 0
takes_of-push h e = omega (arith, sum_by-append (λ (x : Entry). cond (is_taken x) 1 0) h (e ∷ []))

-- a change that was undone
pub set-undone : (rows : List Row) (i : ℕ) {old new : Row} → old ≡ get_or rows i old → new ≡ old → set rows i new ≡ rows
set-undone rows i {old} is undone = ap (λ (r : Row). set rows i r) (undone ∙ is) ∙ set-get_or rows i old

module _ {takes : InputRule} {on_course : CourseRule} {reply_ok : ReplyRule} {tells : Bool} {rows : List Row} {history : List Entry} {drawn : ℕ} {held held' : ℕ → Option Row} (sound : IsSound takes on_course reply_ok tells rows history drawn held) where
  pub IsSound-step : {old new : Row} {e : Entry} {drawn' i : ℕ} → slice_get rows i ≡ Some old
      → MayFollow takes reply_ok (inputs_of rows) history e → IsStep on_course history i old new e
      → drawn' ≡ drawn + cond (is_taken e) 1 0 → PutsRow tells held held' new
      → IsSound takes on_course reply_ok tells (set rows i new) (history ++ e ∷ []) drawn' held'
  IsSound-step {old} {new} {e} {drawn'} {i} at may step draws put =
      let number : old.job ≡ i = sound.kept.numbered i old at in
      record {
        kept = IsKept-step sound.kept i at may step;
        draws = draws ∙ (ap (λ n. n + cond (is_taken e) 1 0) sound.draws ∙ sym (takes_of-push history e));
        holds = λ tells k row there. elim (slice_get_set rows i new k row there) [
          | inl (same, is) ↦ (
              let test : (k == new.job) ≡ true = let n : k ≡ new.job = same ∙ (sym number ∙ sym step.number) in grind (arith, nat_tests) in
              put tells k ∙ rw test (ap Some (sym is)))
          | inr (apart, is) ↦ (
              let test : (k == new.job) ≡ false = let n : new.job ≡ i = step.number ∙ number in grind (arith, nat_tests) in
              put tells k ∙ rw test (sound.holds tells k row is))
        ];
      }

  pub IsSound-refused : {old new : Row} → (i : ℕ) → old ≡ get_or rows i old → new ≡ old → SameRows tells held held'
      → IsSound takes on_course reply_ok tells (set rows i new) history drawn held'
  IsSound-refused {old} {new} i is undone put =
      let same : set rows i new ≡ rows = set-undone rows i is undone in
      record {
        kept = subst (λ (rs : List Row). IsKept takes on_course reply_ok rs history) (sym same) sound.kept;
        draws = sound.draws;
        holds = λ tells k row there. put tells k ∙ sound.holds tells k row (subst (λ (rs : List Row). slice_get rs k ≡ Some row) same there);
      }

  pub IsSound-enqueue : {row : Row} {job : ℕ} {input : JobInput} {priority : ℤ} {at : ℕ}
      → IsNewRow row job input priority at → job ≡ length rows → job < MOST_JOBS → takes input → on_course input [] 0 [] shows_nothing after.Hog
      → PutsRow tells held held' row
      → IsSound takes on_course reply_ok tells (rows ++ row ∷ []) (history ++ Queued job priority at ∷ []) drawn held'
  IsSound-enqueue {row} {job} {input} {priority} {at} new number few taken begins put = record {
    kept = IsKept-enqueue sound.kept new number few taken begins;
    draws = sound.draws ∙ (sym (add-zero (takes_of history)) ∙ sym (takes_of-push history (Queued job priority at)));
    holds = λ tells k r there. elim (slice_get_push rows row k r there) [
      | inl was ↦ (
          let lt : k < length rows = slice_get_within rows k r was in
          let test : (k == row.job) ≡ false = let n : row.job ≡ length rows = new.job ∙ number in grind (arith, nat_tests) in
          put tells k ∙ rw test (sound.holds tells k r was))
      | inr (end, is) ↦ (
          let test : (k == row.job) ≡ true = let n : row.job ≡ length rows = new.job ∙ number in grind (arith, nat_tests) in
          put tells k ∙ rw test (ap Some (sym is)))
    ];
  }
