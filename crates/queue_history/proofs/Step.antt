-- One step of a queue keeps its rows and its history together.
use Rattle.std.proofs.Common.{◌≡◌, ◌≢◌, ℕ, ◌<◌, true, false, List, [], ◌∷◌, ◌++◌, inl, inr, length, take, set, ap, sym, ◌∙◌, subst, arith, Some, is_some, slice_get, length-set}
use Rattle.std.proofs.lemmas.List.{take-append-le, take_all}
use Rattle.std.proofs.lemmas.Option.{slice_get_within}
use Rattle.cyclotron_jobs.specs.declared.input.JobInput.{JobInput}
use Rattle.cyclotron_jobs.specs.declared.row.Row.{Row}
use Rattle.cyclotron_jobs.specs.declared.row.JobState.TheVariants.{Running}
use Rattle.cyclotron_jobs.specs.declared.entry.Entry.{Entry}
use Rattle.queue_history.specs.Rules.{InputRule, CourseRule, ReplyRule}
use Rattle.queue_history.specs.Facts.{JobFacts, facts_of, job_of, is_queued, jobs_of}
use Rattle.queue_history.specs.Legal.{MayFollow, IsLegal}
use Rattle.queue_history.specs.Rows.{RowIs, IsKept, IsOnCourse, inputs_of}
use Rattle.queue_history.proofs.Push.{facts_after, facts_of-push, facts_of-other, jobs_of-push}
use Rattle.queue_history.proofs.Places.{slice_get_push, slice_get_set, map-set_same}

-- one more entry that may follow
pub IsLegal-push : (takes : InputRule) (reply_ok : ReplyRule) (inputs : List JobInput) (h : List Entry) (e : Entry)
    → IsLegal takes reply_ok inputs h → MayFollow takes reply_ok inputs h e → IsLegal takes reply_ok inputs (h ++ e ∷ [])
IsLegal-push takes reply_ok inputs h e legal may = λ k x at.
    elim (slice_get_push h e k x at) [
      | inl here ↦ (
          let within : k < length h = slice_get_within h k x here in
          let same : take k (h ++ e ∷ []) ≡ take k h = take-append-le k h (e ∷ []) (omega arith) in
          subst (λ (before : List Entry). MayFollow takes reply_ok inputs before x) (sym same) (legal k x here))
      | inr (end, is) ↦ (
          let same : take k (h ++ e ∷ []) ≡ h = take-append-le k h (e ∷ []) (omega arith) ∙ take_all k h (omega arith) in
          subst (λ (before : List Entry). MayFollow takes reply_ok inputs before x) (sym same) (subst (λ (y : Entry). MayFollow takes reply_ok inputs h y) (sym is) may))
    ]

-- what one more entry leaves of the row of its job: the row says what the entries and this one say, and is on course
pub record IsStep (on_course : CourseRule) (history : List Entry) (i : ℕ) (old new : Row) (e : Entry) : Type 0 where
  pub job : job_of e ≡ i
  pub late : is_queued e ≡ false
  pub number : new.job ≡ old.job
  pub input : new.input ≡ old.input
  pub row : RowIs (facts_after (facts_of i history) e) new
  pub locked : is_some new.lock ≡ true → new.state ≡ Running
  pub course : IsOnCourse on_course new

-- rows and history still belong together after one more entry
pub IsKept-step : {takes : InputRule} {on_course : CourseRule} {reply_ok : ReplyRule} {rows : List Row} {history : List Entry} {old new : Row} {e : Entry}
    → IsKept takes on_course reply_ok rows history → (i : ℕ) → slice_get rows i ≡ Some old
    → MayFollow takes reply_ok (inputs_of rows) history e → IsStep on_course history i old new e
    → IsKept takes on_course reply_ok (set rows i new) (history ++ e ∷ [])
IsKept-step {takes} {on_course} {reply_ok} {rows} {history} {old} {new} {e} kept i at may step =
    let number : old.job ≡ i = kept.numbered i old at in
    let inputs : inputs_of (set rows i new) ≡ inputs_of rows = map-set_same (λ (r : Row). r.input) rows i old new at step.input in
    let jobs : jobs_of (history ++ e ∷ []) ≡ jobs_of history = jobs_of-push history e ∙ rw step.late (omega arith) in
    record {
      legal = subst (λ (is : List JobInput). IsLegal takes reply_ok is (history ++ e ∷ [])) (sym inputs) (IsLegal-push takes reply_ok (inputs_of rows) history e kept.legal may);
      jobs = length-set rows i new ∙ (kept.jobs ∙ sym jobs);
      few = rw (length-set rows i new) kept.few;
      known = λ k x there. elim (slice_get_push history e k x there) [
        | inl here ↦ rw (length-set rows i new) (kept.known k x here)
        | inr (end, is) ↦ (
            let within : i < length rows = slice_get_within rows i old at in
            let job : job_of x ≡ i = ap job_of is ∙ step.job in
            rw (length-set rows i new) (omega arith))
      ];
      numbered = λ k row there. elim (slice_get_set rows i new k row there) [
        | inl (same, is) ↦ ap (λ r. r.job) is ∙ (step.number ∙ (number ∙ sym same))
        | inr (apart, is) ↦ kept.numbered k row is
      ];
      each = λ k row there. elim (slice_get_set rows i new k row there) [
        | inl (same, is) ↦ (
            let grown : facts_after (facts_of i history) e ≡ facts_of k (history ++ e ∷ []) = sym (facts_of-push i history e step.job) ∙ ap (λ j. facts_of j (history ++ e ∷ [])) (sym same) in
            subst (λ (r : Row). RowIs (facts_of k (history ++ e ∷ [])) r) (sym is) (subst (λ (l : JobFacts). RowIs l new) grown step.row))
        | inr (apart, is) ↦ (
            let other : job_of e ≢ k = λ (same : job_of e ≡ k). apart (sym same ∙ step.job) in
            subst (λ (l : JobFacts). RowIs l row) (sym (facts_of-other k history e other)) (kept.each k row is))
      ];
      locked = λ k row there. elim (slice_get_set rows i new k row there) [
        | inl (same, is) ↦ subst (λ (r : Row). is_some r.lock ≡ true → r.state ≡ Running) (sym is) step.locked
        | inr (apart, is) ↦ kept.locked k row is
      ];
      courses = λ k row there. elim (slice_get_set rows i new k row there) [
        | inl (same, is) ↦ subst (λ (r : Row). IsOnCourse on_course r) (sym is) step.course
        | inr (apart, is) ↦ kept.courses k row is
      ];
    }
