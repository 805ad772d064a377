-- A new job keeps the rows of a queue and its history together.
use Rattle.std.proofs.Common.{◌≡◌, ◌≢◌, ℕ, ℤ, suc, ◌+◌, ◌<◌, ◌==◌, true, false, List, [], ◌∷◌, ◌++◌, inl, inr, length, take, refl, ap, sym, ◌∙◌, subst, arith, Some, None, is_some, slice_get}
use Rattle.std.proofs.lemmas.List.{length-map, map-append, length_push}
use Rattle.std.proofs.lemmas.Bool.Decides.{nat_tests}
use Rattle.lock_ids.specs.declared.lock.LockId.{LockId}
use Rattle.cyclotron_jobs.specs.declared.input.JobInput.{JobInput}
use Rattle.cyclotron_jobs.specs.declared.row.Row.{Row}
use Rattle.cyclotron_jobs.specs.declared.entry.Entry.{Entry}
use Rattle.cyclotron_jobs.specs.declared.entry.Entry.TheVariants.{Queued, Taken, Beat, Ran, Replied, Swept, PutBack}
use Rattle.cyclotron_jobs.specs.Course.{shows_nothing}
use Rattle.cyclotron_jobs.specs.declared.row.After.TheVariants as after
use Rattle.queue_history.specs.declared.TheConstants.{MOST_JOBS}
use Rattle.queue_history.specs.Rules.{InputRule, CourseRule, ReplyRule}
use Rattle.queue_history.specs.Facts.{JobFacts, facts_of, facts_from, entries_of, job_of}
use Rattle.queue_history.specs.Legal.{HasInput, MayFollow, IsLegal}
use Rattle.queue_history.specs.Rows.{RowIs, IsKept, IsNewRow, inputs_of}
use Rattle.queue_history.proofs.Push.{facts_after, facts_of-push, facts_of-other, jobs_of-push}
use Rattle.queue_history.proofs.Places.{slice_get-append_left, slice_get_push, slice_get_end}
use Rattle.queue_history.proofs.Step.{IsLegal-push}
use Rattle.std.proofs.lemmas.Option.{slice_get_within}

HasInput-more : (inputs : List JobInput) (input : JobInput) (job : ℕ) (holds : JobInput → Type 0) → HasInput inputs job holds → HasInput (inputs ++ input ∷ []) job holds
HasInput-more inputs input job holds has =
    (has.0, slice_get-append_left inputs (input ∷ []) job (slice_get_within inputs job has.0 has.1) ∙ has.1, has.2)

-- what may follow may follow with one more job, too
MayFollow-more : (takes : InputRule) (reply_ok : ReplyRule) (inputs : List JobInput) (input : JobInput) (h : List Entry) (e : Entry)
    → MayFollow takes reply_ok inputs h e → MayFollow takes reply_ok (inputs ++ input ∷ []) h e
MayFollow-more takes reply_ok inputs input h (Queued job priority at) may = (may.0, may.1, HasInput-more inputs input job takes may.2)
MayFollow-more takes reply_ok inputs input h (Taken job on lock now) may = may
MayFollow-more takes reply_ok inputs input h (Beat job lock now) may = may
MayFollow-more takes reply_ok inputs input h (Ran job lock from to next) may = may
MayFollow-more takes reply_ok inputs input h (Replied job lock reply) may = (may.0, HasInput-more inputs input job (λ (i : JobInput). reply_ok i (length (facts_of job h).replies) reply) may.1)
MayFollow-more takes reply_ok inputs input h (Swept job now beat) may = may
MayFollow-more takes reply_ok inputs input h (PutBack job lock at) may = may

-- a job that no entry has has no entries
entries_of-none : (job : ℕ) (h : List Entry) → ((k : ℕ) (e : Entry) → slice_get h k ≡ Some e → job_of e < job) → entries_of job h ≡ []
entries_of-none job [] below = refl
entries_of-none job (e ∷ h) below =
    let lt : job_of e < job = below 0 e refl in
    let no : (job_of e == job) ≡ false = grind (arith, nat_tests) in
    rw no (entries_of-none job h (λ k x at. below (suc k) x at))

pub facts_of-none : (job : ℕ) (h : List Entry) → ((k : ℕ) (e : Entry) → slice_get h k ≡ Some e → job_of e < job) → facts_of job h ≡ facts_from []
unfolding facts_of
facts_of-none job h below = ap facts_from (entries_of-none job h below)

pub IsKept-enqueue : {takes : InputRule} {on_course : CourseRule} {reply_ok : ReplyRule} {rows : List Row} {history : List Entry} {row : Row} {job : ℕ} {input : JobInput} {priority : ℤ} {at : ℕ}
    → IsKept takes on_course reply_ok rows history → IsNewRow row job input priority at → job ≡ length rows → job < MOST_JOBS → takes input
    → on_course input [] 0 [] shows_nothing after.Hog
    → IsKept takes on_course reply_ok (rows ++ row ∷ []) (history ++ Queued job priority at ∷ [])
IsKept-enqueue {takes} {on_course} {reply_ok} {rows} {history} {row} {job} {input} {priority} {at} kept new number few taken begins =
    let e : Entry = Queued job priority at in
    let inputs : inputs_of (rows ++ row ∷ []) ≡ inputs_of rows ++ row.input ∷ [] = map-append (λ (r : Row). r.input) rows (row ∷ []) in
    let born : facts_of job history ≡ facts_from [] = facts_of-none job history (λ k x there. let lt = kept.known k x there in omega arith) in
    let grown : facts_of job (history ++ e ∷ []) ≡ facts_after (facts_from []) e = facts_of-push job history e refl ∙ ap (λ l. facts_after l e) born in
    let old : IsLegal takes reply_ok (inputs_of rows ++ row.input ∷ []) history = λ k x there. MayFollow-more takes reply_ok (inputs_of rows) row.input (take k history) x (kept.legal k x there) in
    let here : slice_get (inputs_of rows ++ row.input ∷ []) job ≡ Some row.input = slice_get_end (inputs_of rows) row.input job (number ∙ sym (length-map rows (λ (r : Row). r.input))) in
    let may : MayFollow takes reply_ok (inputs_of rows ++ row.input ∷ []) history e = (number ∙ kept.jobs, few, (row.input, here, subst (λ (i : JobInput). takes i) (sym new.input) taken)) in
    let longer : length (rows ++ row ∷ []) ≡ length rows + 1 = length_push rows row in
    record {
      legal = subst (λ (is : List JobInput). IsLegal takes reply_ok is (history ++ e ∷ [])) (sym inputs) (IsLegal-push takes reply_ok (inputs_of rows ++ row.input ∷ []) history e old may);
      jobs = longer ∙ (ap (λ n. n + 1) kept.jobs ∙ sym (jobs_of-push history e));
      few = rw longer (omega arith);
      known = λ k x there. elim (slice_get_push history e k x there) [
        | inl was ↦ (let lt : job_of x < length rows = kept.known k x was in omega arith)
        | inr (end, is) ↦ (let own : job_of x ≡ job = ap job_of is in omega arith)
      ];
      numbered = λ k r there. elim (slice_get_push rows row k r there) [
        | inl was ↦ kept.numbered k r was
        | inr (end, is) ↦ ap (λ r. r.job) is ∙ (new.job ∙ (number ∙ sym end))
      ];
      each = λ k r there. elim (slice_get_push rows row k r there) [
        | inl was ↦ (
            let lt : k < length rows = slice_get_within rows k r was in
            let other : job_of e ≢ k = λ (same : job ≡ k). omega arith in
            subst (λ (l : JobFacts). RowIs l r) (sym (facts_of-other k history e other)) (kept.each k r was))
        | inr (end, is) ↦ (
            let same : job ≡ k = number ∙ sym end in
            subst (λ (x : Row). RowIs (facts_of k (history ++ e ∷ [])) x) (sym is) (subst (λ (l : JobFacts). RowIs l row) (sym grown ∙ ap (λ j. facts_of j (history ++ e ∷ [])) same) record {
              lock = new.lock;
              beat = new.beat;
              replies = new.replies;
              ops = new.ops;
              sweeps = new.sweeps;
              queue = new.queue;
              state = new.state;
              priority = new.priority;
              scheduled = new.scheduled;
              tries = new.tries;
              asks = rw (new.queue, new.asks) refl;
            }))
      ];
      locked = λ k r there. elim (slice_get_push rows row k r there) [
        | inl was ↦ kept.locked k r was
        | inr (end, is) ↦ rw is (rw new.lock (λ (bad : is_some {T = LockId} None ≡ true). absurd cc))
      ];
      courses = λ k r there. elim (slice_get_push rows row k r there) [
        | inl was ↦ kept.courses k r was
        | inr (end, is) ↦ rw is (rw (new.input, new.replies, new.ops, new.saved, new.shown, new.state, new.asks) begins)
      ];
    }
