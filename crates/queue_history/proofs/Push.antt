-- One more entry at the end of a history.
use Rattle.std.proofs.Common.{◌≡◌, ◌≢◌, ℕ, ◌+◌, ◌==◌, true, false, cond, List, [], ◌∷◌, ◌++◌, refl, ap, ◌∙◌, arith}
use Rattle.std.proofs.lemmas.List.Sums.{fold-append, sum_by-append}
use Rattle.std.proofs.lemmas.List.Elements.{filter-append, filter_map-append}
use Rattle.std.proofs.lemmas.List.{append-nil}
use Rattle.std.proofs.lemmas.Bool.Decides.{nat_tests}
use Rattle.std.specs.List.{cons_option}
use Rattle.cyclotron_jobs.specs.declared.input.Reply.{Reply}
use Rattle.cyclotron_jobs.specs.declared.entry.Entry.{Entry}
use Rattle.cyclotron_jobs.specs.declared.entry.Entry.TheVariants.{Queued, Taken, Beat, Ran, Replied, Swept, PutBack}
use Rattle.queue_history.specs.Facts.{JobFacts, facts_of, facts_from, entries_of, job_of, owner_after, beat_after, ops_after, queue_after, ended_after, priority_after, scheduled_after, tries_after, reply_in, sweep_in, is_queued, jobs_of}

-- the entries of the job of the entry
pub entries_of-push : (job : ℕ) (h : List Entry) (e : Entry) → job_of e ≡ job → entries_of job (h ++ e ∷ []) ≡ entries_of job h ++ e ∷ []
entries_of-push job h e is =
    let same : (job_of e == job) ≡ true = grind (arith, nat_tests) in
    filter-append (λ x. job_of x == job) h (e ∷ []) ∙ rw same refl

-- and of any other job
pub entries_of-other : (job : ℕ) (h : List Entry) (e : Entry) → job_of e ≢ job → entries_of job (h ++ e ∷ []) ≡ entries_of job h
entries_of-other job h e apart =
    let no : (job_of e == job) ≡ false = grind (arith, nat_tests) in
    filter-append (λ x. job_of x == job) h (e ∷ []) ∙ rw no (append-nil (entries_of job h))

abbrev pub replies_after : List Reply → Entry → List Reply
replies_after replies (Queued job priority at) = replies
replies_after replies (Taken job on lock now) = replies
replies_after replies (Beat job lock now) = replies
replies_after replies (Ran job lock from to next) = replies
replies_after replies (Replied job lock reply) = replies ++ reply ∷ []
replies_after replies (Swept job now beat) = replies
replies_after replies (PutBack job lock at) = replies

abbrev pub sweeps_after : List (ℕ × ℕ) → Entry → List (ℕ × ℕ)
sweeps_after sweeps (Queued job priority at) = sweeps
sweeps_after sweeps (Taken job on lock now) = sweeps
sweeps_after sweeps (Beat job lock now) = sweeps
sweeps_after sweeps (Ran job lock from to next) = sweeps
sweeps_after sweeps (Replied job lock reply) = sweeps
sweeps_after sweeps (Swept job now beat) = sweeps ++ (now, beat) ∷ []
sweeps_after sweeps (PutBack job lock at) = sweeps

-- what one more entry of the job changes
abbrev pub facts_after : JobFacts → Entry → JobFacts
facts_after l e = record {
  owner = owner_after l.owner e;
  beat = beat_after l.beat e;
  replies = replies_after l.replies e;
  ops = ops_after l.ops e;
  sweeps = sweeps_after l.sweeps e;
  queue = queue_after l.queue e;
  ended = ended_after l.ended e;
  priority = priority_after l.priority e;
  scheduled = scheduled_after l.scheduled e;
  tries = tries_after l.tries e;
}

replies_after-is : (replies : List Reply) (e : Entry) → replies ++ cons_option (reply_in e) [] ≡ replies_after replies e
replies_after-is replies (Queued job priority at) = append-nil replies
replies_after-is replies (Taken job on lock now) = append-nil replies
replies_after-is replies (Beat job lock now) = append-nil replies
replies_after-is replies (Ran job lock from to next) = append-nil replies
replies_after-is replies (Replied job lock reply) = refl
replies_after-is replies (Swept job now beat) = append-nil replies
replies_after-is replies (PutBack job lock at) = append-nil replies

sweeps_after-is : (sweeps : List (ℕ × ℕ)) (e : Entry) → sweeps ++ cons_option (sweep_in e) [] ≡ sweeps_after sweeps e
sweeps_after-is sweeps (Queued job priority at) = append-nil sweeps
sweeps_after-is sweeps (Taken job on lock now) = append-nil sweeps
sweeps_after-is sweeps (Beat job lock now) = append-nil sweeps
sweeps_after-is sweeps (Ran job lock from to next) = append-nil sweeps
sweeps_after-is sweeps (Replied job lock reply) = append-nil sweeps
sweeps_after-is sweeps (Swept job now beat) = refl
sweeps_after-is sweeps (PutBack job lock at) = append-nil sweeps

pub facts_from-push : (es : List Entry) (e : Entry) → facts_from (es ++ e ∷ []) ≡ facts_after (facts_from es) e
facts_from-push es e = simp (fold-append, filter_map-append, replies_after-is, sweeps_after-is)

pub facts_of-push : (job : ℕ) (h : List Entry) (e : Entry) → job_of e ≡ job → facts_of job (h ++ e ∷ []) ≡ facts_after (facts_of job h) e
unfolding facts_of
facts_of-push job h e is = ap facts_from (entries_of-push job h e is) ∙ facts_from-push (entries_of job h) e

pub facts_of-other : (job : ℕ) (h : List Entry) (e : Entry) → job_of e ≢ job → facts_of job (h ++ e ∷ []) ≡ facts_of job h
unfolding facts_of
facts_of-other job h e apart = ap facts_from (entries_of-other job h e apart)

-- how many jobs there are
pub jobs_of-push : (h : List Entry) (e : Entry) → jobs_of (h ++ e ∷ []) ≡ jobs_of h + cond (is_queued e) 1 0
jobs_of-push h e = omega (arith, sum_by-append (λ (x : Entry). cond (is_queued x) 1 0) h (e ∷ []))
