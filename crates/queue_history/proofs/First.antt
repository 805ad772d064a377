-- The first of those that pass.
use Rattle.std.proofs.Common.{◌≡◌, ◌≢◌, ℕ, ◌+◌, ◌<◌, ◌≤◌, List, length, refl, ap, sym, ◌∙◌, subst, arith, Some, None, Option, MatchOption, slice_get, inl, inr}
use Rattle.std.specs.Cmp.{IsTotalOrder}
use Rattle.std.specs.Ordering.{nat_cmp, ordering_then, ordering_reverse, MatchOrdering}
use Rattle.std.specs.declared.cmp.Ordering.{Ordering}
use Rattle.std.specs.declared.cmp.Ordering.TheVariants.{Less, Equal, Greater}
use Rattle.std.proofs.lemmas.Cmp.{on_total, then_total, nat_cmp_total, int_cmp_total, ranked}
use Rattle.std.proofs.lemmas.Bool.{cases_eq, cases_lt}
use Rattle.cyclotron_jobs.specs.declared.row.QueueName.{QueueName}
use Rattle.cyclotron_jobs.specs.declared.row.Row.{Row}
use Rattle.cyclotron_jobs.specs.declared.entry.Entry.{Entry}
use Rattle.queue_history.specs.declared.turn.Turn.{Turn}
use Rattle.queue_history.specs.declared.turn.Silence.{Silence}
use Rattle.queue_history.specs.Rules.{InputRule, CourseRule, ReplyRule}
use Rattle.queue_history.specs.Due.{turn_cmp, turn_of, silence_cmp, silence_of, IsDue, IsFirstDue, NoneDue, IsDueRow, turn_of_row, IsStale, IsFirstStale, NoneStale, IsStaleRow, silence_of_row, IsFirstBelow}
use Rattle.queue_history.specs.Rows.{IsKept}
use Rattle.std.proofs.lemmas.Option.{slice_get_within}

pub turn_total : IsTotalOrder turn_cmp
turn_total = then_total (on_total (λ (t : Turn). t.priority) int_cmp_total) (then_total (on_total (λ (t : Turn). t.moment) nat_cmp_total) (on_total (λ (t : Turn). t.job) nat_cmp_total))

pub silence_total : IsTotalOrder silence_cmp
silence_total = then_total (on_total (λ (t : Silence). t.beat) nat_cmp_total) (on_total (λ (t : Silence). t.job) nat_cmp_total)

-- the next does not pass
pub IsFirstBelow-no : {K : Type 0} {cmp : K → K → Ordering} {key : ℕ → K} {passes : ℕ → Type 0} {n b : ℕ}
    → IsFirstBelow cmp key passes n b → ¬ (passes n) → IsFirstBelow cmp key passes (n + 1) b
IsFirstBelow-no {passes = passes} {n = n} {b = b} was out = record {
  below = omega (arith, was.below);
  here = was.here;
  first = λ k lt p other. elim (cases_lt k n) [ inl below ↦ was.first k below p other | inr above ↦ absurd (out (subst (λ (j : ℕ). passes j) (let e : k ≡ n = omega arith in e) p)) ];
}

-- the next passes, and comes first
pub IsFirstBelow-new : {K : Type 0} {cmp : K → K → Ordering} {key : ℕ → K} {passes : ℕ → Type 0} {n b : ℕ}
    → IsTotalOrder cmp → IsFirstBelow cmp key passes n b → passes n → cmp (key n) (key b) ≡ Less → IsFirstBelow cmp key passes (n + 1) n
IsFirstBelow-new {cmp = cmp} {key = key} {passes = passes} {n = n} {b = b} total was p less = record {
  below = omega arith;
  here = p;
  first = λ k lt q other. elim (cases_eq k b) [
    | inl same ↦ subst (λ (j : ℕ). cmp (key n) (key j) ≡ Less) (sym same) less
    | inr apart ↦ total.trans (key n) (key b) (key k) less (was.first k (let ne : k ≢ n = other in omega arith) q apart)
  ];
}

-- the next passes, and comes later
pub IsFirstBelow-old : {K : Type 0} {cmp : K → K → Ordering} {key : ℕ → K} {passes : ℕ → Type 0} {n b : ℕ}
    → IsFirstBelow cmp key passes n b → cmp (key b) (key n) ≡ Less → IsFirstBelow cmp key passes (n + 1) b
IsFirstBelow-old {cmp = cmp} {key = key} {passes = passes} {n = n} {b = b} was less = record {
  below = omega (arith, was.below);
  here = was.here;
  first = λ k lt p other. elim (cases_lt k n) [ inl below ↦ was.first k below p other | inr above ↦ subst (λ (j : ℕ). cmp (key b) (key j) ≡ Less) (let e : n ≡ k = omega arith in e) less ];
}

-- the first that passes
pub IsFirstBelow-one : {K : Type 0} (cmp : K → K → Ordering) (key : ℕ → K) (passes : ℕ → Type 0) (n : ℕ)
    → ((k : ℕ) → k < n → ¬ (passes k)) → passes n → IsFirstBelow cmp key passes (n + 1) n
IsFirstBelow-one cmp key passes n none p = record {
  below = omega arith;
  here = p;
  first = λ k lt q other. absurd (none k (let ne : k ≢ n = other in omega arith) q);
}

-- what is not less is greater where the two differ in the last part
reverse-not_less : (o : Ordering) → o ≢ Less → o ≢ Equal → ordering_reverse o ≡ Less
reverse-not_less Less a b = absurd (a refl)
reverse-not_less Equal a b = absurd (b refl)
reverse-not_less Greater a b = refl

then-equal : (o p : Ordering) → ordering_then o p ≡ Equal → p ≡ Equal
then-equal Less p e = absurd cc
then-equal Equal p e = e
then-equal Greater p e = absurd cc

nat_cmp-equal : (m n : ℕ) → nat_cmp m n ≡ Equal → m ≡ n
nat_cmp-equal m n e = subst (λ (o : Ordering). MatchOrdering o (m < n) (m ≡ n) (n < m)) e (ranked m n (nat_cmp m n) refl)

pub turn_back : (a b : Turn) → turn_cmp a b ≢ Less → a.job ≢ b.job → turn_cmp b a ≡ Less
turn_back a b not apart = turn_total.antisymm b a ∙ reverse-not_less (turn_cmp a b) not (λ (e : turn_cmp a b ≡ Equal). apart (nat_cmp-equal a.job b.job (then-equal _ _ (then-equal _ _ e))))

pub silence_back : (a b : Silence) → silence_cmp a b ≢ Less → a.job ≢ b.job → silence_cmp b a ≡ Less
silence_back a b not apart = silence_total.antisymm b a ∙ reverse-not_less (silence_cmp a b) not (λ (e : silence_cmp a b ≡ Equal). apart (nat_cmp-equal a.job b.job (then-equal _ _ e)))

-- a row is due exactly where its job is
module _ {takes : InputRule} {on_course : CourseRule} {reply_ok : ReplyRule} {rows : List Row} {history : List Entry} (kept : IsKept takes on_course reply_ok rows history) (k : ℕ) (row : Row) (at : slice_get rows k ≡ Some row) where
  pub IsDue-from_row : {on : QueueName} {now : ℕ} → IsDueRow on now row → IsDue history on now k
  IsDue-from_row {on} {now} is = let of = kept.each k row at in let lt : k < length rows = slice_get_within rows k row at in record {
    there = omega (arith, kept.jobs);
    state = sym of.state ∙ is.state;
    queue = sym of.queue ∙ is.queue;
    scheduled = subst (λ (s : ℕ). s ≤ now) of.scheduled is.scheduled;
  }

  pub IsDueRow-from_job : {on : QueueName} {now : ℕ} → IsDue history on now k → IsDueRow on now row
  IsDueRow-from_job {on} {now} is = let of = kept.each k row at in record {
    state = of.state ∙ is.state;
    queue = of.queue ∙ is.queue;
    scheduled = subst (λ (s : ℕ). s ≤ now) (sym of.scheduled) is.scheduled;
  }

  pub turn_of-row : turn_of_row row ≡ turn_of history k
  turn_of-row = let of = kept.each k row at in rw (of.priority, of.scheduled, kept.numbered k row at) refl

  pub IsStale-from_row : {now : ℕ} → IsStaleRow now row → IsStale history now k
  IsStale-from_row {now} is = let of = kept.each k row at in let lt : k < length rows = slice_get_within rows k row at in record {
    there = omega (arith, kept.jobs);
    state = sym of.state ∙ is.state;
    silent = subst (λ (s : ℕ). s + 30000 ≤ now) of.beat is.silent;
  }

  pub IsStaleRow-from_job : {now : ℕ} → IsStale history now k → IsStaleRow now row
  IsStaleRow-from_job {now} is = let of = kept.each k row at in record {
    state = of.state ∙ is.state;
    silent = subst (λ (s : ℕ). s + 30000 ≤ now) (sym of.beat) is.silent;
  }

  pub silence_of-row : silence_of_row row ≡ silence_of history k
  silence_of-row = let of = kept.each k row at in rw (of.beat, kept.numbered k row at) refl

-- what a search knows of those below n: none passes, or the first that does
abbrev pub Search : {K : Type 0} → (K → K → Ordering) → (ℕ → K) → (ℕ → Type 0) → ℕ → Option ℕ → Type 0
Search cmp key passes n best = MatchOption best ((k : ℕ) → k < n → ¬ (passes k)) (IsFirstBelow cmp key passes n)

pub Search-no : {K : Type 0} (cmp : K → K → Ordering) (key : ℕ → K) (passes : ℕ → Type 0) (n : ℕ) (best : Option ℕ) → Search cmp key passes n best → ¬ (passes n) → Search cmp key passes (n + 1) best
Search-no cmp key passes n None was out = λ k lt p. elim (cases_lt k n) [ inl below ↦ was k below p | inr above ↦ out (subst (λ (j : ℕ). passes j) (let e : k ≡ n = omega arith in e) p) ]
Search-no cmp key passes n (Some b) was out = IsFirstBelow-no was out

-- a search that went through all rows
pub IsFirstDue-from_search : {takes : InputRule} {on_course : CourseRule} {reply_ok : ReplyRule} {rows : List Row} {history : List Entry} {n : ℕ}
    → IsKept takes on_course reply_ok rows history → (on : QueueName) (now : ℕ) (best : Option ℕ) → length rows ≤ n → Search turn_cmp (turn_of history) (IsDue history on now) n best
    → MatchOption best (NoneDue history on now) (IsFirstDue history on now)
IsFirstDue-from_search kept on now None all none = λ job due. none job (omega (arith, kept.jobs, due.there)) due
IsFirstDue-from_search kept on now (Some b) all is = record {
  due = is.here;
  first = λ other due apart. is.first other (omega (arith, kept.jobs, due.there)) due apart;
}

pub IsFirstStale-from_search : {takes : InputRule} {on_course : CourseRule} {reply_ok : ReplyRule} {rows : List Row} {history : List Entry} {n : ℕ}
    → IsKept takes on_course reply_ok rows history → (now : ℕ) (best : Option ℕ) → length rows ≤ n → Search silence_cmp (silence_of history) (IsStale history now) n best
    → MatchOption best (NoneStale history now) (IsFirstStale history now)
IsFirstStale-from_search kept now None all none = λ job stale. none job (omega (arith, kept.jobs, stale.there)) stale
IsFirstStale-from_search kept now (Some b) all is = record {
  stale = is.here;
  first = λ other stale apart. is.first other (omega (arith, kept.jobs, stale.there)) stale apart;
}

-- two rows stand as their jobs do
pub turn_less : {takes : InputRule} {on_course : CourseRule} {reply_ok : ReplyRule} {rows : List Row} {history : List Entry}
    → IsKept takes on_course reply_ok rows history → (i j : ℕ) (a b : Row) → slice_get rows i ≡ Some a → slice_get rows j ≡ Some b
    → turn_cmp (turn_of_row a) (turn_of_row b) ≡ Less → turn_cmp (turn_of history i) (turn_of history j) ≡ Less
turn_less {history = history} kept i j a b at there less =
    let p : turn_cmp (turn_of_row a) (turn_of_row b) ≡ turn_cmp (turn_of history i) (turn_of_row b) = ap (λ (t : Turn). turn_cmp t (turn_of_row b)) (turn_of-row kept i a at) in
    let q : turn_cmp (turn_of history i) (turn_of_row b) ≡ turn_cmp (turn_of history i) (turn_of history j) = ap (λ (t : Turn). turn_cmp (turn_of history i) t) (turn_of-row kept j b there) in
    sym (p ∙ q) ∙ less

pub silence_less : {takes : InputRule} {on_course : CourseRule} {reply_ok : ReplyRule} {rows : List Row} {history : List Entry}
    → IsKept takes on_course reply_ok rows history → (i j : ℕ) (a b : Row) → slice_get rows i ≡ Some a → slice_get rows j ≡ Some b
    → silence_cmp (silence_of_row a) (silence_of_row b) ≡ Less → silence_cmp (silence_of history i) (silence_of history j) ≡ Less
silence_less {history = history} kept i j a b at there less =
    let p : silence_cmp (silence_of_row a) (silence_of_row b) ≡ silence_cmp (silence_of history i) (silence_of_row b) = ap (λ (t : Silence). silence_cmp t (silence_of_row b)) (silence_of-row kept i a at) in
    let q : silence_cmp (silence_of history i) (silence_of_row b) ≡ silence_cmp (silence_of history i) (silence_of history j) = ap (λ (t : Silence). silence_cmp (silence_of history i) t) (silence_of-row kept j b there) in
    sym (p ∙ q) ∙ less
