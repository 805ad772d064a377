-- What the walks along the lists find.
use Rattle.std.proofs.Common.{ℕ, ◌≡◌, ◌≢◌, ◌+◌, ◌<◌, ◌≤◌, inl, inr, true, Bool, List, length, Contains, Some, None, slice_get, refl, ap, sym, ◌∙◌, subst, arith}
use Rattle.std.specs.Ordering.{nat_cmp, ordering_then, MatchOrdering}
use Rattle.std.specs.declared.cmp.Ordering.{Ordering}
use Rattle.std.specs.declared.cmp.Ordering.TheVariants.{Less, Equal, Greater}
use Rattle.std.proofs.lemmas.Bool.{cases_eq}
use Rattle.std.proofs.lemmas.Cmp.{ranked}
use Rattle.std.proofs.lemmas.Option.{slice_get_cases, same_Some}
use Rattle.index_lists.specs.Lists.{ListsOf, nodes_of}
use Rattle.index_lists.specs.Order.{IsListOf}
use Rattle.index_lists.proofs.Walk.{IsWalk, walk-begin, walk-end, walk-first, walk-Contains, first-first}
use Rattle.cyclotron_jobs.specs.declared.row.Row.{Row}
use Rattle.cyclotron_jobs.specs.declared.row.QueueName.{QueueName}
use Rattle.cyclotron_jobs.specs.declared.row.QueueName.TheVariants as queue
use Rattle.cyclotron_jobs.specs.declared.row.JobState.{JobState}
use Rattle.cyclotron_jobs.specs.declared.row.JobState.TheVariants.{Available, Running, Completed, Failed}
use Rattle.cyclotron_jobs.specs.declared.entry.Entry.{Entry}
use Rattle.queue_history.specs.declared.turn.Turn.{Turn}
use Rattle.queue_history.specs.declared.turn.Silence.{Silence}
use Rattle.queue_history.specs.Rules.{InputRule, CourseRule, ReplyRule}
use Rattle.queue_history.specs.Facts.{facts_of}
use Rattle.queue_history.specs.Due.{turn_cmp, turn_of, silence_cmp, silence_of, IsDue, IsFirstDue, NoneDue, IsStale, IsFirstStale, NoneStale}
use Rattle.queue_history.specs.Rows.{IsKept}
use Rattle.queue_history.proofs.First.{IsDue-from_row, IsDueRow-from_job, IsStale-from_row, IsStaleRow-from_job}
use Rattle.cyclotron_core.specs.Orders.{turn_in, silence_in, by_turn, by_silence, is_lt-Less}
use Rattle.cyclotron_core.specs.Listing.{waiting_list, running_list, list_in, list_at, IsListing}
use Rattle.cyclotron_core.proofs.Moves.{comes_in-waiting, row-listed, waiting-stands, running-stands}

-- the moment of a job hasn't come
abbrev pub IsLate : List Row → ℕ → ℕ → Type 0
IsLate rows now k = (row : Row) → slice_get rows k ≡ Some row → now < row.scheduled

pub IsLate-row : (rows : List Row) (now k : ℕ) (row : Row) → slice_get rows k ≡ Some row → now < row.scheduled → IsLate rows now k
IsLate-row rows now k row here late = λ that at. subst (λ (r : Row). now < r.scheduled) (same_Some row that (sym here ∙ at)) late

-- what it is to stand in a list
waits-in : (state : JobState) (of on : QueueName) → list_in state of ≡ Some (waiting_list on) → (state ≡ Available) × (of ≡ on)
waits-in Available queue.Hog queue.Hog is = (refl, refl)
waits-in Available queue.Hog queue.Fetch is = absurd (let e : 0 ≡ 1 = same_Some 0 1 is in omega arith)
waits-in Available queue.Fetch queue.Hog is = absurd (let e : 1 ≡ 0 = same_Some 1 0 is in omega arith)
waits-in Available queue.Fetch queue.Fetch is = (refl, refl)
waits-in Running of queue.Hog is = absurd (let e : 2 ≡ 0 = same_Some 2 0 is in omega arith)
waits-in Running of queue.Fetch is = absurd (let e : 2 ≡ 1 = same_Some 2 1 is in omega arith)
waits-in Completed of on is = absurd cc
waits-in Failed of on is = absurd cc

runs-in : (state : JobState) (of : QueueName) → list_in state of ≡ Some running_list → state ≡ Running
runs-in Available queue.Hog is = absurd (let e : 0 ≡ 2 = same_Some 0 2 is in omega arith)
runs-in Available queue.Fetch is = absurd (let e : 1 ≡ 2 = same_Some 1 2 is in omega arith)
runs-in Running of is = refl
runs-in Completed of is = absurd cc
runs-in Failed of is = absurd cc

-- a silence that comes first has no later beat
silence-beat : (a b : Silence) → silence_cmp a b ≡ Less → a.beat ≤ b.beat
silence-beat a b less = by_cases (nat_cmp a.beat b.beat) (nat_cmp a.job b.job) (ranked a.beat b.beat (nat_cmp a.beat b.beat) refl) less where
  by_cases : {m n : ℕ} (o p : Ordering) → MatchOrdering o (m < n) (m ≡ n) (n < m) → ordering_then o p ≡ Less → m ≤ n
  by_cases Less p lt e = omega arith
  by_cases Equal p same e = omega arith
  by_cases Greater p gt e = absurd cc

module _ {takes : InputRule} {on_course : CourseRule} {reply_ok : ReplyRule} {rows : List Row} {history : List Entry} (kept : IsKept takes on_course reply_ok rows history) (lists : ListsOf) (listing : IsListing rows lists) (now : ℕ) where
  -- turns and silences by rows are those of the history
  turn_in-row : (k : ℕ) (row : Row) → slice_get rows k ≡ Some row → turn_in k (slice_get rows k) ≡ turn_of history k
  turn_in-row k row here = let of = kept.each k row here in ap (turn_in k) here ∙ rw (of.priority, of.scheduled) refl

  silence_in-row : (k : ℕ) (row : Row) → slice_get rows k ≡ Some row → silence_in k (slice_get rows k) ≡ silence_of history k
  silence_in-row k row here = let of = kept.each k row here in ap (silence_in k) here ∙ rw of.beat refl

  turns-less : (a b : ℕ) (row that : Row) → slice_get rows a ≡ Some row → slice_get rows b ≡ Some that → by_turn rows a b ≡ true → turn_cmp (turn_of history a) (turn_of history b) ≡ Less
  turns-less a b row that at_a at_b comes =
      let less : turn_cmp (turn_in a (slice_get rows a)) (turn_in b (slice_get rows b)) ≡ Less = is_lt-Less (turn_cmp (turn_in a (slice_get rows a)) (turn_in b (slice_get rows b))) comes in
      let half : turn_cmp (turn_of history a) (turn_in b (slice_get rows b)) ≡ Less = subst (λ (t : Turn). turn_cmp t (turn_in b (slice_get rows b)) ≡ Less) (turn_in-row a row at_a) less in
      subst (λ (t : Turn). turn_cmp (turn_of history a) t ≡ Less) (turn_in-row b that at_b) half

  silences-less : (a b : ℕ) (row that : Row) → slice_get rows a ≡ Some row → slice_get rows b ≡ Some that → by_silence rows a b ≡ true → silence_cmp (silence_of history a) (silence_of history b) ≡ Less
  silences-less a b row that at_a at_b comes =
      let less : silence_cmp (silence_in a (slice_get rows a)) (silence_in b (slice_get rows b)) ≡ Less = is_lt-Less (silence_cmp (silence_in a (slice_get rows a)) (silence_in b (slice_get rows b))) comes in
      let half : silence_cmp (silence_of history a) (silence_in b (slice_get rows b)) ≡ Less = subst (λ (t : Silence). silence_cmp t (silence_in b (slice_get rows b)) ≡ Less) (silence_in-row a row at_a) less in
      subst (λ (t : Silence). silence_cmp (silence_of history a) t ≡ Less) (silence_in-row b that at_b) half

  -- a job of the history has its row
  row-there : (k : ℕ) → k < length rows → (row : Row) × (slice_get rows k ≡ Some row)
  row-there k lt = elim (slice_get_cases rows k).1 [
    | inl (row, within, there, read) ↦ (row, there)
    | inr (past, none) ↦ absurd (omega arith)
  ]

  -- the walk along the waiting jobs of a queue
  module _ (on : QueueName) where
    pub waits : IsListOf (by_turn rows) (λ job. list_at rows job ≡ Some (waiting_list on)) (nodes_of lists (waiting_list on))
    waits = subst (λ (comes : ℕ → ℕ → Bool). IsListOf comes (λ job. list_at rows job ≡ Some (waiting_list on)) (nodes_of lists (waiting_list on))) (comes_in-waiting rows on) (listing.each (waiting_list on))

    pub walk-row : (job : ℕ) → IsWalk (nodes_of lists (waiting_list on)) (IsLate rows now) (Some job) → (row : Row) × ((slice_get rows job ≡ Some row) × (list_in row.state row.queue ≡ Some (waiting_list on)))
    walk-row job walk = row-listed rows job (waiting_list on) (waits.only job (walk-Contains (nodes_of lists (waiting_list on)) (IsLate rows now) job walk))

    due-listed : (job : ℕ) → IsDue history on now job → (row : Row) × ((slice_get rows job ≡ Some row) × ((row.scheduled ≤ now) × Contains (nodes_of lists (waiting_list on)) job))
    due-listed job due =
        let row = row-there job (omega (arith, kept.jobs, due.there)) in
        let is = IsDueRow-from_job kept job row.0 row.1 due in
        (row.0, (row.1, (is.scheduled, waits.all job (waiting-stands rows job row.0 on row.1 is.state is.queue))))

    -- it came to the end
    pub NoneDue-walk : IsWalk (nodes_of lists (waiting_list on)) (IsLate rows now) None → NoneDue history on now
    NoneDue-walk walk = λ job due.
        let row = due-listed job due in
        let late : now < row.0.scheduled = walk-end (nodes_of lists (waiting_list on)) (IsLate rows now) walk job row.1.1.1 row.0 row.1.0 in
        omega (arith, row.1.1.0)

    -- it found a job
    pub IsFirstDue-walk : (job : ℕ) (row : Row) → IsWalk (nodes_of lists (waiting_list on)) (IsLate rows now) (Some job) → slice_get rows job ≡ Some row → row.scheduled ≤ now → IsFirstDue history on now job
    IsFirstDue-walk job row walk here come =
        let listed = walk-row job walk in
        let same : listed.0 ≡ row = same_Some listed.0 row (sym listed.1.0 ∙ here) in
        let stands = waits-in row.state row.queue on (ap (λ (r : Row). list_in r.state r.queue) (sym same) ∙ listed.1.1) in
        record {
          due = IsDue-from_row kept job row here (record { state = stands.0; queue = stands.1; scheduled = come });
          first = λ other due apart.
              let that = due-listed other due in
              let comes : by_turn rows job other ≡ true = walk-first (by_turn rows) (nodes_of lists (waiting_list on)) (IsLate rows now) job waits.in_order walk other that.1.1.1
              (λ (late : IsLate rows now other). let no : now < that.0.scheduled = late that.0 that.1.0 in omega (arith, that.1.1.0)) apart in
              turns-less job other row that.0 here that.1.0 comes;
        }

  -- the first of the running jobs
  stale-listed : (job : ℕ) → IsStale history now job → (row : Row) × ((slice_get rows job ≡ Some row) × Contains (nodes_of lists running_list) job)
  stale-listed job stale =
      let row = row-there job (omega (arith, kept.jobs, stale.there)) in
      let is = IsStaleRow-from_job kept job row.0 row.1 stale in
      (row.0, (row.1, (listing.each running_list).all job (running-stands rows job row.0 row.1 is.state)))

  pub first-row : (job : ℕ) → slice_get (nodes_of lists running_list) 0 ≡ Some job → (row : Row) × ((slice_get rows job ≡ Some row) × (row.state ≡ Running))
  first-row job first =
      let row = row-listed rows job running_list ((listing.each running_list).only job (walk-Contains (nodes_of lists running_list) (λ _. ⊥) job (walk-begin (nodes_of lists running_list) (λ _. ⊥) (Some job) (sym first)))) in
      (row.0, (row.1.0, runs-in row.0.state row.0.queue row.1.1))

  -- no job runs
  pub NoneStale-none : slice_get (nodes_of lists running_list) 0 ≡ None → NoneStale history now
  NoneStale-none none = λ job stale. walk-end (nodes_of lists running_list) (λ _. ⊥) (walk-begin (nodes_of lists running_list) (λ _. ⊥) None (sym none)) job (stale-listed job stale).1.1

  module _ (job : ℕ) (row : Row) (first : slice_get (nodes_of lists running_list) 0 ≡ Some job) (here : slice_get rows job ≡ Some row) where
    first-comes : (other : ℕ) → IsStale history now other → other ≢ job → silence_cmp (silence_of history job) (silence_of history other) ≡ Less
    first-comes other stale apart =
        let that = stale-listed other stale in
        silences-less job other row that.0 here that.1.0 (first-first (by_silence rows) (nodes_of lists running_list) job (listing.each running_list).in_order first other that.1.1 apart)

    -- it is stale
    pub IsFirstStale-first : row.beat + 30000 ≤ now → IsFirstStale history now job
    IsFirstStale-first silent =
        let at = first-row job first in
        let same : at.0 ≡ row = same_Some at.0 row (sym at.1.0 ∙ here) in
        record {
          stale = IsStale-from_row kept job row here (record { state = ap (λ (r : Row). r.state) (sym same) ∙ at.1.1; silent = silent });
          first = first-comes;
        }

    -- it isn't, so no job is
    pub NoneStale-first : (row.beat + 30000 ≤ now → ⊥) → NoneStale history now
    NoneStale-first fresh = λ other stale. elim (cases_eq other job) [
      | inl same ↦ (
          let own : IsStale history now job = subst (λ (k : ℕ). IsStale history now k) same stale in
          fresh (IsStaleRow-from_job kept job row here own).silent)
      | inr apart ↦ (
          let no_later : (facts_of job history).beat ≤ (facts_of other history).beat = silence-beat (silence_of history job) (silence_of history other) (first-comes other stale apart) in
          let beat : row.beat ≡ (facts_of job history).beat = (kept.each job row here).beat in
          fresh (omega (arith, stale.silent)))
    ]
