-- The rows that the tests of a call find, before and after its queue is opened.
use Rattle.std.proofs.Common.{◌≡◌, ◌≢◌, ℕ, ◌+◌, ◌<◌, ◌≤◌, ◌++◌, ◌∷◌, [], Bool, set, inl, inr, List, length, get_or, refl, ap, sym, ◌∙◌, subst, arith, Some, None, Option, MatchOption, IfSome, slice_get, is_some}
use Rattle.std.proofs.lemmas.Option.{slice_get_read, slice_get_cases, same_Some}
use Rattle.lock_ids.specs.declared.lock.LockId.{LockId}
use Rattle.cyclotron_jobs.specs.declared.input.JobInput.{JobInput}
use Rattle.cyclotron_jobs.specs.declared.input.Reply.{Reply}
use Rattle.cyclotron_jobs.specs.declared.row.Row.{Row}
use Rattle.cyclotron_jobs.specs.declared.row.QueueName.{QueueName}
use Rattle.cyclotron_jobs.specs.declared.row.JobState.{JobState}
use Rattle.cyclotron_jobs.specs.declared.row.JobState.TheVariants.{Available, Running}
use Rattle.cyclotron_jobs.specs.declared.entry.Entry.{Entry}
use Rattle.cyclotron_jobs.specs.declared.entry.Entry.TheVariants.{Taken}
use Rattle.cyclotron_jobs.specs.Leases.{LeaseOf}
use Rattle.queue_history.specs.Rules.{InputRule, CourseRule, ReplyRule}
use Rattle.queue_history.specs.Facts.{facts_of, state_of, jobs_of, takes_of}
use Rattle.queue_history.specs.Due.{IsFirstDue, NoneDue, IsFirstStale, NoneStale}
use Rattle.queue_history.specs.Rows.{IsKept}
use Rattle.cyclotron_core.specs.Queue.{QueueOf}
use Rattle.job_keeper.specs.Held.{PutsRow}
use Rattle.index_lists.specs.Lists.{ListsOf}
use Rattle.cyclotron_core.specs.Listing.{list_of, list_in, waiting_list, running_list, IsListing, IsListingBefore}
use Rattle.cyclotron_core.specs.Changes.{HasState, IsLeaseAt, IsTake, lease_of, row_after_take}
use Rattle.cyclotron_core.specs.Refusals.{IsOwner, IsOwnedBy, BeganAt, Finds}

module _ {takes : InputRule} {on_course : CourseRule} {reply_ok : ReplyRule} {rows : List Row} {history : List Entry} (kept : IsKept takes on_course reply_ok rows history) where
  -- the lock of a row is its job's owner
  pub IsOwner-from_row : {lock : LockId} {at : ℕ} → Finds rows lock at → IsOwner history lock
  IsOwner-from_row {lock} {at} finds = record {
    there = omega (arith, kept.jobs, finds.within, finds.job);
    owner = subst (λ (j : ℕ). (facts_of j history).owner ≡ Some lock) finds.job (sym (kept.each at finds.row finds.there).lock ∙ finds.live);
  }

  -- a row with another lock
  pub IsOwnedBy-from_row : {lock : LockId} (row : Row) → lock.job < length rows → row ≡ get_or rows lock.job row → row.lock ≢ Some lock → IsOwnedBy history lock row.lock
  IsOwnedBy-from_row {lock} row within is other = record {
    there = omega (arith, kept.jobs);
    owner = sym (kept.each lock.job row (slice_get_read rows (length rows) lock.job row refl within is)).lock;
    other = other;
  }

  -- a job in this state has a row in this state
  HasState-from_job : (is : JobState) (k : ℕ) → k < jobs_of history → state_of (facts_of k history) ≡ is → HasState rows is k
  HasState-from_job is k lt state =
      let within : k < length rows = omega (arith, kept.jobs) in
      elim (slice_get_cases rows k).1 [
        | inl (row, lt, there, read) ↦ record {
          within = within;
          few = omega (arith, kept.few);
          row = row;
          there = there;
          state = (kept.each k row there).state ∙ state;
        }
        | inr (past, none) ↦ absurd (omega arith)
      ]

  pub HasState-due : (on : QueueName) (now : ℕ) (best : Option ℕ) → MatchOption best (NoneDue history on now) (IsFirstDue history on now) → IfSome best (HasState rows Available)
  HasState-due on now None is = tt
  HasState-due on now (Some k) is = HasState-from_job Available k is.due.there is.due.state

  pub HasState-stale : (now : ℕ) (best : Option ℕ) → MatchOption best (NoneStale history now) (IsFirstStale history now) → IfSome best (HasState rows Running)
  HasState-stale now None is = tt
  HasState-stale now (Some k) is = HasState-from_job Running k is.stale.there is.stale.state

pub Finds-from_row : {rows : List Row} {lock : LockId} (row : Row) → lock.job < length rows → row ≡ get_or rows lock.job row → row.lock ≡ Some lock → Finds rows lock lock.job
Finds-from_row {rows} {lock} row within is live = record {
  job = refl;
  within = within;
  row = row;
  there = slice_get_read rows (length rows) lock.job row refl within is;
  live = live;
}

-- the row with that state is the one that is read at its place
pub HasState-read : {rows : List Row} {is : JobState} {at : ℕ} → HasState rows is at → (old : Row) → old ≡ get_or rows at old → (slice_get rows at ≡ Some old) × (old.state ≡ is)
HasState-read {rows} {is} {at} has old read =
    let here : slice_get rows at ≡ Some old = slice_get_read rows (length rows) at old refl has.within read in
    let same : has.row ≡ old = same_Some has.row old (sym has.there ∙ here) in
    (here, sym (ap (λ r. r.state) same) ∙ has.state)

-- the row of a live lock stands at its place
pub record IsLiveRow (rows : List Row) (history : List Entry) (lock : LockId) (at : ℕ) (row : Row) : Type 0 where
  pub place : at ≡ lock.job
  pub within : at < length rows
  pub read : slice_get rows at ≡ Some row
  pub there : slice_get rows lock.job ≡ Some row
  pub locked : row.lock ≡ Some lock
  pub owner : (facts_of lock.job history).owner ≡ Some lock

-- a row was written that stood in a list
pub IsListingBefore-set : {rows seen : List Row} {lists : ListsOf} {job list : ℕ} {old : Row} (new : Row) → IsListing rows lists → slice_get rows job ≡ Some old → list_in old.state old.queue ≡ Some list
    → seen ≡ set rows job new → IsListingBefore job seen lists
IsListingBefore-set {rows} {job = job} {list} new listing here stood written = record {
  old = rows;
  row = new;
  written = written;
  listing = listing;
  list = list;
  stood = ap list_of here ∙ stood;
}

-- an available job was taken
pub IsListingBefore-available : {rows seen : List Row} {lists : ListsOf} {job : ℕ} {old : Row} (new : Row) → IsListing rows lists → slice_get rows job ≡ Some old → old.state ≡ Available
    → seen ≡ set rows job new → IsListingBefore job seen lists
IsListingBefore-available {old = old} new listing here state written = let stood : list_in old.state old.queue ≡ Some (waiting_list old.queue) = rw state refl in IsListingBefore-set new listing here stood written

-- a running job was changed
pub IsListingBefore-running : {rows seen : List Row} {lists : ListsOf} {job : ℕ} {old : Row} (new : Row) → IsListing rows lists → slice_get rows job ≡ Some old → old.state ≡ Running
    → seen ≡ set rows job new → IsListingBefore job seen lists
IsListingBefore-running {old = old} new listing here state written = let stood : list_in old.state old.queue ≡ Some running_list = rw state refl in IsListingBefore-set new listing here stood written

-- the owner of a job changed it
pub IsListingBefore-live : {takes : InputRule} {on_course : CourseRule} {reply_ok : ReplyRule} {rows seen : List Row} {history : List Entry} {lists : ListsOf} {lock : LockId} {at : ℕ} {old : Row} (new : Row)
    → IsKept takes on_course reply_ok rows history → IsListing rows lists → IsLiveRow rows history lock at old → seen ≡ set rows at new → IsListingBefore lock.job seen lists
IsListingBefore-live {rows = rows} {lock = lock} {old = old} new kept listing live written =
    IsListingBefore-running new listing live.there (kept.locked lock.job old live.there (ap is_some live.locked)) (written ∙ ap (λ (k : ℕ). set rows k new) live.place)

-- what is known of a queue is known of its parts
module _ {K : Type 0} {a b : QueueOf K} (same : a ≡ b) where
  -- the row of a live lock
  pub IsLiveRow-from : {lock : LockId} {at : ℕ} → Finds b.rows lock at → IsOwner b.history lock → (old : Row) → old ≡ get_or a.rows at old → IsLiveRow a.rows a.history lock at old
  IsLiveRow-from {lock} {at} found owned old is =
      let finds : Finds a.rows lock at = rw same found in
      let owner : IsOwner a.history lock = rw same owned in
      let here : slice_get a.rows at ≡ Some old = slice_get_read a.rows (length a.rows) at old refl finds.within is in
      let row : finds.row ≡ old = same_Some finds.row old (sym finds.there ∙ here) in
      record {
        place = finds.job;
        within = finds.within;
        read = here;
        there = subst (λ (k : ℕ). slice_get a.rows k ≡ Some old) finds.job here;
        locked = subst (λ (r : Row). r.lock ≡ Some lock) row finds.live;
        owner = owner.owner;
      }

  pub BeganAt-inside : (job : ℕ) {input : JobInput} {sent : List Reply} {from : ℕ} {old : Row} → BeganAt b.rows job input sent from → slice_get a.rows job ≡ Some old
      → (input ≡ old.input) × (sent ≡ old.replies) × (from ≡ old.ops)
  BeganAt-inside job {old = old} began at =
      let here : slice_get b.rows job ≡ Some old = subst (λ (q : QueueOf K). slice_get q.rows job ≡ Some old) same at in
      let is : began.row ≡ old = same_Some began.row old (sym began.there ∙ here) in
      (began.same_input ∙ ap (λ r. r.input) is, began.same_replies ∙ ap (λ r. r.replies) is, began.same_ops ∙ ap (λ r. r.ops) is)

  pub HasState-inside : {is : JobState} {at : ℕ} → HasState b.rows is at → HasState a.rows is at
  HasState-inside has = rw same has

  pub IsFirstDue-inside : {on : QueueName} {now at : ℕ} → IsFirstDue b.history on now at → IsFirstDue a.history on now at
  IsFirstDue-inside first = rw same first

  pub IsFirstStale-inside : {now at : ℕ} → IsFirstStale b.history now at → IsFirstStale a.history now at
  IsFirstStale-inside first = rw same first

  pub IsLeaseAt-inside : {at : ℕ} {lock : LockId} {lease : LeaseOf} → IsLeaseAt b.rows at lock lease → IsLeaseAt a.rows at lock lease
  IsLeaseAt-inside is = rw same is

-- the lease of a row that was taken under a new draw
pub IsTake-from : {K : Type 0} {tells : Bool} {held : K → ℕ → Option Row} {old new : QueueOf K} {on : QueueName} {now at draw : ℕ} {lease : LeaseOf}
    → IsLeaseAt old.rows at (record { job = at; draw = draw }) lease → draw ≡ takes_of old.history + 1 → IsFirstDue old.history on now at
    → (before : Row) → slice_get old.rows at ≡ Some before
    → new.rows ≡ set old.rows at (row_after_take (record { job = at; draw = draw }) now before)
    → new.history ≡ old.history ++ Taken at on (record { job = at; draw = draw }) now ∷ []
    → PutsRow tells (held old.keeper) (held new.keeper) (row_after_take (record { job = at; draw = draw }) now before)
    → old.spare ≤ new.spare + 1
    → IsTake tells held old new on now lease
IsTake-from {tells = tells} {held} {old} {new} {on} {now} {at} {draw} is drawn first before there rows history told spare =
    subst (λ (l : LeaseOf). IsTake tells held old new on now l) (sym is.copied) record {
      first = first;
      draw = drawn;
      step = record { before = before; there = there; rows = rows; history = history; told = told; spare = spare };
      copied = ap (lease_of (record { job = at; draw = draw })) (same_Some is.row before (sym is.there ∙ there));
    }
