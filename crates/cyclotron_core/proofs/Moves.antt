-- The lists of the jobs, as one row is written or pushed.
use Rattle.std.proofs.Common.{ℕ, zero, suc, ◌≡◌, ◌≢◌, ◌+◌, ◌<◌, ◌==◌, max, replicate, inl, inr, Bool, true, false, List, [], ◌∷◌, ◌++◌, length, Some, None, slice_get, refl, ap, sym, ◌∙◌, subst, arith}
use Rattle.std.proofs.lemmas.Bool.{cases_eq}
use Rattle.std.proofs.lemmas.List.{length-set, length-map, length_push}
use Rattle.std.proofs.lemmas.Option.{slice_get_cases, slice_get_within, slice_get_past, same_Some, none-some}
use Rattle.index_lists.specs.Order.{IsPlaced, IsInOrder, IsListOf}
use Rattle.index_lists.specs.Lists.{ListsOf, nodes_of, IsListed, put_list, without_node, without}
use Rattle.index_lists.proofs.Orders.{nodes_of-put_other, nodes_of-without}
use Rattle.index_lists.proofs.Changed.{SameBut, SameBut-set, SameBut-push}
use Rattle.index_lists.proofs.ListOf.{IsChange, IsListOf-none, IsListOf-without, IsListOf-other, IsListOf-placed, IsListOf-out}
use Rattle.cyclotron_jobs.specs.declared.row.Row.{Row}
use Rattle.cyclotron_jobs.specs.declared.row.QueueName.{QueueName}
use Rattle.cyclotron_jobs.specs.declared.row.QueueName.TheVariants as queue
use Rattle.cyclotron_jobs.specs.declared.row.JobState.TheVariants.{Available, Running, Completed, Failed}
use Rattle.cyclotron_core.specs.Orders.{by_turn}
use Rattle.cyclotron_core.specs.Listing.{waiting_list, running_list, list_in, list_of, list_at, comes_by, comes_in, IsListing, IsListingBut, IsListingBefore}

pub comes_in-waiting : (rows : List Row) (on : QueueName) → comes_in rows (waiting_list on) ≡ by_turn rows
comes_in-waiting rows queue.Hog = refl
comes_in-waiting rows queue.Fetch = refl

pub waiting_list-below : (on : QueueName) → waiting_list on < 3
waiting_list-below queue.Hog = omega arith
waiting_list-below queue.Fetch = omega arith

-- a job that stands in a list has a row that stands there
pub row-listed : (rows : List Row) (k list : ℕ) → list_at rows k ≡ Some list → (row : Row) × ((slice_get rows k ≡ Some row) × (list_in row.state row.queue ≡ Some list))
row-listed rows k list is = elim (slice_get_cases rows k).1 [
  | inl (row, lt, there, read) ↦ (row, (there, sym (ap list_of there) ∙ is))
  | inr (past, none) ↦ absurd (none-some list (sym (ap list_of none) ∙ is))
]

-- where a job with this row stands
pub waiting-stands : (rows : List Row) (k : ℕ) (row : Row) (on : QueueName) → slice_get rows k ≡ Some row → row.state ≡ Available → row.queue ≡ on → list_at rows k ≡ Some (waiting_list on)
waiting-stands rows k row on here state of = ap list_of here ∙ rw (state, of) refl

pub running-stands : (rows : List Row) (k : ℕ) (row : Row) → slice_get rows k ≡ Some row → row.state ≡ Running → list_at rows k ≡ Some running_list
running-stands rows k row here state = ap list_of here ∙ rw state refl

pub completed-stands : (rows : List Row) (k : ℕ) (row : Row) → slice_get rows k ≡ Some row → row.state ≡ Completed → list_at rows k ≡ None
completed-stands rows k row here state = ap list_of here ∙ rw state refl

pub failed-stands : (rows : List Row) (k : ℕ) (row : Row) → slice_get rows k ≡ Some row → row.state ≡ Failed → list_at rows k ≡ None
failed-stands rows k row here state = ap list_of here ∙ rw state refl

-- the jobs but one stand and compare as before
comes_by-same : (runs : Bool) (old new : List Row) (a b : ℕ) → slice_get new a ≡ slice_get old a → slice_get new b ≡ slice_get old b → comes_by runs new a b ≡ comes_by runs old a b
comes_by-same true old new a b at_a at_b = rw (at_a, at_b) refl
comes_by-same false old new a b at_a at_b = rw (at_a, at_b) refl

IsChange-from_rows : (n : ℕ) (old new : List Row) (list : ℕ) → SameBut n old new → IsChange n (comes_in old list) (comes_in new list) (λ k. list_at old k ≡ Some list) (λ k. list_at new k ≡ Some list)
IsChange-from_rows n old new list same = record {
  stays = λ k apart is. ap list_of (same.others k apart) ∙ is;
  stood = λ k apart is. sym (ap list_of (same.others k apart)) ∙ is;
  comes = λ a b a_apart b_apart. comes_by-same (list == running_list) old new a b (same.others a a_apart) (same.others b b_apart);
}

-- a job whose row was written is taken out
pub IsListed-before : (job : ℕ) (rows : List Row) (lists : ListsOf) → IsListingBefore job rows lists → IsListed lists job
IsListed-before job rows lists was = (was.list, (was.listing.each was.list).all job was.stood)

pub IsListingBut-unlinked : (job : ℕ) (rows : List Row) (lists lists' : ListsOf) → IsListingBefore job rows lists → lists' ≡ without_node lists job → IsListingBut job rows lists'
IsListingBut-unlinked job rows lists lists' was out =
    let same : SameBut job was.old rows = subst (λ (rs : List Row). SameBut job was.old rs) (sym was.written) (SameBut-set was.old job was.row) in
    let len : length rows ≡ length was.old = ap length was.written ∙ length-set was.old job was.row in
    let stood = row-listed was.old job was.list was.stood in
    let lt : job < length was.old = slice_get_within was.old job stood.0 stood.1.0 in
    subst (λ (l : ListsOf). IsListingBut job rows l) (sym out) record {
      within = omega (arith, was.listing.reserved);
      there = omega arith;
      count = length-map lists.lists (without job) ∙ was.listing.count;
      each = λ list. subst (λ (xs : List ℕ). IsListOf (comes_in rows list) (λ k. (list_at rows k ≡ Some list) × (k ≢ job)) xs) (sym (nodes_of-without lists job list))
          (IsListOf-without job (comes_in was.old list) (comes_in rows list) (λ k. list_at was.old k ≡ Some list) (λ k. list_at rows k ≡ Some list) (nodes_of lists list)
          (IsChange-from_rows job was.old rows list same) (was.listing.each list));
    }

-- a new job stands in no list yet
pub IsListingBut-pushed : (rows : List Row) (row : Row) (job : ℕ) (lists lists' : ListsOf) → IsListing rows lists → job ≡ length rows → lists' ≡ record { lists = lists.lists; reserved = max lists.reserved (job + 1) }
    → IsListingBut job (rows ++ row ∷ []) lists'
IsListingBut-pushed rows row job lists lists' is number reserved =
    let same : SameBut job rows (rows ++ row ∷ []) = subst (λ (n : ℕ). SameBut n rows (rows ++ row ∷ [])) (sym number) (SameBut-push rows row) in
    let new : (list : ℕ) → list_at rows job ≡ Some list → ⊥ = λ list here. none-some list (sym (ap list_of (slice_get_past rows job (omega arith))) ∙ here) in
    subst (λ (l : ListsOf). IsListingBut job (rows ++ row ∷ []) l) (sym reserved) record {
      within = omega (arith, length_push rows row);
      there = omega (arith, length_push rows row);
      count = is.count;
      each = λ list. IsListOf-other job (comes_in rows list) (comes_in (rows ++ row ∷ []) list) (λ k. list_at rows k ≡ Some list) (λ k. list_at (rows ++ row ∷ []) k ≡ Some list) (nodes_of lists list)
          (IsChange-from_rows job rows (rows ++ row ∷ []) list same) (new list) (is.each list);
    }

module _ (job : ℕ) (rows : List Row) (old : ListsOf) (is : IsListingBut job rows old) where
  -- it stands in no list
  pub IsListingBut-apart : IsListed old job → ⊥
  IsListingBut-apart listed = ((is.each listed.0).only job listed.1).1 refl

  -- it goes into the list of its row
  pub IsListing-placed : (new : ListsOf) (list : ℕ) → new ≡ put_list old list (nodes_of new list) → IsPlaced (comes_in rows list) job (nodes_of old list) (nodes_of new list) → list_at rows job ≡ Some list → IsListing rows new
  IsListing-placed new list put placed here =
      let reserved : new.reserved ≡ old.reserved = ap (λ (l : ListsOf). l.reserved) put in
      record {
        reserved = omega (arith, is.within);
        count = ap (λ (l : ListsOf). length l.lists) put ∙ (length-set old.lists list (nodes_of new list) ∙ is.count);
        each = λ other. elim (cases_eq other list) [
          | inl same ↦ subst (λ (l : ℕ). IsListOf (comes_in rows l) (λ k. list_at rows k ≡ Some l) (nodes_of new l)) (sym same)
              (IsListOf-placed job (comes_in rows list) (λ k. list_at rows k ≡ Some list) (nodes_of old list) (nodes_of new list) (is.each list) placed here)
          | inr apart ↦ subst (λ (xs : List ℕ). IsListOf (comes_in rows other) (λ k. list_at rows k ≡ Some other) xs)
              (sym (ap (λ (l : ListsOf). nodes_of l other) put ∙ nodes_of-put_other old list other (nodes_of new list) apart))
              (IsListOf-out job (comes_in rows other) (λ k. list_at rows k ≡ Some other) (nodes_of old other) (is.each other) (λ (e : list_at rows job ≡ Some other). apart (same_Some other list (sym e ∙ here))))
        ];
      }

  -- an available job
  pub IsInOrder-waiting : (at : ℕ) (on : QueueName) → at ≡ waiting_list on → IsInOrder (by_turn rows) (nodes_of old at)
  IsInOrder-waiting at on same = subst (λ (l : ℕ). IsInOrder (by_turn rows) (nodes_of old l)) (sym same)
      (subst (λ (comes : ℕ → ℕ → Bool). IsInOrder comes (nodes_of old (waiting_list on))) (comes_in-waiting rows on) (is.each (waiting_list on)).in_order)

  pub IsListing-waiting : (new : ListsOf) (at : ℕ) (on : QueueName) → at ≡ waiting_list on → new ≡ put_list old at (nodes_of new at) → IsPlaced (by_turn rows) job (nodes_of old at) (nodes_of new at) → list_at rows job ≡ Some (waiting_list on) → IsListing rows new
  IsListing-waiting new at on same put placed here =
      let there : IsPlaced (by_turn rows) job (nodes_of old (waiting_list on)) (nodes_of new (waiting_list on)) = subst (λ (l : ℕ). IsPlaced (by_turn rows) job (nodes_of old l) (nodes_of new l)) same placed in
      IsListing-placed new (waiting_list on) (subst (λ (l : ℕ). new ≡ put_list old l (nodes_of new l)) same put)
      (subst (λ (comes : ℕ → ℕ → Bool). IsPlaced comes job (nodes_of old (waiting_list on)) (nodes_of new (waiting_list on))) (sym (comes_in-waiting rows on)) there) here

  -- or stays out
  pub IsListing-out : list_at rows job ≡ None → IsListing rows old
  IsListing-out none = record {
    reserved = is.within;
    count = is.count;
    each = λ list. IsListOf-out job (comes_in rows list) (λ k. list_at rows k ≡ Some list) (nodes_of old list) (is.each list) (λ (e : list_at rows job ≡ Some list). none-some list (sym none ∙ e));
  }

-- more nodes are reserved
pub IsListing-reserved : (rows : List Row) (lists lists' : ListsOf) (n : ℕ) → IsListing rows lists → lists' ≡ record { lists = lists.lists; reserved = max lists.reserved n } → IsListing rows lists'
IsListing-reserved rows lists lists' n is reserved = subst (λ (l : ListsOf). IsListing rows l) (sym reserved) record {
  reserved = omega (arith, is.reserved);
  count = is.count;
  each = is.each;
}

-- no jobs
nodes_of-none : (list : ℕ) → nodes_of (record { lists = replicate 3 []; reserved = 0 }) list ≡ []
nodes_of-none zero = refl
nodes_of-none (suc zero) = refl
nodes_of-none (suc (suc zero)) = refl
nodes_of-none (suc (suc (suc list))) = refl

pub IsListing-none : (lists : ListsOf) → lists ≡ record { lists = replicate 3 []; reserved = 0 } → IsListing [] lists
IsListing-none lists is = subst (λ (l : ListsOf). IsListing [] l) (sym is) record {
  reserved = omega arith;
  count = refl;
  each = λ list. subst (λ (xs : List ℕ). IsListOf (comes_in [] list) (λ k. list_at [] k ≡ Some list) xs) (sym (nodes_of-none list)) (IsListOf-none (comes_in [] list) (λ k. list_at [] k ≡ Some list) (λ k e. none-some list e));
}
