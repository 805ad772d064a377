-- The list of open upvalues, as upvalues are added and closed.
use Rattle.std.proofs.Common.{ℕ, zero, suc, ◌≡◌, ◌≢◌, ◌+◌, ◌<◌, ◌^◌, inl, inr, List, [], ◌∷◌, ◌++◌, length, set, Option, Some, None, IsSome, false, slice_get, refl, ap, sym, ◌∙◌, subst, arith}
use Rattle.std.specs.Prelude.{is_some}
use Rattle.std.proofs.lemmas.Bool.{cases_eq}
use Rattle.std.proofs.lemmas.List.{length-set, length-map, length_push}
use Rattle.std.proofs.lemmas.Option.{slice_get_past, slice_get_within, none-some}
use Rattle.index_lists.specs.Order.{IsPlaced, IsListOf}
use Rattle.index_lists.specs.Lists.{ListsOf, nodes_of, put_list, without_node, without}
use Rattle.index_lists.proofs.Orders.{nodes_of-without, length-without}
use Rattle.index_lists.proofs.Changed.{SameBut, SameBut-set, SameBut-push, slice_get-set_same, slice_get-push_same}
use Rattle.index_lists.proofs.ListOf.{IsChange, IsListOf-without, IsListOf-other, IsListOf-placed, IsListOf-out, IsListOf-same}
use Rattle.hog_value.specs.Values.{Val}
use Rattle.vm_frames.specs.declared.upvalues.Upvalue.{Upvalue}
use Rattle.vm_frames.specs.declared.upvalues.Upvalue.TheVariants.{Closed}
use Rattle.vm_frames.specs.Order.{open_in, open_at, by_place}
use Rattle.vm_frames.specs.OpenList.{IsOpenBelow, IsOpenList}

none-open : (us : List Upvalue) (n : ℕ) → open_at us n ≡ None → IsSome (open_at us n) → ⊥
none-open us n none is = let no : IsSome {T = ℕ} None = subst (λ (o : Option ℕ). IsSome o) none is in absurd cc

open_at-within : (us : List Upvalue) (n : ℕ) → IsSome (open_at us n) → n < length us
open_at-within [] n is = absurd cc
open_at-within (u ∷ us) zero is = omega arith
open_at-within (u ∷ us) (suc n) is = let lt : n < length us = open_at-within us n is in omega arith

-- the test for none
pub None-from_test : (o : Option ℕ) → is_some o ≡ false → o ≡ None
None-from_test None e = refl
None-from_test (Some p) e = absurd cc

-- the upvalues but one stand and compare as before
change : (n : ℕ) (old new : List Upvalue) → SameBut n old new → IsChange n (by_place old) (by_place new) (λ k. IsSome (open_at old k)) (λ k. IsSome (open_at new k))
change n old new same = record {
  stays = λ k apart is. subst (λ (o : Option Upvalue). IsSome (open_in o)) (sym (same.others k apart)) is;
  stood = λ k apart is. subst (λ (o : Option Upvalue). IsSome (open_in o)) (same.others k apart) is;
  comes = λ a b a_apart b_apart. rw (same.others a a_apart, same.others b b_apart) refl;
}

module _ (us : List Upvalue) (lists : ListsOf) (n : ℕ) (is : IsOpenBelow n us lists) where
  -- the next is closed
  pub IsOpenBelow-shut : open_at us n ≡ None → IsOpenBelow (n + 1) us lists
  IsOpenBelow-shut none = record {
    count = is.count;
    open_list = IsListOf-same (by_place us) (λ k. IsSome (open_at us k) × (k < n)) (λ k. IsSome (open_at us k) × (k < n + 1)) (nodes_of lists 0)
        (λ k s. (s.0, omega (arith, s.1)))
        (λ k s. (s.0, below k s.0 s.1)) is.open_list;
  }
    where
      below : (k : ℕ) → IsSome (open_at us k) → k < n + 1 → k < n
      below k some lt = let apart : k ≢ n = λ (e : k ≡ n). none-open us n none (subst (λ (j : ℕ). IsSome (open_at us j)) e some) in omega arith

  -- the next is open, and its number goes to its place
  pub IsOpenBelow-placed : (lists' : ListsOf) → IsSome (open_at us n) → lists' ≡ put_list lists 0 (nodes_of lists' 0) → IsPlaced (by_place us) n (nodes_of lists 0) (nodes_of lists' 0) → IsOpenBelow (n + 1) us lists'
  IsOpenBelow-placed lists' some put placed = record {
    count = ap (λ (l : ListsOf). length l.lists) put ∙ (length-set lists.lists 0 (nodes_of lists' 0) ∙ is.count);
    open_list = IsListOf-placed n (by_place us) (λ k. IsSome (open_at us k) × (k < n + 1)) (nodes_of lists 0) (nodes_of lists' 0)
        (IsListOf-same (by_place us) (λ k. IsSome (open_at us k) × (k < n)) (λ k. (IsSome (open_at us k) × (k < n + 1)) × (k ≢ n)) (nodes_of lists 0)
        (λ k s. ((s.0, omega (arith, s.1)), λ (e : k ≡ n). omega (arith, s.1)))
        (λ k s. (s.0.0, below k s.0.1 s.1)) is.open_list)
        placed (some, omega arith);
  }
    where
      below : (k : ℕ) → k < n + 1 → k ≢ n → k < n
      below k lt apart = omega arith

  -- of all
  pub IsOpenList-all : n ≡ length us → length us < 2 ^ 32 → ((j k p : ℕ) → open_at us j ≡ Some p → open_at us k ≡ Some p → j ≡ k) → IsOpenList us lists
  IsOpenList-all all few apart = record {
    few = few;
    count = is.count;
    open_list = IsListOf-same (by_place us) (λ k. IsSome (open_at us k) × (k < n)) (λ k. IsSome (open_at us k)) (nodes_of lists 0)
        (λ k s. s.0)
        (λ k s. (s, subst (λ (m : ℕ). k < m) (sym all) (open_at-within us k s))) is.open_list;
    apart = apart;
  }

module _ (us : List Upvalue) (x : Upvalue) where
  pushed-other : (k : ℕ) → k ≢ length us → open_at (us ++ x ∷ []) k ≡ open_at us k
  pushed-other k apart = ap open_in ((SameBut-push us x).others k apart)

  past : open_at us (length us) ≡ None
  past = ap open_in (slice_get_past us (length us) (omega arith))

  -- an upvalue is pushed: those before it stand in the list
  pub IsOpenBelow-pushed : (lists : ListsOf) → IsOpenList us lists → IsOpenBelow (length us) (us ++ x ∷ []) lists
  IsOpenBelow-pushed lists is = record {
    count = is.count;
    open_list = IsListOf-same (by_place (us ++ x ∷ [])) (λ k. IsSome (open_at (us ++ x ∷ []) k) × (k ≢ length us)) (λ k. IsSome (open_at (us ++ x ∷ []) k) × (k < length us)) (nodes_of lists 0)
        (λ k s. (s.0, below k s.0 s.1))
        (λ k s. (s.0, λ (e : k ≡ length us). omega (arith, s.1)))
        (IsListOf-other (length us) (by_place us) (by_place (us ++ x ∷ [])) (λ k. IsSome (open_at us k)) (λ k. IsSome (open_at (us ++ x ∷ []) k)) (nodes_of lists 0)
        (change (length us) us (us ++ x ∷ []) (SameBut-push us x)) (none-open us (length us) past) is.open_list);
  }
    where
      below : (k : ℕ) → IsSome (open_at (us ++ x ∷ []) k) → k ≢ length us → k < length us
      below k some apart = let lt : k < length (us ++ x ∷ []) = open_at-within (us ++ x ∷ []) k some in omega (arith, length_push us x)

  -- its place is no other's
  pub apart-pushed : ((j k p : ℕ) → open_at us j ≡ Some p → open_at us k ≡ Some p → j ≡ k) → ((p k : ℕ) → open_in (Some x) ≡ Some p → open_at us k ≡ Some p → ⊥)
      → (j k p : ℕ) → open_at (us ++ x ∷ []) j ≡ Some p → open_at (us ++ x ∷ []) k ≡ Some p → j ≡ k
  apart-pushed apart none j k p at_j at_k = elim (cases_eq j (length us)) [
    | inl j_last ↦ elim (cases_eq k (length us)) [
      | inl k_last ↦ j_last ∙ sym k_last
      | inr k_apart ↦ absurd (none p k (last j j_last at_j) (sym (pushed-other k k_apart) ∙ at_k))
    ]
    | inr j_apart ↦ elim (cases_eq k (length us)) [
      | inl k_last ↦ absurd (none p j (last k k_last at_k) (sym (pushed-other j j_apart) ∙ at_j))
      | inr k_apart ↦ apart j k p (sym (pushed-other j j_apart) ∙ at_j) (sym (pushed-other k k_apart) ∙ at_k)
    ]
  ]
    where
      last : {p : ℕ} (i : ℕ) → i ≡ length us → open_at (us ++ x ∷ []) i ≡ Some p → open_in (Some x) ≡ Some p
      last i same at = sym (ap open_in (slice_get-push_same us x)) ∙ (ap (open_at (us ++ x ∷ [])) (sym same) ∙ at)

module _ (us : List Upvalue) (n : ℕ) (v : Val) where
  set-other : (k : ℕ) → k ≢ n → open_at (set us n (Closed v)) k ≡ open_at us k
  set-other k apart = ap open_in ((SameBut-set us n (Closed v)).others k apart)

  set-here : n < length us → open_at (set us n (Closed v)) n ≡ None
  set-here lt = ap open_in (slice_get-set_same us n (Closed v) lt)

  -- where an upvalue is written as closed, the others are open as before
  set-was : n < length us → (k p : ℕ) → open_at (set us n (Closed v)) k ≡ Some p → open_at us k ≡ Some p
  set-was lt k p at =
      let apart : k ≢ n = λ (e : k ≡ n). none-some p (sym (set-here lt) ∙ (ap (open_at (set us n (Closed v))) (sym e) ∙ at)) in
      sym (set-other k apart) ∙ at

  IsOpenList-set : (lists lists' : ListsOf) → IsOpenList us lists → n < length us → length lists'.lists ≡ 1
      → IsListOf (by_place (set us n (Closed v))) (λ k. IsSome (open_at (set us n (Closed v)) k) × (k ≢ n)) (nodes_of lists' 0) → IsOpenList (set us n (Closed v)) lists'
  IsOpenList-set lists lists' is lt count list = record {
    few = subst (λ k. k < 2 ^ 32) (sym (length-set us n (Closed v))) is.few;
    count = count;
    open_list = IsListOf-out n (by_place (set us n (Closed v))) (λ k. IsSome (open_at (set us n (Closed v)) k)) (nodes_of lists' 0) list (none-open (set us n (Closed v)) n (set-here lt));
    apart = λ j k p at_j at_k. is.apart j k p (set-was lt j p at_j) (set-was lt k p at_k);
  }

  -- an open upvalue is closed, and its number taken out
  pub IsOpenList-shut : (lists lists' : ListsOf) → IsOpenList us lists → IsSome (open_at us n) → lists' ≡ without_node lists n → IsOpenList (set us n (Closed v)) lists'
  IsOpenList-shut lists lists' is some out = IsOpenList-set lists lists' is (open_at-within us n some)
      (ap (λ (l : ListsOf). length l.lists) out ∙ (length-map lists.lists (without n) ∙ is.count))
      (subst (λ (xs : List ℕ). IsListOf (by_place (set us n (Closed v))) (λ k. IsSome (open_at (set us n (Closed v)) k) × (k ≢ n)) xs)
      (sym (ap (λ (l : ListsOf). nodes_of l 0) out ∙ nodes_of-without lists n 0))
      (IsListOf-without n (by_place us) (by_place (set us n (Closed v))) (λ k. IsSome (open_at us k)) (λ k. IsSome (open_at (set us n (Closed v)) k)) (nodes_of lists 0)
      (change n us (set us n (Closed v)) (SameBut-set us n (Closed v))) is.open_list))

  -- a closed one is set
  pub IsOpenList-closed : (lists : ListsOf) (old : Val) → IsOpenList us lists → slice_get us n ≡ Some (Closed old) → IsOpenList (set us n (Closed v)) lists
  IsOpenList-closed lists old is at = IsOpenList-set lists lists is (slice_get_within us n (Closed old) at) is.count
      (IsListOf-other n (by_place us) (by_place (set us n (Closed v))) (λ k. IsSome (open_at us k)) (λ k. IsSome (open_at (set us n (Closed v)) k)) (nodes_of lists 0)
      (change n us (set us n (Closed v)) (SameBut-set us n (Closed v))) (none-open us n (ap open_in at)) is.open_list)

-- the list is shorter by the number that was taken out
pub shorter : (us : List Upvalue) (n : ℕ) (lists lists' : ListsOf) → IsOpenList us lists → IsSome (open_at us n) → lists' ≡ without_node lists n → length (nodes_of lists' 0) < length (nodes_of lists 0)
shorter us n lists lists' is some out =
    subst (λ (xs : List ℕ). length xs < length (nodes_of lists 0)) (sym (ap (λ (l : ListsOf). nodes_of l 0) out ∙ nodes_of-without lists n 0)) ((length-without n (nodes_of lists 0)).1 (is.open_list.all n some))
