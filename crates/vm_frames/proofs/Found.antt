-- What walks along the list of open upvalues find.
use Rattle.std.proofs.Common.{ℕ, ◌≡◌, ◌≢◌, ◌<◌, ◌≤◌, inl, inr, true, List, Contains, Option, Some, None, IsSome, slice_get, refl, ap, sym, ◌∙◌, subst, arith}
use Rattle.std.specs.Ordering.{nat_cmp, ordering_then, MatchOrdering}
use Rattle.std.specs.declared.cmp.Ordering.{Ordering}
use Rattle.std.specs.declared.cmp.Ordering.TheVariants.{Less, Equal, Greater}
use Rattle.std.proofs.lemmas.Bool.{cases_eq}
use Rattle.std.proofs.lemmas.Cmp.{ranked}
use Rattle.std.proofs.lemmas.Option.{same_Some}
use Rattle.index_lists.specs.Lists.{ListsOf, nodes_of}
use Rattle.index_lists.proofs.Walk.{IsWalk, walk-begin, walk-end, walk-first, first-first}
use Rattle.vm_frames.specs.declared.upvalues.Upvalue.{Upvalue}
use Rattle.vm_frames.specs.Order.{open_at, key_of, key_cmp, by_place, is_lt-Less}
use Rattle.vm_frames.specs.OpenList.{IsOpenList}

-- an upvalue that comes first is open at a place as great or greater
by_place-places : (us : List Upvalue) (a b p q : ℕ) → by_place us a b ≡ true → open_at us a ≡ Some p → open_at us b ≡ Some q → q ≤ p
by_place-places us a b p q is at_a at_b =
    let less : key_cmp (key_of a (open_at us a)) (key_of b (open_at us b)) ≡ Less = is_lt-Less (key_cmp (key_of a (open_at us a)) (key_of b (open_at us b))) is in
    let here : key_cmp (key_of a (Some p)) (key_of b (Some q)) ≡ Less = rw (at_a, at_b) at less in
    by_cases (nat_cmp q p) (nat_cmp a b) (ranked q p (nat_cmp q p) refl) here where
      by_cases : {q p : ℕ} (o r : Ordering) → MatchOrdering o (q < p) (q ≡ p) (p < q) → ordering_then o r ≡ Less → q ≤ p
      by_cases Less r lt e = omega arith
      by_cases Equal r same e = omega arith
      by_cases Greater r gt e = absurd cc

-- the upvalue with that number is not open, or open above the place
abbrev pub IsAbove : List Upvalue → ℕ → ℕ → Type 0
IsAbove us place k = (p : ℕ) → open_at us k ≡ Some p → place < p

pub is_open : (us : List Upvalue) (k p : ℕ) → open_at us k ≡ Some p → IsSome (open_at us k)
is_open us k p at = subst (λ (o : Option ℕ). IsSome o) (sym at) refl

module _ (us : List Upvalue) (lists : ListsOf) (is : IsOpenList us lists) where
  -- an upvalue of the list is open
  pub open-listed : (k : ℕ) → Contains (nodes_of lists 0) k → open_at us k ≡ None → ⊥
  open-listed k here none = let no : IsSome {T = ℕ} None = subst (λ (o : Option ℕ). IsSome o) none (is.open_list.only k here) in absurd cc

  pub none-at_end : (place : ℕ) → IsWalk (nodes_of lists 0) (IsAbove us place) None → (k : ℕ) → open_at us k ≢ Some place
  none-at_end place walk k = λ (at : open_at us k ≡ Some place). let above : place < place = walk-end (nodes_of lists 0) (IsAbove us place) walk k (is.open_list.all k (is_open us k place at)) place at in omega arith

  pub none-behind : (place n p : ℕ) → IsWalk (nodes_of lists 0) (IsAbove us place) (Some n) → open_at us n ≡ Some p → p < place → (k : ℕ) → open_at us k ≢ Some place
  none-behind place n p walk here lt k = λ (at : open_at us k ≡ Some place).
      let apart : k ≢ n = λ (e : k ≡ n). (let same : place ≡ p = same_Some place p (sym at ∙ (ap (open_at us) e ∙ here)) in omega arith) in
      let comes : by_place us n k ≡ true = walk-first (by_place us) (nodes_of lists 0) (IsAbove us place) n is.open_list.in_order walk k (is.open_list.all k (is_open us k place at))
      (λ (above : IsAbove us place k). let no : place < place = above place at in omega arith) apart in
      let le : place ≤ p = by_place-places us n k p place comes here at in omega arith

  -- where the first is open below a place, all are
  pub below-first : (place n p : ℕ) → slice_get (nodes_of lists 0) 0 ≡ Some n → open_at us n ≡ Some p → p < place → (k q : ℕ) → open_at us k ≡ Some q → q < place
  below-first place n p first here lt k q at = elim (cases_eq k n) [
    | inl same ↦ let e : q ≡ p = same_Some q p (sym at ∙ (ap (open_at us) same ∙ here)) in omega arith
    | inr apart ↦ let comes : by_place us n k ≡ true = first-first (by_place us) (nodes_of lists 0) n is.open_list.in_order first k (is.open_list.all k (is_open us k q at)) apart in
        let le : q ≤ p = by_place-places us n k p q comes here at in omega arith
  ]

  pub none-first : slice_get (nodes_of lists 0) 0 ≡ None → (k q : ℕ) → open_at us k ≡ Some q → ⊥
  none-first none k q at = walk-end (nodes_of lists 0) (λ _. ⊥) (walk-begin (nodes_of lists 0) (λ _. ⊥) None (sym none)) k (is.open_list.all k (is_open us k q at))
