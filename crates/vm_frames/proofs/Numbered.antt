-- The numbers of texts among literals.
use Rattle.std.proofs.Common.{◌≡◌, ◌≤◌, ℕ, zero, suc, ◌+◌, ◌<◌, List, [], ◌∷◌, ◌++◌, length, take, get_or, Some, Err, Bool, true, false, cond, refl, sym, ap, ◌∙◌, arith}
use Rattle.std.specs.Prelude.{slice_get, bytes_eq}
use Rattle.std.specs.Cmp.Lexicographic.{slice_cmp}
use Rattle.std.specs.List.Sorted.{IsSortedBy, IsBinarySearchResult, IsPartitionPoint}
use Rattle.std.specs.Ordering.{nat_cmp, is_eq, is_lt, ordering_reverse}
use Rattle.std.specs.declared.cmp.Ordering.{Ordering}
use Rattle.std.specs.declared.cmp.Ordering.TheVariants.{Less, Equal, Greater}
use Rattle.std.proofs.lemmas.Cmp.{nat_list_cmp_total, alike_right}
use Rattle.std.proofs.lemmas.List.{take_more, map-append}
use Rattle.std.proofs.lemmas.List.Sorted.{searchable_from_sorted}
use Rattle.std.proofs.lemmas.Map.Keys.{Less-from_sorted, sorted_tail}
use Rattle.std.proofs.lemmas.Map.Text.{is_eq-slice_cmp}
use denote.Ref.{Bor}
use Rattle.hog_meaning.specs.Meaning.{place_in}
use Rattle.vm_frames.specs.declared.slots.Slot as r
use Rattle.vm_frames.specs.Places.{slot_of, slots_of, shown, AreInOrder}
use Rattle.vm_frames.specs.declared.extents.Extent.{Extent}
use Rattle.vm_frames.specs.Reading.{extent_of, extents_of}

-- ---- what a binary search finds

-- the text at a place that compares equal has that place as its number
pub found_number : (ls : List (Bor (List ℕ))) (i : ℕ) (d : Bor (List ℕ)) (t : List ℕ) → AreInOrder ls → i < length ls → slice_cmp nat_cmp (get_or ls i d).now t ≡ Equal → i ≡ place_in (shown ls) t
found_number [] i d t up lt e = absurd (omega arith)
found_number (l ∷ ls) zero d t up lt e =
    let same : bytes_eq l.now t ≡ true = sym (is_eq-slice_cmp l.now t) ∙ ap is_eq e in
    sym (ap (λ b. cond b 0 (suc (place_in (shown ls) t))) same)
found_number (l ∷ ls) (suc i) d t up lt e =
    let near : 0 < suc i = omega arith in
    let less : slice_cmp nat_cmp l.now (get_or ls i d).now ≡ Less = Less-from_sorted (λ a b. slice_cmp nat_cmp a.now b.now) (l ∷ ls) 0 (suc i) d up near lt in
    let differs : bytes_eq l.now t ≡ false = sym (is_eq-slice_cmp l.now t) ∙ ap is_eq (sym (alike_right nat_list_cmp_total (get_or ls i d).now t l.now e) ∙ less) in
    let inner : i < length ls = omega arith in
    ap suc (found_number ls i d t (sorted_tail (λ a b. slice_cmp nat_cmp a.now b.now) l ls up) inner e)
    ∙ sym (ap (λ b. cond b 0 (suc (place_in (shown ls) t))) differs)

-- at the place of a text stands a text that compares equal
stands_there : (ls : List (Bor (List ℕ))) (d : Bor (List ℕ)) (t : List ℕ) → place_in (shown ls) t < length ls → slice_cmp nat_cmp (get_or ls (place_in (shown ls) t) d).now t ≡ Equal
stands_there [] d t lt = absurd (omega arith)
stands_there (l ∷ ls) d t lt = by (bytes_eq l.now t) refl lt (stands_there ls d t)
  where
    equal : (o : Ordering) → is_eq o ≡ true → o ≡ Equal
    equal Less e = absurd cc
    equal Equal e = refl
    equal Greater e = absurd cc

    by : (b : Bool) → bytes_eq l.now t ≡ b → cond b 0 (suc (place_in (shown ls) t)) < length (l ∷ ls)
        → (place_in (shown ls) t < length ls → slice_cmp nat_cmp (get_or ls (place_in (shown ls) t) d).now t ≡ Equal)
        → slice_cmp nat_cmp (get_or (l ∷ ls) (cond b 0 (suc (place_in (shown ls) t))) d).now t ≡ Equal
    by true e lt f = equal (slice_cmp nat_cmp l.now t) (is_eq-slice_cmp l.now t ∙ e)
    by false e lt f = f (omega arith)

-- texts in order are sorted
sorted_by : (ls : List (Bor (List ℕ))) → AreInOrder ls → IsSortedBy (λ a b. is_lt (slice_cmp nat_cmp a.now b.now)) ls
sorted_by ls up = λ k d low next.
    let step : k < k + 1 = omega arith in
    let less : slice_cmp nat_cmp (get_or ls k d).now (get_or ls (k + 1) d).now ≡ Less = Less-from_sorted (λ a b. slice_cmp nat_cmp a.now b.now) ls k (k + 1) d up step next in
    let back : slice_cmp nat_cmp (get_or ls (k + 1) d).now (get_or ls k d).now ≡ Greater = nat_list_cmp_total.antisymm (get_or ls (k + 1) d).now (get_or ls k d).now ∙ ap ordering_reverse less in
    ap is_lt back

-- a text that is there is found
pub found_some : (ls : List (Bor (List ℕ))) (t : List ℕ) (i : ℕ) → AreInOrder ls → place_in (shown ls) t < length ls → IsBinarySearchResult (λ y. slice_cmp nat_cmp y.now t) ls (Err i) → ⊥
found_some ls t i up lt result =
    let d : Bor (List ℕ) = record { ref_ptr = (0, 0); now = [] } in
    let same : slice_cmp nat_cmp (get_or ls (place_in (shown ls) t) d).now t ≡ Equal = stands_there ls d t lt in
    let point : IsPartitionPoint (λ y. slice_cmp nat_cmp y.now t ≡ Less) (λ y. slice_cmp nat_cmp y.now t ≡ Greater) ls i =
    result (searchable_from_sorted nat_list_cmp_total (λ b. b.now) ls t (sorted_by ls up)) in
    let no_less : Less ≡ Equal → ⊥ = λ e. cc in
    let no_greater : Greater ≡ Equal → ⊥ = λ e. cc in
    let low : place_in (shown ls) t < i → ⊥ = λ h. no_less (sym (point.0 (place_in (shown ls) t) d (omega arith) h) ∙ same) in
    let high : i ≤ place_in (shown ls) t → ⊥ = λ h. no_greater (sym (point.1 (place_in (shown ls) t) d h lt) ∙ same) in
    absurd (omega (arith, low, high))

-- ---- one more place

module _ (xs : List r.Slot) (i : ℕ) (x : r.Slot) (lt : i < length xs) (is : x ≡ get_or xs i x) where
  taken : slots_of (take (i + 1) xs) ≡ slots_of (take i xs) ++ slot_of x ∷ []
  taken = ap slots_of (take_more xs i x lt ∙ ap (λ y. take i xs ++ y ∷ []) (sym is)) ∙ map-append slot_of (take i xs) (x ∷ [])

  pub slot_there : slice_get (slots_of xs) i ≡ Some (slot_of x)
  slot_there = there xs i x lt is
    where
      there : (xs : List r.Slot) (i : ℕ) (x : r.Slot) → i < length xs → x ≡ get_or xs i x → slice_get (slots_of xs) i ≡ Some (slot_of x)
      there [] i x lt is = absurd (omega arith)
      there (y ∷ xs) zero x lt is = ap (λ z. Some (slot_of z)) (sym is)
      there (y ∷ xs) (suc i) x lt is = there xs i x (omega arith) is

  pub extents_more : (ls : List (List ℕ)) (es : List Extent) → es ≡ extents_of ls (slots_of (take i xs)) → es ++ extent_of ls (slot_of x) ∷ [] ≡ extents_of ls (slots_of (take (i + 1) xs))
  extents_more ls es e =
      ap (λ fs. fs ++ extent_of ls (slot_of x) ∷ []) e
      ∙ sym (map-append (extent_of ls) (slots_of (take i xs)) (slot_of x ∷ []))
      ∙ ap (extents_of ls) (sym taken)
