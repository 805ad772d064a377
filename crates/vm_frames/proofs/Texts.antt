-- The texts of a code's operations: those that its slots have.
use Rattle.std.proofs.Common.{◌≡◌, ◌≤◌, ℕ, zero, suc, ◌+◌, ◌<◌, List, [], ◌∷◌, ◌++◌, length, take, get_or, fold, Option, Some, None, Bool, true, false, cond, refl, sym, ap, ap₂, ◌∙◌, subst, arith, append-nil, inl, inr}
use Rattle.std.specs.Prelude.{◌⊎◌, replicate, slice_get, option_and_then, bytes_eq}
use Rattle.std.specs.BTreeSet.{insert_key}
use Rattle.std.specs.Cmp.Lexicographic.{slice_cmp}
use Rattle.std.specs.List.{filter_map, cons_option}
use Rattle.std.specs.Ordering.{nat_cmp, match_ordering, is_eq}
use Rattle.std.specs.declared.cmp.Ordering.{Ordering}
use Rattle.std.specs.declared.cmp.Ordering.TheVariants.{Less, Equal, Greater}
use Rattle.std.proofs.lemmas.Cmp.{nat_list_cmp_total, tied_itself, tied_back}
use Rattle.std.proofs.lemmas.List.{take_more, map-append}
use Rattle.std.proofs.lemmas.List.Elements.{filter_map-append}
use Rattle.std.proofs.lemmas.List.Sums.{fold_push}
use Rattle.std.proofs.lemmas.Map.Text.{is_eq-slice_cmp}
use denote.Ref.{Bor}
use Rattle.hog_ops.specs.Plain.{Op, Ops, NoOp, MoreOp, Callable}
use Rattle.hog_meaning.specs.Meaning.{place_in}
use Rattle.vm_course.specs.State.{Slot, BodyEnds, Operand, op_slots, slots, code_slots}
use Rattle.vm_course.specs.Course.{op_texts, texts}
use Rattle.vm_frames.specs.declared.slots.Slot as r
use Rattle.vm_frames.specs.Places.{slot_of, slots_of, shown}
use Rattle.vm_frames.specs.Reading.{text_in, distinct, AllKnown}

-- ---- the texts of a code are those of its slots

none_in : (n : ℕ) → filter_map text_in (replicate n Operand) ≡ []
none_in zero = refl
none_in (suc n) = none_in n

mutual
  op_texts_in : (o : Op) → filter_map text_in (op_slots o) ≡ op_texts o
  op_texts_in (Callable name params body captures) =
      let behind = 1 + (length captures + length captures) in
      filter_map-append text_in (slots body) (BodyEnds ∷ replicate behind Operand) ∙ ap₂ (λ a b. a ++ b) (texts_in body) (none_in behind) ∙ append-nil (texts body)
  op_texts_in o = refl

  pub texts_in : (os : Ops) → filter_map text_in (slots os) ≡ texts os
  texts_in NoOp = refl
  texts_in (MoreOp o os) = filter_map-append text_in (op_slots o) (slots os) ∙ ap₂ (λ a b. a ++ b) (op_texts_in o) (texts_in os)

pub code_texts : (code : Ops) → filter_map text_in (code_slots code) ≡ texts code
code_texts code = texts_in code

-- ---- there are no more literals than slots

put_length : (ks : List (List ℕ)) (k : List ℕ) → length (insert_key (slice_cmp nat_cmp) ks k) ≤ 1 + length ks
put_length [] k = omega arith
put_length (x ∷ xs) k = by (slice_cmp nat_cmp k x) (put_length xs k)
  where
    by : (o : Ordering) → length (insert_key (slice_cmp nat_cmp) xs k) ≤ 1 + length xs
        → length (match_ordering o (k ∷ x ∷ xs) (x ∷ xs) (x ∷ insert_key (slice_cmp nat_cmp) xs k)) ≤ 1 + length (x ∷ xs)
    by Less h = omega arith
    by Equal h = omega arith
    by Greater h = omega arith

fold_length : (ts ks : List (List ℕ)) → length (fold (insert_key (slice_cmp nat_cmp)) ks ts) ≤ length ks + length ts
fold_length [] ks = omega arith
fold_length (t ∷ ts) ks = omega (arith, fold_length ts (insert_key (slice_cmp nat_cmp) ks t), put_length ks t)

some_length : (ss : List Slot) → length (filter_map text_in ss) ≤ length ss
some_length [] = omega arith
some_length (s ∷ ss) = by (text_in s) (some_length ss)
  where
    by : (o : Option (List ℕ)) → length (filter_map text_in ss) ≤ length ss → length (cons_option o (filter_map text_in ss)) ≤ length (s ∷ ss)
    by None h = omega arith
    by (Some t) h = omega arith

pub distinct_length : (ss : List Slot) → length (distinct (filter_map text_in ss)) ≤ length ss
distinct_length ss = omega (arith, fold_length (filter_map text_in ss) [], some_length ss)

-- ---- each text is one of the literals

pub same_bytes : (a b : List ℕ) → slice_cmp nat_cmp a b ≡ Equal → bytes_eq a b ≡ true
same_bytes a b e = sym (is_eq-slice_cmp a b) ∙ ap is_eq e

here : (l : List ℕ) (ls : List (List ℕ)) (t : List ℕ) → bytes_eq l t ≡ true → place_in (l ∷ ls) t < length (l ∷ ls)
here l ls t e = omega (arith, ap (λ b. cond b 0 (suc (place_in ls t))) e)

behind : (l : List ℕ) (ls : List (List ℕ)) (t : List ℕ) → place_in ls t < length ls → place_in (l ∷ ls) t < length (l ∷ ls)
behind l ls t h = by (bytes_eq l t)
  where
    by : (b : Bool) → cond b 0 (suc (place_in ls t)) < length (l ∷ ls)
    by true = omega arith
    by false = omega arith

either : (l : List ℕ) (ls : List (List ℕ)) (t : List ℕ) → place_in (l ∷ ls) t < length (l ∷ ls) → (bytes_eq l t ≡ true) ⊎ (place_in ls t < length ls)
either l ls t h = by (bytes_eq l t) refl h
  where
    by : (b : Bool) → bytes_eq l t ≡ b → cond b 0 (suc (place_in ls t)) < length (l ∷ ls) → (bytes_eq l t ≡ true) ⊎ (place_in ls t < length ls)
    by true e h = inl e
    by false e h = inr (omega arith)

-- one that was put there
put_there : (ks : List (List ℕ)) (k : List ℕ) → place_in (insert_key (slice_cmp nat_cmp) ks k) k < length (insert_key (slice_cmp nat_cmp) ks k)
put_there [] k = here k [] k (same_bytes k k (tied_itself nat_list_cmp_total k))
put_there (x ∷ xs) k = by (slice_cmp nat_cmp k x) refl (put_there xs k)
  where
    after : Ordering → List (List ℕ)
    after o = match_ordering o (k ∷ x ∷ xs) (x ∷ xs) (x ∷ insert_key (slice_cmp nat_cmp) xs k)

    by : (o : Ordering) → slice_cmp nat_cmp k x ≡ o → place_in (insert_key (slice_cmp nat_cmp) xs k) k < length (insert_key (slice_cmp nat_cmp) xs k)
        → place_in (match_ordering o (k ∷ x ∷ xs) (x ∷ xs) (x ∷ insert_key (slice_cmp nat_cmp) xs k)) k < length (match_ordering o (k ∷ x ∷ xs) (x ∷ xs) (x ∷ insert_key (slice_cmp nat_cmp) xs k))
    by Less e h = here k (x ∷ xs) k (same_bytes k k (tied_itself nat_list_cmp_total k))
    by Equal e h = here x xs k (same_bytes x k (tied_back nat_list_cmp_total k x e))
    by Greater e h = behind x (insert_key (slice_cmp nat_cmp) xs k) k h

-- and those that were there
stay_there : (ks : List (List ℕ)) (k t : List ℕ) → place_in ks t < length ks → place_in (insert_key (slice_cmp nat_cmp) ks k) t < length (insert_key (slice_cmp nat_cmp) ks k)
stay_there [] k t h = absurd (omega arith)
stay_there (x ∷ xs) k t h = by (slice_cmp nat_cmp k x) (stay_there xs k t)
  where
    by : (o : Ordering) → (place_in xs t < length xs → place_in (insert_key (slice_cmp nat_cmp) xs k) t < length (insert_key (slice_cmp nat_cmp) xs k))
        → place_in (match_ordering o (k ∷ x ∷ xs) (x ∷ xs) (x ∷ insert_key (slice_cmp nat_cmp) xs k)) t < length (match_ordering o (k ∷ x ∷ xs) (x ∷ xs) (x ∷ insert_key (slice_cmp nat_cmp) xs k))
    by Less f = behind k (x ∷ xs) t h
    by Equal f = h
    by Greater f =
        elim (either x xs t h) [
          | inl e ↦ here x (insert_key (slice_cmp nat_cmp) xs k) t e
          | inr g ↦ behind x (insert_key (slice_cmp nat_cmp) xs k) t (f g)
        ]

all_stay : (ts ks : List (List ℕ)) (t : List ℕ) → place_in ks t < length ks → place_in (fold (insert_key (slice_cmp nat_cmp)) ks ts) t < length (fold (insert_key (slice_cmp nat_cmp)) ks ts)
all_stay [] ks t h = h
all_stay (u ∷ ts) ks t h = all_stay ts (insert_key (slice_cmp nat_cmp) ks u) t (stay_there ks u t h)

known_from : (ss : List Slot) (ks : List (List ℕ)) (p : ℕ) (t : List ℕ) → option_and_then text_in (slice_get ss p) ≡ Some t
    → place_in (fold (insert_key (slice_cmp nat_cmp)) ks (filter_map text_in ss)) t < length (fold (insert_key (slice_cmp nat_cmp)) ks (filter_map text_in ss))
known_from [] ks p t e = absurd cc
known_from (s ∷ ss) ks zero t e =
    let P : Option (List ℕ) → Type 0 = λ o. place_in (fold (insert_key (slice_cmp nat_cmp)) ks (cons_option o (filter_map text_in ss))) t < length (fold (insert_key (slice_cmp nat_cmp)) ks (cons_option o (filter_map text_in ss))) in
    subst P (sym e) (all_stay (filter_map text_in ss) (insert_key (slice_cmp nat_cmp) ks t) t (put_there ks t))
known_from (s ∷ ss) ks (suc p) t e = by (text_in s) (λ us. known_from ss us p t e)
  where
    by : (o : Option (List ℕ)) → ((us : List (List ℕ)) → place_in (fold (insert_key (slice_cmp nat_cmp)) us (filter_map text_in ss)) t < length (fold (insert_key (slice_cmp nat_cmp)) us (filter_map text_in ss)))
        → place_in (fold (insert_key (slice_cmp nat_cmp)) ks (cons_option o (filter_map text_in ss))) t < length (fold (insert_key (slice_cmp nat_cmp)) ks (cons_option o (filter_map text_in ss)))
    by None f = f ks
    by (Some u) f = f (insert_key (slice_cmp nat_cmp) ks u)

pub all_known : (ss : List Slot) → AllKnown (distinct (filter_map text_in ss)) ss
all_known ss p t e = known_from ss [] p t e

-- ---- the set of the texts of borrowed operations

insert-shown : (ks : List (Bor (List ℕ))) (k : Bor (List ℕ)) → shown (insert_key (λ a b. slice_cmp nat_cmp a.now b.now) ks k) ≡ insert_key (slice_cmp nat_cmp) (shown ks) k.now
insert-shown [] k = refl
insert-shown (x ∷ ks) k = by (slice_cmp nat_cmp k.now x.now) (insert-shown ks k)
  where
    by : (o : Ordering) → shown (insert_key (λ a b. slice_cmp nat_cmp a.now b.now) ks k) ≡ insert_key (slice_cmp nat_cmp) (shown ks) k.now
        → shown (match_ordering o (k ∷ x ∷ ks) (x ∷ ks) (x ∷ insert_key (λ a b. slice_cmp nat_cmp a.now b.now) ks k))
        ≡ match_ordering o (k.now ∷ x.now ∷ shown ks) (x.now ∷ shown ks) (x.now ∷ insert_key (slice_cmp nat_cmp) (shown ks) k.now)
    by Less rest = refl
    by Equal rest = refl
    by Greater rest = ap (λ r. x.now ∷ r) rest

-- one more place
module _ (xs : List r.Slot) (i : ℕ) (x : r.Slot) (lt : i < length xs) (is : x ≡ get_or xs i x) where
  texts_taken : filter_map text_in (slots_of (take (i + 1) xs)) ≡ filter_map text_in (slots_of (take i xs)) ++ filter_map text_in (slot_of x ∷ [])
  texts_taken =
      ap (λ ys. filter_map text_in (slots_of ys)) (take_more xs i x lt ∙ ap (λ y. take i xs ++ y ∷ []) (sym is))
      ∙ ap (filter_map text_in) (map-append slot_of (take i xs) (x ∷ []))
      ∙ filter_map-append text_in (slots_of (take i xs)) (slot_of x ∷ [])

  module _ (ks : List (Bor (List ℕ))) (collected : shown ks ≡ distinct (filter_map text_in (slots_of (take i xs)))) where
    pub collected_none : text_in (slot_of x) ≡ None → shown ks ≡ distinct (filter_map text_in (slots_of (take (i + 1) xs)))
    collected_none none =
        collected
        ∙ ap distinct (sym (append-nil (filter_map text_in (slots_of (take i xs)))) ∙ ap (λ o. filter_map text_in (slots_of (take i xs)) ++ cons_option o []) (sym none) ∙ sym texts_taken)

    pub collected_some : (k : Bor (List ℕ)) → text_in (slot_of x) ≡ Some k.now → shown (insert_key (λ a b. slice_cmp nat_cmp a.now b.now) ks k) ≡ distinct (filter_map text_in (slots_of (take (i + 1) xs)))
    collected_some k some =
        insert-shown ks k ∙ ap (λ ts. insert_key (slice_cmp nat_cmp) ts k.now) collected
        ∙ sym (fold_push (insert_key (slice_cmp nat_cmp)) [] (filter_map text_in (slots_of (take i xs))) k.now)
        ∙ ap distinct (ap (λ o. filter_map text_in (slots_of (take i xs)) ++ cons_option o []) (sym some) ∙ sym texts_taken)
