-- The literal texts of events, one after another.
use Rattle.std.proofs.Common.{◌≡◌, ℕ, zero, suc, ◌+◌, ◌<◌, ◌≤◌, zero-add, suc-add, List, [], ◌∷◌, ◌++◌, length, take, drop, get_or, map, Option, Some, None, refl, sym, ap, ◌∙◌, append_assoc, append-nil, arith}
use Rattle.std.specs.Prelude.{slice_get, option_to_list, sum_by}
use Rattle.std.specs.Option.{option_copied}
use Rattle.std.specs.Slice.{IsGetResult}
use Rattle.std.specs.Ordering.{nat_cmp, match_ordering}
use Rattle.std.specs.declared.cmp.Ordering.{Ordering}
use Rattle.std.specs.declared.cmp.Ordering.TheVariants.{Less, Equal, Greater}
use Rattle.std.specs.Cmp.Lexicographic.{slice_cmp}
use Rattle.std.specs.BTreeSet.{insert_key}
use Rattle.std.proofs.lemmas.List.{map-append, take_more}
use Rattle.std.proofs.lemmas.List.Sums.{sum_by-cons, sum_by_push, fold_push}
use Rattle.std.proofs.lemmas.Option.{slice_get_past, slice_get-get_or}
use denote.Ref.{Bor}
use Rattle.hog_tree.specs.Plain.{Word}
use Rattle.hog_scope.specs.declared.item.Item.{Item}
use Rattle.hog_scope.specs.declared.words.Event as e
use Rattle.hog_scope.specs.Words.{Event, Opens, Closes, Declares, Binds, Reads, Assigns, Calls, Spells}
use Rattle.hog_scope.specs.Events.{event_of}
use Rattle.hog_scope.specs.Literals.{item_count, text_of, texts_of, in_byte_order}

drop-nil : {A : Type 0} (n : ℕ) → drop n (let xs : List A = [] in xs) ≡ []
drop-nil zero = refl
drop-nil (suc n) = refl

slice_get-drop : {A : Type 0} (n i : ℕ) (xs : List A) → slice_get (drop n xs) i ≡ slice_get xs (n + i)
slice_get-drop n i [] = ap (λ ys. slice_get ys i) (drop-nil n)
slice_get-drop zero i (x ∷ xs) = ap (slice_get (x ∷ xs)) (sym (zero-add i))
slice_get-drop (suc n) i (x ∷ xs) = slice_get-drop n i xs ∙ ap (slice_get (x ∷ xs)) (sym (suc-add n i))

-- what `get` finds
pub item_got : {A : Type 0} (xs : List A) (i : ℕ) (r : Option (Bor A)) → IsGetResult xs i i r → option_copied r ≡ slice_get xs i
item_got xs i None h = sym (slice_get_past xs i h.3)
item_got xs i (Some x) h = ap Some h.1 ∙ sym (slice_get-get_or xs i x.now h.3.0)

-- one more event
pub texts-more : (es : List Event) (x : Event) (items : List Item)
    → texts_of (es ++ x ∷ []) items ≡ texts_of es items ++ option_to_list (text_of x (slice_get items (sum_by item_count es)))
texts-more [] x items = append-nil _
texts-more (y ∷ es) x items =
    let first = option_to_list (text_of y (slice_get items 0)) in
    let here : slice_get (drop (item_count y) items) (sum_by item_count es) ≡ slice_get items (sum_by item_count (y ∷ es)) =
    slice_get-drop (item_count y) (sum_by item_count es) items ∙ ap (slice_get items) (sym (sum_by-cons item_count y es)) in
    ap (λ r. first ++ r) (texts-more es x (drop (item_count y) items) ∙ ap (λ i. texts_of es (drop (item_count y) items) ++ option_to_list (text_of x i)) here)
    ∙ sym (append_assoc first (texts_of es (drop (item_count y) items)) (option_to_list (text_of x (slice_get items (sum_by item_count (y ∷ es))))))

-- no event has more than one item
pub item_count-le : (x : Event) → item_count x ≤ 1
item_count-le Opens = omega arith
item_count-le Closes = omega arith
item_count-le (Declares w) = omega arith
item_count-le (Binds w) = omega arith
item_count-le (Reads w) = omega arith
item_count-le (Assigns w) = omega arith
item_count-le (Calls w n) = omega arith
item_count-le (Spells t) = omega arith

-- one more text, or none
pub in_byte_order-none : (ts : List Word) → in_byte_order (ts ++ []) ≡ in_byte_order ts
in_byte_order-none ts = ap in_byte_order (append-nil ts)

pub in_byte_order-some : (ts : List Word) (t : Word) → in_byte_order (ts ++ t ∷ []) ≡ insert_key (slice_cmp nat_cmp) (in_byte_order ts) t
in_byte_order-some ts t = fold_push (insert_key (slice_cmp nat_cmp)) [] ts t

-- a set of borrowed texts is the set of what they show
pub insert-shown : (ks : List (Bor (List ℕ))) (k : Bor (List ℕ)) → map (λ t. t.now) (insert_key (λ a b. slice_cmp nat_cmp a.now b.now) ks k) ≡ insert_key (slice_cmp nat_cmp) (map (λ t. t.now) ks) k.now
insert-shown [] k = refl
insert-shown (x ∷ ks) k = by (slice_cmp nat_cmp k.now x.now) (insert-shown ks k)
  where
    by : (o : Ordering) → map (λ t. t.now) (insert_key (λ a b. slice_cmp nat_cmp a.now b.now) ks k) ≡ insert_key (slice_cmp nat_cmp) (map (λ t. t.now) ks) k.now
        → map (λ t. t.now) (match_ordering o (k ∷ x ∷ ks) (x ∷ ks) (x ∷ insert_key (λ a b. slice_cmp nat_cmp a.now b.now) ks k))
        ≡ match_ordering o (k.now ∷ x.now ∷ map (λ t. t.now) ks) (x.now ∷ map (λ t. t.now) ks) (x.now ∷ insert_key (slice_cmp nat_cmp) (map (λ t. t.now) ks) k.now)
    by Less rest = refl
    by Equal rest = refl
    by Greater rest = ap (λ r. x.now ∷ r) rest

-- one more event of a list, after the first i
module _ (xs : List e.Event) (i : ℕ) (x : e.Event) (lt : i < length xs) (is : x ≡ get_or xs i x) (items : List Item) (next : ℕ)
    (counted : next ≡ sum_by item_count (map event_of (take i xs))) where
  taken : map event_of (take (i + 1) xs) ≡ map event_of (take i xs) ++ event_of x ∷ []
  taken = ap (map event_of) (take_more xs i x lt ∙ ap (λ y. take i xs ++ y ∷ []) (sym is)) ∙ map-append event_of (take i xs) (x ∷ [])

  pub counted_more : next + item_count (event_of x) ≡ sum_by item_count (map event_of (take (i + 1) xs))
  counted_more =
      ap (λ n. n + item_count (event_of x)) counted ∙ sym (sum_by_push item_count (map event_of (take i xs)) (event_of x)) ∙ ap (sum_by item_count) (sym taken)

  -- the literal texts so far, and that of the event
  texts_taken : texts_of (map event_of (take (i + 1) xs)) items
      ≡ texts_of (map event_of (take i xs)) items ++ option_to_list (text_of (event_of x) (slice_get items next))
  texts_taken =
      ap (λ es. texts_of es items) taken ∙ texts-more (map event_of (take i xs)) (event_of x) items
      ∙ ap (λ n. texts_of (map event_of (take i xs)) items ++ option_to_list (text_of (event_of x) (slice_get items n))) (sym counted)

  module _ (ks : List (Bor (List ℕ))) (collected : map (λ t. t.now) ks ≡ in_byte_order (texts_of (map event_of (take i xs)) items)) where
    pub collected_none : text_of (event_of x) (slice_get items next) ≡ None
        → map (λ t. t.now) ks ≡ in_byte_order (texts_of (map event_of (take (i + 1) xs)) items)
    collected_none none =
        collected ∙ sym (in_byte_order-none (texts_of (map event_of (take i xs)) items))
        ∙ ap in_byte_order (ap (λ t. texts_of (map event_of (take i xs)) items ++ option_to_list t) (sym none) ∙ sym texts_taken)

    pub collected_some : (k : Bor (List ℕ)) → text_of (event_of x) (slice_get items next) ≡ Some k.now
        → map (λ t. t.now) (insert_key (λ a b. slice_cmp nat_cmp a.now b.now) ks k) ≡ in_byte_order (texts_of (map event_of (take (i + 1) xs)) items)
    collected_some k some =
        insert-shown ks k ∙ ap (λ ts. insert_key (slice_cmp nat_cmp) ts k.now) collected
        ∙ sym (in_byte_order-some (texts_of (map event_of (take i xs)) items) k.now)
        ∙ ap in_byte_order (ap (λ t. texts_of (map event_of (take i xs)) items ++ option_to_list t) (sym some) ∙ sym texts_taken)
