-- What the operations on a heap give, for any content F of function cells.
use Rattle.std.specs.Prelude.{ℕ, zero, suc, ◌+◌, ℤ, pos, negsuc, List, [], ◌∷◌, ◌++◌, length, Bool, true, false, not, Option, Some, None, Result, Ok, Err, unwrap_or, is_some, nat_lt, nat_le, ◌==◌, ◌||◌, if◌then◌else◌, slice_get, slice_set, bytes_eq}
use Rattle.std.specs.Bool.{beq}
use Rattle.std.specs.Ordering.{int_eq}
use Rattle.std.specs.Map.{lookup}
use Rattle.indexmap.specs.IndexMap.{insert_entry}
use Rattle.hog_value.specs.declared.value.Kind.{Kind}
use Rattle.hog_value.specs.declared.value.Kind.TheVariants.{TypeError, IndexError}
use Rattle.hog_value.specs.Values.{Val, Null, Truth, Int, Ref}
use Rattle.hog_value.specs.Meters.{max_units}
use Rattle.hog_value.specs.Cells.{CellOf, Array, Dict, HeapOf, heap_map, cost_of_cell, cost_of_pair, text_at, items_at, pairs_at}

-- what comes of an operation: a result, with the heap and the units spent after it; a thrown kind; or that
-- its charge doesn't fit. After the last two, heap and units are as before it.
pub data Outcome (F A : Type 0) : Type 0 where
  Gives : A → HeapOf F → ℕ → Outcome F A
  Throws : Kind → Outcome F A
  Spends : Outcome F A

-- the outcome with f of the content of each function
abbrev pub outcome_map : {F G A : Type 0} → (F → G) → Outcome F A → Outcome G A
outcome_map f (Gives a h units) = Gives a (heap_map f h) units
outcome_map f (Throws kind) = Throws kind
outcome_map f Spends = Spends

-- an operation that charges n units, where `units` are spent
abbrev pub charged : {F A : Type 0} → ℕ → A → HeapOf F → ℕ → Outcome F A
charged n a h units = if nat_le (units + n) max_units then Gives a h (units + n) else Spends

-- making a cell: it goes last, and its number is the value
unfoldable pub made : {F : Type 0} → CellOf F → HeapOf F → ℕ → Outcome F Val
made c h units = charged (cost_of_cell c) (Ref (length h)) (h ++ c ∷ []) units

-- the place of an index: indices count from 1, places from 0
abbrev pub place_of : ℤ → Option ℕ
place_of (pos zero) = None
place_of (pos (suc k)) = Some k
place_of (negsuc k) = None

-- reading an item of an array: past its end it is null
abbrev pub item_in : Option (List Val) → Option ℕ → Result Val Kind
item_in None place = Err TypeError
item_in (Some vs) None = Err IndexError
item_in (Some vs) (Some k) = Ok (unwrap_or (slice_get vs k) Null)

-- reading an item of the array with the number n
unfoldable pub item_of : {F : Type 0} → HeapOf F → ℕ → ℤ → Result Val Kind
item_of h n index = item_in (items_at h n) (place_of index)

-- reading a key of a dictionary: where it isn't there it is null
abbrev pub key_in : Option (List (List ℕ × Val)) → List ℕ → Result Val Kind
key_in None key = Err TypeError
key_in (Some ps) key = Ok (unwrap_or (lookup (bytes_eq key) ps) Null)

-- reading a key of the dictionary with the number n
unfoldable pub key_of : {F : Type 0} → HeapOf F → ℕ → List ℕ → Result Val Kind
key_of h n key = key_in (pairs_at h n) key

-- setting an item of an array: at a place within it replaces, at its end it appends for 8 units
abbrev pub set_item_in : {F : Type 0} → Option (List Val) → Option ℕ → HeapOf F → ℕ → Val → ℕ → Outcome F (Unit {0})
set_item_in None place h n v units = Throws TypeError
set_item_in (Some vs) None h n v units = Throws IndexError
set_item_in (Some vs) (Some k) h n v units =
    if nat_lt k (length vs) then Gives tt (slice_set h n (Array (slice_set vs k v))) units
    else (if k == length vs then charged 8 tt (slice_set h n (Array (vs ++ v ∷ []))) units else Throws IndexError)

-- setting an item of the array with the number n
unfoldable pub set_item_of : {F : Type 0} → HeapOf F → ℕ → ℤ → Val → ℕ → Outcome F (Unit {0})
set_item_of h n index v units = set_item_in (items_at h n) (place_of index) h n v units

-- setting a key of a dictionary: one that is there keeps its place, a new one goes last and is charged
abbrev pub set_key_in : {F : Type 0} → Option (List (List ℕ × Val)) → HeapOf F → ℕ → List ℕ → Val → ℕ → Outcome F (Unit {0})
set_key_in None h n key v units = Throws TypeError
set_key_in (Some ps) h n key v units =
    let after = slice_set h n (Dict (insert_entry bytes_eq ps key v)) in
    if is_some (lookup (bytes_eq key) ps) then Gives tt after units else charged (cost_of_pair key) tt after units

-- setting a key of the dictionary with the number n
unfoldable pub set_key_of : {F : Type 0} → HeapOf F → ℕ → List ℕ → Val → ℕ → Outcome F (Unit {0})
set_key_of h n key v units = set_key_in (pairs_at h n) h n key v units

-- whether both are texts, with the same bytes
abbrev pub same_texts : Option (List ℕ) → Option (List ℕ) → Bool
same_texts None t = false
same_texts (Some s) None = false
same_texts (Some s) (Some t) = bytes_eq s t

-- whether two values are equal: texts by their bytes, other cells where they are one cell
unfoldable pub same_of : {F : Type 0} → HeapOf F → Val → Val → Bool
same_of h Null Null = true
same_of h (Truth a) (Truth b) = beq a b
same_of h (Int a) (Int b) = int_eq a b
same_of h (Ref m) (Ref n) = (m == n) || same_texts (text_at h m) (text_at h n)
same_of h _ _ = false

-- whether it isn't the empty text
abbrev pub is_not_empty : Option (List ℕ) → Bool
is_not_empty None = true
is_not_empty (Some []) = false
is_not_empty (Some (b ∷ t)) = true

-- the truth of a value: false, null, 0 and the empty text are false, all else is true
unfoldable pub truth_of : {F : Type 0} → HeapOf F → Val → Bool
truth_of h Null = false
truth_of h (Truth b) = b
truth_of h (Int z) = not (int_eq z (pos 0))
truth_of h (Ref n) = is_not_empty (text_at h n)
