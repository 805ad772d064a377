-- What operators, access and setting give, for any content F of function cells. None of them looks inside one.
use Rattle.std.specs.Prelude.{ℕ, ℤ, pos, negsuc, ◌+ℤ◌, ◌-ℤ◌, ◌*ℤ◌, int_le, ◌&&◌, ◌||◌, List, [], ◌∷◌, Bool, true, false, not, Option, Some, None, is_some, slice_get, Result, Ok, Err, if◌then◌else◌, bytes_eq}
use Rattle.std.specs.Cmp.Lexicographic.{slice_cmp}
use Rattle.std.specs.List.{list_any}
use Rattle.std.specs.Map.{lookup}
use Rattle.std.specs.declared.cmp.Ordering.{Ordering}
use Rattle.std.specs.Ordering.{nat_cmp, int_cmp}
use Rattle.std.specs.declared.cmp.Ordering.TheVariants.{Less, Equal, Greater}
use Rattle.indexmap.specs.IndexMap.{insert_entry}
use Rattle.hog_value.specs.declared.value.Kind.{Kind}
use Rattle.hog_value.specs.declared.value.Kind.TheVariants.{TypeError, IntegerOverflow}
use Rattle.hog_value.specs.Values.{Val}
use Rattle.hog_value.specs.declared.value.Value.TheVariants.{Null, Bool as Truth, Int, Ref}
use Rattle.hog_value.specs.Cells.{CellOf, Text, Array, Dict, Fun, HeapOf, text_at}
use Rattle.hog_value.specs.Operations.{Outcome, Throws, item_of, key_of, set_item_of, set_key_of, same_of, truth_of, made}
use Rattle.hog_json.specs.Texts.{named_text}
use Rattle.hog_tree.specs.declared.tree.BinaryOp.{BinaryOp}
use Rattle.hog_tree.specs.declared.tree.BinaryOp.TheVariants as o

-- whole numbers

-- whether a number is one of 64 bits with a sign
abbrev pub in_range : ℤ → Bool
in_range z = int_le (negsuc 9223372036854775807) z && int_le z (pos 9223372036854775807)

-- the number, where it is in range
abbrev pub checked : ℤ → Result Val Kind
checked z = if in_range z then Ok (Int z) else Err IntegerOverflow

-- arithmetic of two values
abbrev pub computed : (ℤ → ℤ → ℤ) → Val → Val → Result Val Kind
computed f (Int x) (Int y) = checked (f x y)
computed f x y = Err TypeError

-- the value less than 0 by as much
unfoldable pub negated : Val → Result Val Kind
negated v = computed (λ x y. x -ℤ y) (Int (pos 0)) v

-- order

-- the order of two whole numbers, or of two texts by their bytes
abbrev pub order_of_texts : Option (List ℕ) → Option (List ℕ) → Option Ordering
order_of_texts None t = None
order_of_texts (Some s) None = None
order_of_texts (Some s) (Some t) = Some (slice_cmp nat_cmp s t)

abbrev pub order_of : {F : Type 0} → HeapOf F → Val → Val → Option Ordering
order_of h (Int x) (Int y) = Some (int_cmp x y)
order_of h (Ref m) (Ref n) = order_of_texts (text_at h m) (text_at h n)
order_of h x y = None

abbrev pub tested : (Ordering → Bool) → Option Ordering → Result Val Kind
tested test None = Err TypeError
tested test (Some order) = Ok (Truth (test order))

abbrev pub compared : {F : Type 0} → HeapOf F → (Ordering → Bool) → Val → Val → Result Val Kind
compared h test x y = tested test (order_of h x y)

abbrev pub is_less : Ordering → Bool
is_less Less = true
is_less Equal = false
is_less Greater = false

abbrev pub is_greater : Ordering → Bool
is_greater Less = false
is_greater Equal = false
is_greater Greater = true

-- being in

-- whether a text is part of another, from the left
abbrev pub begins : List ℕ → List ℕ → Bool
begins [] t = true
begins (b ∷ s) [] = false
begins (b ∷ s) (c ∷ t) = bytes_eq (b ∷ []) (c ∷ []) && begins s t

abbrev pub is_part : List ℕ → List ℕ → Bool
is_part s [] = begins s []
is_part s (c ∷ t) = if begins s (c ∷ t) then true else is_part s t

abbrev pub has_key : Option (List ℕ) → List (List ℕ × Val) → Bool
has_key None ps = false
has_key (Some key) ps = is_some (lookup (bytes_eq key) ps)

abbrev pub part_of : Option (List ℕ) → List ℕ → Result Bool Kind
part_of None t = Err TypeError
part_of (Some s) t = Ok (is_part s t)

-- whether a value is in a cell: an item that is equal, a key, or a part of a text
abbrev pub is_in_cell : {F : Type 0} → HeapOf F → Val → Option (CellOf F) → Result Bool Kind
is_in_cell h x None = Err TypeError
is_in_cell h x (Some (Array vs)) = Ok (list_any (λ v. same_of h v x) vs)
is_in_cell h x (Some (Dict ps)) = Ok (has_key (named_text h x) ps)
is_in_cell h x (Some (Text t)) = part_of (named_text h x) t
is_in_cell h x (Some (Fun f)) = Err TypeError

-- nothing is in null
abbrev pub is_in : {F : Type 0} → HeapOf F → Val → Val → Result Bool Kind
is_in h x Null = Ok false
is_in h x (Truth b) = Err TypeError
is_in h x (Int z) = Err TypeError
is_in h x (Ref n) = is_in_cell h x (slice_get h n)

abbrev pub truth_result : (Bool → Bool) → Result Bool Kind → Result Val Kind
truth_result f (Ok b) = Ok (Truth (f b))
truth_result f (Err kind) = Err kind

-- An operator on its left and its right operand. `and` and `or` go by the truth of both.
unfoldable pub operated : {F : Type 0} → BinaryOp → HeapOf F → Val → Val → Result Val Kind
operated o.Or h x y = Ok (Truth (truth_of h x || truth_of h y))
operated o.And h x y = Ok (Truth (truth_of h x && truth_of h y))
operated o.Equal h x y = Ok (Truth (same_of h x y))
operated o.NotEqual h x y = Ok (Truth (not (same_of h x y)))
operated o.Less h x y = compared h is_less x y
operated o.LessEqual h x y = compared h (λ order. not (is_greater order)) x y
operated o.Greater h x y = compared h is_greater x y
operated o.GreaterEqual h x y = compared h (λ order. not (is_less order)) x y
operated o.IsIn h x y = truth_result (λ b. b) (is_in h x y)
operated o.NotIn h x y = truth_result not (is_in h x y)
operated o.Plus h x y = computed (λ a b. a +ℤ b) x y
operated o.Minus h x y = computed (λ a b. a -ℤ b) x y
operated o.Times h x y = computed (λ a b. a *ℤ b) x y

-- whether the left operand comes first: else the right one does
abbrev pub is_left_first : BinaryOp → Bool
is_left_first o.Or = true
is_left_first o.And = true
is_left_first op = false

-- access and setting

-- what comes of a key that is a text; of one that isn't, TypeError
abbrev pub read_by : {A : Type 0} → Option (List ℕ) → (List ℕ → Result A Kind) → Result A Kind
read_by None go = Err TypeError
read_by (Some key) go = go key

abbrev pub set_by : {F A : Type 0} → Option (List ℕ) → (List ℕ → Outcome F A) → Outcome F A
set_by None go = Throws TypeError
set_by (Some key) go = go key

-- what comes of a result, and of a kind that is thrown
abbrev pub outcome_of : {F A B : Type 0} → Result A Kind → (A → Outcome F B) → Outcome F B
outcome_of (Ok a) go = go a
outcome_of (Err kind) go = Throws kind

-- a base by a key: an array by a whole number, a dictionary by a text
unfoldable pub accessed : {F : Type 0} → HeapOf F → Val → Val → Result Val Kind
accessed h (Ref n) (Int z) = item_of h n z
accessed h (Ref n) (Ref m) = read_by (text_at h m) (key_of h n)
accessed h base key = Err TypeError

-- a base by a property's name; `?.` gives null on null
abbrev pub property_of : {F : Type 0} → HeapOf F → Val → List ℕ → Result Val Kind
property_of h (Ref n) w = key_of h n w
property_of h base w = Err TypeError

abbrev pub nullish_property_of : {F : Type 0} → HeapOf F → Val → List ℕ → Result Val Kind
nullish_property_of h Null w = Ok Null
nullish_property_of h base w = property_of h base w

-- setting what a base has under a key
unfoldable pub assigned : {F : Type 0} → HeapOf F → Val → Val → Val → ℕ → Outcome F (Unit {0})
assigned h (Ref n) (Int z) v units = set_item_of h n z v units
assigned h (Ref n) (Ref m) v units = set_by (text_at h m) (λ key. set_key_of h n key v units)
assigned h base key v units = Throws TypeError

abbrev pub property_assigned : {F : Type 0} → HeapOf F → Val → List ℕ → Val → ℕ → Outcome F (Unit {0})
property_assigned h (Ref n) w v units = set_key_of h n w v units
property_assigned h base w v units = Throws TypeError

-- dictionaries

-- the pairs of a dictionary that is written out: each key a text, and a repeated key keeps its place with the later value
abbrev pub pairs_of : {F : Type 0} → HeapOf F → List (Val × Val) → List (List ℕ × Val) → Result (List (List ℕ × Val)) Kind
pairs_of h [] ps = Ok ps
pairs_of h (kv ∷ kvs) ps = read_by (named_text h kv.0) (λ key. pairs_of h kvs (insert_entry bytes_eq ps key kv.1))

-- making it
unfoldable pub dictionary_made : {F : Type 0} → List (Val × Val) → HeapOf F → ℕ → Outcome F Val
dictionary_made kvs h units = outcome_of (pairs_of h kvs []) (λ ps. made (Dict ps) h units)
