-- How deep members and elements nest.
use Rattle.std.proofs.Common.{◌≡◌, ◌≤◌, ◌<◌, ℕ, zero, suc, max, List, [], ◌∷◌, Option, Some, None, length, get_or, refl, sym, ap, ◌∙◌, arith}
use Rattle.std.specs.Prelude.{IfSome, option_map}
use Rattle.std.specs.Ordering.{match_ordering, nat_cmp}
use Rattle.std.specs.declared.cmp.Ordering.{Ordering}
use Rattle.std.specs.declared.cmp.Ordering.TheVariants.{Less, Equal, Greater}
use Rattle.std.specs.Cmp.Lexicographic.{slice_cmp}
use Rattle.serde_json.specs.Data.{Data, null, boolean, number, string, array, object, Items, Members, no_members, member, depth, items_depth, members_depth}
use Rattle.serde_json.specs.Find.{as_array, get, get_member}
use Rattle.serde_json.specs.View.{view, items_of, items_view}
use Rattle.serde_json.specs.declared.value.Value.{Value}
use Rattle.event_plans.specs.Members.{AreWithin, list_of, views}

by_order : (o : Ordering) (e d : Data) (n : ℕ) (left right : Option Data) → match_ordering o left (Some e) right ≡ Some d
    → (left ≡ Some d → depth d ≤ n) → (right ≡ Some d → depth d ≤ n) → depth e ≤ n → depth d ≤ n
by_order Less e d n left right there below above here = below there
by_order Equal e d n left right there below above here = let same : e ≡ d = cc in omega (arith, here, ap depth same)
by_order Greater e d n left right there below above here = above there

member_depth : (k : List ℕ) (ms : Members) (d : Data) → get_member k ms ≡ Some d → depth d ≤ members_depth ms
member_depth k no_members d there = absurd cc
member_depth k (member l e ms) d there =
    let rest = λ (is : get_member k ms ≡ Some d). member_depth k ms d is in
    by_order (slice_cmp nat_cmp k l) e d (max (depth e) (members_depth ms)) (get_member k ms) (get_member k ms) there
    (λ is. omega (arith, rest is)) (λ is. omega (arith, rest is)) (omega arith)

-- a member nests less deep than its object
pub get_depth : (k : List ℕ) (d found : Data) → get k d ≡ Some found → depth found < depth d
get_depth k null found there = absurd cc
get_depth k (boolean b) found there = absurd cc
get_depth k (number n) found there = absurd cc
get_depth k (string s) found there = absurd cc
get_depth k (array ds) found there = absurd cc
get_depth k (object ms) found there = omega (arith, member_depth k ms found there)

-- so does one that is lent
pub nested_by : {X : Type 0} (o : Option X) (see : X → Data) (n : ℕ) (found : Option Data) → option_map see o ≡ found
    → ((d : Data) → found ≡ Some d → depth d < n) → IfSome o (λ x. depth (see x) < n)
nested_by None see n found is below = tt
nested_by (Some x) see n found is below = below (see x) (sym is)

listed : (ds : List Data) → list_of (items_of ds) ≡ ds
listed [] = refl
listed (d ∷ ds) = ap (λ rest. d ∷ rest) (listed ds)

-- the elements of a value that is an array of these values
pub elements_are : (d : Data) (vs : List Value) → Some (items_view vs) ≡ as_array d → option_map list_of (as_array d) ≡ Some (views vs)
elements_are d vs is = ap (option_map list_of) (sym is) ∙ ap Some (listed (views vs))

array_depth : (d : Data) (ds : Items) → Some ds ≡ as_array d → items_depth ds < depth d
array_depth (array xs) ds is = let same : ds ≡ xs = cc in omega (arith, ap items_depth same)
array_depth d ds is = absurd (cc)

item_depth : (vs : List Value) (k : ℕ) (v : Value) → k < length vs → depth (view (get_or vs k v)) ≤ items_depth (items_view vs)
item_depth [] k v within = absurd (omega (arith, within))
item_depth (x ∷ vs) zero v within = omega arith
item_depth (x ∷ vs) (suc k) v within = omega (arith, item_depth vs k v (omega (arith, within)))

-- the elements of an array nest less deep than it
pub within_array : (d : Data) (vs : List Value) → Some (items_view vs) ≡ as_array d → AreWithin (depth d) vs
within_array d vs is = λ k v within. omega (arith, item_depth vs k v within, array_depth d (items_view vs) is)

pub within_more : (n m : ℕ) (vs : List Value) → n ≤ m → AreWithin n vs → AreWithin m vs
within_more n m vs few are = λ k v within. omega (arith, few, are k v within)
