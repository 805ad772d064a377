-- Values without the numbers that aren't whole.
use Rattle.std.proofs.Common.{◌≡◌, ◌≤◌, suc, ◌+◌, max, true, false, cond, ◌||◌, refl, ap, ap₂, arith}
use Rattle.serde_json.specs.Data.{unsigned, negative, float, Data, null, boolean, number, string, array, object, Items, no_items, item, Members, no_members, member, depth, items_depth, members_depth}
use Rattle.serde_json.specs.Written.{has_float, items_have_float, members_have_float}
use Rattle.hog_json.specs.Nulled.{is_whole, nulled, nulled_items, nulled_members, count_nulled, globals_data}

mutual
  pub nulled_has_no_float : (d : Data) → has_float (nulled d) ≡ false
  nulled_has_no_float null = refl
  nulled_has_no_float (boolean b) = refl
  nulled_has_no_float (number (unsigned n)) = elim (is_whole (unsigned n)) as (λ b. has_float (cond b (number (unsigned n)) null) ≡ false) [ true ↦ refl | false ↦ refl ]
  nulled_has_no_float (number (negative z)) = refl
  nulled_has_no_float (number (float x)) = refl
  nulled_has_no_float (string s) = refl
  nulled_has_no_float (array ds) = nulled_items_have_no_float ds
  nulled_has_no_float (object ms) = nulled_members_have_no_float ms

  nulled_items_have_no_float : (ds : Items) → items_have_float (nulled_items ds) ≡ false
  nulled_items_have_no_float no_items = refl
  nulled_items_have_no_float (item d ds) = ap₂ (λ a b. a || b) (nulled_has_no_float d) (nulled_items_have_no_float ds)

  nulled_members_have_no_float : (ms : Members) → members_have_float (nulled_members ms) ≡ false
  nulled_members_have_no_float no_members = refl
  nulled_members_have_no_float (member k d ms) = ap₂ (λ a b. a || b) (nulled_has_no_float d) (nulled_members_have_no_float ms)

mutual
  pub nulled_as_deep : (d : Data) → depth (nulled d) ≡ depth d
  nulled_as_deep null = refl
  nulled_as_deep (boolean b) = refl
  nulled_as_deep (number n) = elim (is_whole n) as (λ b. depth (cond b (number n) null) ≡ 0) [ true ↦ refl | false ↦ refl ]
  nulled_as_deep (string s) = refl
  nulled_as_deep (array ds) = ap suc (nulled_items_as_deep ds)
  nulled_as_deep (object ms) = ap suc (nulled_members_as_deep ms)

  nulled_items_as_deep : (ds : Items) → items_depth (nulled_items ds) ≡ items_depth ds
  nulled_items_as_deep no_items = refl
  nulled_items_as_deep (item d ds) = ap₂ max (nulled_as_deep d) (nulled_items_as_deep ds)

  nulled_members_as_deep : (ms : Members) → members_depth (nulled_members ms) ≡ members_depth ms
  nulled_members_as_deep no_members = refl
  nulled_members_as_deep (member k d ms) = ap₂ max (nulled_as_deep d) (nulled_members_as_deep ms)

-- globals are one deeper than the deeper of their parts
pub globals_depth : (event inputs : Data) → depth event ≤ 126 → depth inputs ≤ 126 → depth (nulled (globals_data event inputs)) ≤ 127
unfolding globals_data
globals_depth event inputs e i = omega (arith, nulled_as_deep event, nulled_as_deep inputs)

-- and have the nulled numbers of both
pub globals_count : (event inputs : Data) → count_nulled (globals_data event inputs) ≡ count_nulled event + count_nulled inputs
unfolding globals_data
globals_count event inputs = omega arith

pub ruleset kept = (nulled_has_no_float, nulled_as_deep, globals_depth, globals_count)
