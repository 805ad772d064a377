-- JSON values with each number that isn't a whole number of 64 bits replaced by null.
use Rattle.std.specs.Prelude.{ℕ, ◌+◌, List, codes, Bool, is_some, if◌then◌else◌}
use Rattle.serde_json.specs.Data.{Num, Data, null, boolean, number, string, array, object, Items, no_items, item, Members, no_members, member}
use Rattle.serde_json.specs.Find.{as_i64}
use Rattle.serde_json.specs.Written.{compact_text}

-- whether a number is a whole number from -2^63 to 2^63 - 1; a number with a point or an exponent, -0,
-- and a whole number past 64 bits are floats, and none of them is
abbrev pub is_whole : Num → Bool
is_whole n = is_some (as_i64 n)

-- the value with null for each number that isn't whole
abbrev mutual
  pub nulled : Data → Data
  nulled null = null
  nulled (boolean b) = boolean b
  nulled (number n) = if is_whole n then number n else null
  nulled (string s) = string s
  nulled (array ds) = array (nulled_items ds)
  nulled (object ms) = object (nulled_members ms)

  pub nulled_items : Items → Items
  nulled_items no_items = no_items
  nulled_items (item d ds) = item (nulled d) (nulled_items ds)

  pub nulled_members : Members → Members
  nulled_members no_members = no_members
  nulled_members (member k d ms) = member k (nulled d) (nulled_members ms)

-- how many numbers that replaces
abbrev mutual
  pub count_nulled : Data → ℕ
  count_nulled null = 0
  count_nulled (boolean b) = 0
  count_nulled (number n) = if is_whole n then 0 else 1
  count_nulled (string s) = 0
  count_nulled (array ds) = count_nulled_items ds
  count_nulled (object ms) = count_nulled_members ms

  pub count_nulled_items : Items → ℕ
  count_nulled_items no_items = 0
  count_nulled_items (item d ds) = count_nulled d + count_nulled_items ds

  pub count_nulled_members : Members → ℕ
  count_nulled_members no_members = 0
  count_nulled_members (member k d ms) = count_nulled d + count_nulled_members ms

-- the text under which a JSON value is kept
abbrev pub nulled_text : Data → List ℕ
nulled_text d = compact_text (nulled d)

-- the globals of a run: the event, and the inputs of the destination
unfoldable pub globals_data : Data → Data → Data
globals_data event inputs = object (member (codes "event") event (member (codes "inputs") inputs no_members))
