-- What natives give names cells, of a heap that stands.
use Rattle.std.proofs.Common.{◌≡◌, ℕ, ◌+◌, ◌≤◌, List, [], ◌∷◌, ◌++◌, map, length, Option, Some, None, Bool, true, false, cond, refl, subst, arith}
use Rattle.std.specs.Prelude.{ℤ, pos, nat_lt, nat_le, option_and_then, flat_map, codes}
use Rattle.std.specs.List.{AllByRecursion, join_by, range_with_len}
use Rattle.std.specs.Char.{to_ascii_uppercase, to_ascii_lowercase}
use Rattle.std.specs.Map.{keys_of}
use Rattle.std.proofs.lemmas.Bool.{leb-true, ltb-true}
use Rattle.hog_value.specs.declared.cell.FunCell.{FunCell}
use Rattle.hog_value.specs.declared.native.Native.{Native}
use Rattle.hog_value.specs.declared.native.Native.TheVariants.{Print, Length, Concat, ToString, ToInt, Upper, Lower, Trim, StartsWith, ReplaceAll, SplitByString, Keys, Values, Has, ArrayPushBack, Empty, JsonParse, JsonStringify, Error, Fetch, DateAdd, DateDiff, Weekday}
use Rattle.hog_value.specs.declared.trace.Request.{Request}
use Rattle.hog_value.specs.declared.value.Kind.TheVariants.{TypeError}
use Rattle.hog_value.specs.declared.value.Value.TheVariants.{Null, Bool as Truth, Int, Ref}
use Rattle.hog_value.specs.Values.{Val, NamesBelow}
use Rattle.hog_value.specs.Meters.{Spent, max_units, max_turns}
use Rattle.hog_value.specs.Cells.{CellOf, Text, Array, Dict, Fun, HeapOf, items_of}
use Rattle.hog_value.specs.Operations as op
use Rattle.hog_value.specs.Operations.{Outcome, made}
use Rattle.hog_json.specs.Texts.{shown, json_text_of, named_text}
use Rattle.hog_library.specs.Texts.{trimmed, pieces, replaced, is_allowed}
use Rattle.hog_library.specs.Given.{argument, cell_given, items_given, are_options, with_given}
use Rattle.hog_library.specs.Cells.{blocked}
use Rattle.hog_library.specs.Natives.{text_or_null, concat_text, size_of, number_of, number_or_null, numbers_to, keys_of_cell, values_of_cell, int_given, length_called, concat_called, to_string_called, to_int_called, upper_called, lower_called, trim_called, starts_with_called, replace_all_called, split_called, keys_called, values_called, has_called, push_back_called, empty_called, json_parse_called, json_stringify_called, error_called, date_add_called, date_diff_called, weekday_called}
use Rattle.hog_library.specs.Called.{Called, Gives, Prints, Throws, Asks, TurnsSpent, UnitsSpent, of_outcome, print_called, asks, fetched, with_turn, fetched_from, fetch_called, called}
use Rattle.hog_meaning.specs.Meaning.{is_fetch}
use Rattle.vm_state.proofs.Alls.{all_last, all_at, all_or, all_map}
use Rattle.vm_state.proofs.HeapsStand.{CellStands, HeapStands, Keeps, names_more, Stands, Named, same_stands, both_stand, made_stands, json_stands, array_stands, error_stands, blocked_stands}

number_named : (n : ℕ) (o : Option ℤ) → NamesBelow n (number_or_null o)
number_named n None = tt
number_named n (Some z) = tt

numbers_named : (n : ℕ) (ks : List ℕ) → AllByRecursion (NamesBelow n) (map (λ k. Int (pos k)) ks)
numbers_named n [] = tt
numbers_named n (k ∷ ks) = (tt, numbers_named n ks)

cell_stands : (n u : ℕ) (h : HeapOf FunCell) (v : Val) (c : CellOf FunCell) → AllByRecursion (CellStands n u) h → cell_given h v ≡ Some c → CellStands n u c
cell_stands n u h Null c s e = absurd cc
cell_stands n u h (Truth b) c s e = absurd cc
cell_stands n u h (Int z) c s e = absurd cc
cell_stands n u h (Ref k) c s e = all_at (CellStands n u) h k c s e

items_in : (n u : ℕ) (c : CellOf FunCell) (vs : List Val) → CellStands n u c → items_of c ≡ Some vs → AllByRecursion (NamesBelow n) vs
items_in n u (Text t) vs s e = absurd cc
items_in n u (Array ws) vs s e = let same : ws ≡ vs = cc in subst (AllByRecursion (NamesBelow n)) same s
items_in n u (Dict ps) vs s e = absurd cc
items_in n u (Fun f) vs s e = absurd cc

values_in : (n u : ℕ) (c : CellOf FunCell) (vs : List Val) → CellStands n u c → values_of_cell c ≡ Some vs → AllByRecursion (NamesBelow n) vs
values_in n u (Text t) vs s e = absurd cc
values_in n u (Array ws) vs s e = let same : ws ≡ vs = cc in subst (AllByRecursion (NamesBelow n)) same s
values_in n u (Dict ps) vs s e = let same : map (λ p. p.1) ps ≡ vs = cc in subst (AllByRecursion (NamesBelow n)) same (all_map (λ p. p.1) (λ p. NamesBelow n p.1) (NamesBelow n) (λ p k. k) ps s.0)
values_in n u (Fun f) vs s e = absurd cc

both_some : {A B : Type 0} (o : Option A) (f : A → Option B) (b : B) → option_and_then f o ≡ Some b → (a : A) × (o ≡ Some a) × (f a ≡ Some b)
both_some None f b e = absurd cc
both_some (Some a) f b e = (a, refl, e)

given_stands : {A : Type 0} (u : ℕ) (h : HeapOf FunCell) (o : Option A) (next : A → Outcome FunCell Val) → ((a : A) → o ≡ Some a → Stands Named u h (next a)) → Stands Named u h (with_given o next)
given_stands u h None next s = tt
given_stands u h (Some a) next s = s a refl

-- the natives that only work on the heap
module _ (u : ℕ) (vs : List Val) (h : HeapOf FunCell) (units : ℕ) (s : HeapStands u h units) (named : AllByRecursion (NamesBelow (length h)) vs) where
  given : (n : ℕ) → NamesBelow (length h) (argument vs n)
  given n = all_or (NamesBelow (length h)) vs n Null named tt

  text : (t : List ℕ) → Stands Named u h (made (Text t) h units)
  text t = made_stands u (Text t) h units s tt

  same : (v : Val) → NamesBelow (length h) v → Stands Named u h (op.Gives v h units)
  same v q = same_stands u Named v h units s q

  length_in : Stands Named u h (length_called vs h units)
  unfolding length_called
  length_in = given_stands u h (option_and_then size_of (cell_given h (argument vs 0))) _ (λ n e. same (Int (pos n)) tt)

  concat_in : Stands Named u h (concat_called vs h units)
  unfolding concat_called
  concat_in = text (flat_map (concat_text h) vs)

  to_string_in : Stands Named u h (to_string_called vs h units)
  unfolding to_string_called
  to_string_in = text (shown h (argument vs 0))

  to_int_in : Stands Named u h (to_int_called vs h units)
  unfolding to_int_called
  to_int_in = same (number_or_null (number_of h (argument vs 0))) (number_named (length h) (number_of h (argument vs 0)))

  upper_in : Stands Named u h (upper_called vs h units)
  unfolding upper_called
  upper_in = given_stands u h (named_text h (argument vs 0)) _ (λ t e. text (map to_ascii_uppercase t))

  lower_in : Stands Named u h (lower_called vs h units)
  unfolding lower_called
  lower_in = given_stands u h (named_text h (argument vs 0)) _ (λ t e. text (map to_ascii_lowercase t))

  trim_in : Stands Named u h (trim_called vs h units)
  unfolding trim_called
  trim_in = given_stands u h (named_text h (argument vs 0)) _ (λ t e. text (trimmed t))

  starts_with_in : Stands Named u h (starts_with_called vs h units)
  unfolding starts_with_called
  starts_with_in = given_stands u h (named_text h (argument vs 0)) _ (λ t e. given_stands u h (named_text h (argument vs 1)) _ (λ start f. same (Truth _) tt))

  replace_all_in : Stands Named u h (replace_all_called vs h units)
  unfolding replace_all_called
  replace_all_in = given_stands u h (named_text h (argument vs 0)) _ (λ t e. given_stands u h (named_text h (argument vs 1)) _ (λ from f. given_stands u h (named_text h (argument vs 2)) _ (λ to g. text (replaced t from to))))

  split_in : Stands Named u h (split_called vs h units)
  unfolding split_called
  split_in = given_stands u h (named_text h (argument vs 0)) _ (λ separator e. given_stands u h (named_text h (argument vs 1)) _ (λ t f. array_stands u (pieces separator t) h units s))

  keys_of_cell_in : (c : CellOf FunCell) → Stands Named u h (keys_of_cell h units c)
  keys_of_cell_in (Text t) = tt
  keys_of_cell_in (Array items) = made_stands u (Array (numbers_to (length items))) h units s (numbers_named (length h) (range_with_len 1 (length items)))
  keys_of_cell_in (Dict ps) = array_stands u (keys_of ps) h units s
  keys_of_cell_in (Fun x) = tt

  keys_in : Stands Named u h (keys_called vs h units)
  unfolding keys_called
  keys_in = given_stands u h (cell_given h (argument vs 0)) _ (λ c e. keys_of_cell_in c)

  values_called_in : Stands Named u h (values_called vs h units)
  unfolding values_called
  values_called_in = given_stands u h (option_and_then values_of_cell (cell_given h (argument vs 0))) _ (λ items e.
      let c = both_some (cell_given h (argument vs 0)) values_of_cell items e in
      made_stands u (Array items) h units s (values_in (length h) u c.0 items (cell_stands (length h) u h (argument vs 0) c.0 s.cells c.1) c.2))

  has_in : Stands Named u h (has_called vs h units)
  unfolding has_called
  has_in = given_stands u h (items_given h (argument vs 0)) _ (λ items e. same (Truth _) tt)

  push_back_in : Stands Named u h (push_back_called vs h units)
  unfolding push_back_called
  push_back_in = given_stands u h (items_given h (argument vs 0)) _ (λ items e.
      let c = both_some (cell_given h (argument vs 0)) items_of items e in
      let there = items_in (length h) u c.0 items (cell_stands (length h) u h (argument vs 0) c.0 s.cells c.1) c.2 in
      made_stands u (Array (items ++ argument vs 1 ∷ [])) h units s (all_last (NamesBelow (length h)) items (argument vs 1) there (given 1)))

  empty_in : Stands Named u h (empty_called vs h units)
  unfolding empty_called
  empty_in = same (Truth _) tt

  json_parse_in : Stands Named u h (json_parse_called vs h units)
  unfolding json_parse_called
  json_parse_in = given_stands u h (named_text h (argument vs 0)) _ (λ t e. json_stands u t h units s)

  json_stringify_in : Stands Named u h (json_stringify_called vs h units)
  unfolding json_stringify_called
  json_stringify_in = text (json_text_of h (argument vs 0))

  error_in : Stands Named u h (error_called vs h units)
  unfolding error_called
  error_in =
      both_stand u Named Named h (made (Text (codes "Error")) h units) _ (text (codes "Error")) (λ name h1 units1 s1 le q.
      error_stands u name (argument vs 0) (argument vs 1) h1 units1 s1 q (names_more (length h) (length h1) (argument vs 0) le (given 0)) (names_more (length h) (length h1) (argument vs 1) le (given 1)))

  text_or_null_in : (o : Option (List ℕ)) → Stands Named u h (text_or_null h units o)
  text_or_null_in None = same Null tt
  text_or_null_in (Some t) = text t

  date_add_in : Stands Named u h (date_add_called vs h units)
  unfolding date_add_called
  date_add_in = given_stands u h (named_text h (argument vs 0)) _ (λ t e. given_stands u h (int_given (argument vs 1)) _ (λ days f. text_or_null_in _))

  date_diff_in : Stands Named u h (date_diff_called vs h units)
  unfolding date_diff_called
  date_diff_in = given_stands u h (named_text h (argument vs 0)) _ (λ from e. given_stands u h (named_text h (argument vs 1)) _ (λ to f. same (number_or_null _) (number_named (length h) _)))

  weekday_in : Stands Named u h (weekday_called vs h units)
  unfolding weekday_called
  weekday_in = given_stands u h (named_text h (argument vs 0)) _ (λ t e. same (number_or_null _) (number_named (length h) _))

-- the same of a call, which keeps within the turns, and asks only where it is `fetch`
pub record CallGiven (u : ℕ) (h : HeapOf FunCell) (v : Val) (h1 : HeapOf FunCell) (m1 : Spent) : Type 0 where
  pub heap : HeapStands u h1 m1.units
  pub keeps : Keeps h h1
  pub value : NamesBelow (length h1) v
  pub turns : m1.turns ≤ max_turns

abbrev pub CallStands : ℕ → Native → HeapOf FunCell → Called FunCell → Type 0
CallStands u native h (Gives v h1 m1) = CallGiven u h v h1 m1
CallStands u native h (Prints t m1) = HeapStands u h m1.units × (m1.turns ≤ max_turns)
CallStands u native h (Throws kind) = Unit {0}
CallStands u native h (Asks request m1) = HeapStands u h m1.units × (m1.turns ≤ max_turns) × (is_fetch native ≡ true)
CallStands u native h TurnsSpent = Unit {0}
CallStands u native h UnitsSpent = Unit {0}

module _ (u : ℕ) (native : Native) (h : HeapOf FunCell) where
  either : (b : Bool) (x y : Called FunCell) → (b ≡ true → CallStands u native h x) → CallStands u native h y → CallStands u native h (cond b x y)
  either true x y first second = first refl
  either false x y first second = second

  plain : (o : Outcome FunCell Val) (m : Spent) → m.turns ≤ max_turns → Stands Named u h o → CallStands u native h (of_outcome o m)
  plain (op.Gives v h1 units1) m t s = record { heap = s.heap; keeps = s.keeps; value = s.value; turns = t }
  plain (op.Throws kind) m t s = tt
  plain op.Spends m t s = tt

  more_units : (units more : ℕ) → HeapStands u h units → nat_le (units + more) max_units ≡ true → HeapStands u h (units + more)
  more_units units more s e = let covered = s.covered in record { cells = s.cells; covered = omega (arith, covered); within = leb-true _ _ e }

  print_in : (vs : List Val) (m : Spent) → HeapStands u h m.units → m.turns ≤ max_turns → CallStands u native h (print_called vs h m)
  unfolding print_called
  print_in vs m s t =
      let bytes = length (join_by (shown h) (codes " ") vs) in
      either (nat_le (m.units + bytes) max_units) (Prints _ (record m { units = m.units + bytes })) UnitsSpent (λ e. (more_units m.units bytes s e, t)) tt

  asks_in : (request : Request) (m : Spent) → is_fetch native ≡ true → HeapStands u h m.units → m.turns ≤ max_turns → CallStands u native h (asks request m)
  asks_in request m f s t =
      let bytes = length request.url + length request.options in
      either (nat_le (m.units + bytes) max_units) (Asks request (record m { units = m.units + bytes })) UnitsSpent (λ e. (more_units m.units bytes s e, t, f)) tt

  fetched_in : (url : List ℕ) (options : Val) (m : Spent) → is_fetch native ≡ true → HeapStands u h m.units → m.turns ≤ max_turns → CallStands u native h (fetched url options h m)
  fetched_in url options m f s t =
      either (is_allowed url) (asks (record { url = url; options = json_text_of h options }) m) (of_outcome (blocked h m.units) m)
      (λ e. asks_in (record { url = url; options = json_text_of h options }) m f s t) (plain (blocked h m.units) m t (blocked_stands u h m.units s))

  turn_in : (url : List ℕ) (options : Val) (m : Spent) → is_fetch native ≡ true → HeapStands u h m.units → CallStands u native h (with_turn m (fetched url options h))
  turn_in url options m f s =
      let spent = record m { turns = m.turns + 1 } in
      either (nat_lt m.turns max_turns) (fetched url options h spent) TurnsSpent (λ e. let lt = ltb-true m.turns max_turns e in fetched_in url options spent f s (omega (arith, lt))) tt

  from_in : (o : Option (List ℕ)) (options : Val) (m : Spent) → is_fetch native ≡ true → HeapStands u h m.units → CallStands u native h (fetched_from o options h m)
  from_in None options m f s = tt
  from_in (Some url) options m f s = either (are_options h options) (with_turn m (fetched url options h)) (Throws TypeError) (λ e. turn_in url options m f s) tt

  fetch_in : (vs : List Val) (m : Spent) → is_fetch native ≡ true → HeapStands u h m.units → CallStands u native h (fetch_called vs h m)
  unfolding fetch_called
  fetch_in vs m f s = from_in (named_text h (argument vs 0)) (argument vs 1) m f s

pub called_stands : (u : ℕ) (native : Native) (vs : List Val) (h : HeapOf FunCell) (m : Spent) → HeapStands u h m.units → m.turns ≤ max_turns → AllByRecursion (NamesBelow (length h)) vs → CallStands u native h (called native vs h m)
unfolding called
called_stands u Print vs h m s t n = print_in u Print h vs m s t
called_stands u Length vs h m s t n = plain u Length h (length_called vs h m.units) m t (length_in u vs h m.units s n)
called_stands u Concat vs h m s t n = plain u Concat h (concat_called vs h m.units) m t (concat_in u vs h m.units s n)
called_stands u ToString vs h m s t n = plain u ToString h (to_string_called vs h m.units) m t (to_string_in u vs h m.units s n)
called_stands u ToInt vs h m s t n = plain u ToInt h (to_int_called vs h m.units) m t (to_int_in u vs h m.units s n)
called_stands u Upper vs h m s t n = plain u Upper h (upper_called vs h m.units) m t (upper_in u vs h m.units s n)
called_stands u Lower vs h m s t n = plain u Lower h (lower_called vs h m.units) m t (lower_in u vs h m.units s n)
called_stands u Trim vs h m s t n = plain u Trim h (trim_called vs h m.units) m t (trim_in u vs h m.units s n)
called_stands u StartsWith vs h m s t n = plain u StartsWith h (starts_with_called vs h m.units) m t (starts_with_in u vs h m.units s n)
called_stands u ReplaceAll vs h m s t n = plain u ReplaceAll h (replace_all_called vs h m.units) m t (replace_all_in u vs h m.units s n)
called_stands u SplitByString vs h m s t n = plain u SplitByString h (split_called vs h m.units) m t (split_in u vs h m.units s n)
called_stands u Keys vs h m s t n = plain u Keys h (keys_called vs h m.units) m t (keys_in u vs h m.units s n)
called_stands u Values vs h m s t n = plain u Values h (values_called vs h m.units) m t (values_called_in u vs h m.units s n)
called_stands u Has vs h m s t n = plain u Has h (has_called vs h m.units) m t (has_in u vs h m.units s n)
called_stands u ArrayPushBack vs h m s t n = plain u ArrayPushBack h (push_back_called vs h m.units) m t (push_back_in u vs h m.units s n)
called_stands u Empty vs h m s t n = plain u Empty h (empty_called vs h m.units) m t (empty_in u vs h m.units s n)
called_stands u JsonParse vs h m s t n = plain u JsonParse h (json_parse_called vs h m.units) m t (json_parse_in u vs h m.units s n)
called_stands u JsonStringify vs h m s t n = plain u JsonStringify h (json_stringify_called vs h m.units) m t (json_stringify_in u vs h m.units s n)
called_stands u Error vs h m s t n = plain u Error h (error_called vs h m.units) m t (error_in u vs h m.units s n)
called_stands u Fetch vs h m s t n = fetch_in u Fetch h vs m refl s
called_stands u DateAdd vs h m s t n = plain u DateAdd h (date_add_called vs h m.units) m t (date_add_in u vs h m.units s n)
called_stands u DateDiff vs h m s t n = plain u DateDiff h (date_diff_called vs h m.units) m t (date_diff_in u vs h m.units s n)
called_stands u Weekday vs h m s t n = plain u Weekday h (weekday_called vs h m.units) m t (weekday_in u vs h m.units s n)
