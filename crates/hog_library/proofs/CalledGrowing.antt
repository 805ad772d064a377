-- What natives make, replies bring and thrown kinds are goes behind the cells that were there.
use Rattle.std.proofs.Common.{◌≡◌, ◌+◌, ℕ, List, [], ◌∷◌, ◌++◌, Bool, true, false, cond, map, length, Option, Some, None, refl, sym, subst, nat_le, append-nil}
use Rattle.std.specs.Prelude.{option_and_then, flat_map, codes, nat_lt}
use Rattle.std.specs.Char.{to_ascii_uppercase, to_ascii_lowercase}
use Rattle.std.specs.Map.{keys_of}
use Rattle.hog_value.specs.declared.value.Kind.{Kind}
use Rattle.hog_value.specs.declared.value.Kind.TheVariants.{TypeError}
use Rattle.hog_value.specs.declared.trace.Request.{Request}
use Rattle.hog_value.specs.declared.value.Value.TheVariants.{Null, Ref}
use Rattle.hog_value.specs.declared.native.Native.{Native}
use Rattle.hog_value.specs.declared.native.Native.TheVariants.{Print, Length, Concat, ToString, ToInt, Upper, Lower, Trim, StartsWith, ReplaceAll, SplitByString, Keys, Values, Has, ArrayPushBack, Empty, JsonParse, JsonStringify, Error, Fetch, DateAdd, DateDiff, Weekday}
use Rattle.hog_value.specs.Values.{Val}
use Rattle.hog_value.specs.Meters.{Spent, max_units, max_turns}
use Rattle.hog_value.specs.Cells.{CellOf, Text, Array, Dict, Fun, HeapOf, cost_of_cell}
use Rattle.hog_value.specs.Operations as heap
use Rattle.hog_value.specs.Operations.{Outcome, made}
use Rattle.hog_json.specs.Texts.{shown, json_text_of, named_text}
use Rattle.hog_json.specs.Reading.{outcome_and_then, kept_value, read_cells, json_cells, Grows}
use Rattle.hog_json.proofs.ReadingLemmas.{Grows-trans}
use Rattle.hog_json.proofs.Growing.{read_cells-grows, json_cells-grows}
use Rattle.hog_library.specs.Texts.{trimmed, pieces, replaced, is_allowed}
use Rattle.hog_library.specs.Given.{argument, cell_given, items_given, are_options, with_given}
use Rattle.hog_library.specs.Cells.{texts_made, array_of_texts, error_cell, response_cell, kind_name, kind_message, thrown, response, blocked}
use Rattle.hog_library.specs.Natives.{text_or_null, concat_text, size_of, numbers_to, keys_of_cell, values_of_cell, int_given, length_called, concat_called, to_string_called, to_int_called, upper_called, lower_called, trim_called, starts_with_called, replace_all_called, split_called, keys_called, values_called, has_called, push_back_called, empty_called, json_parse_called, json_stringify_called, error_called, date_add_called, date_diff_called, weekday_called}
use Rattle.hog_library.specs.Called.{Called, Gives, Prints, Throws, Asks, TurnsSpent, UnitsSpent, of_outcome, print_called, asks, fetched, with_turn, fetched_from, fetch_called, called}

module _ {F : Type 0} where
  -- where an operation gives, the heap after it is the one before with more cells
  abbrev GrowsIn : {A : Type 0} → HeapOf F → Outcome F A → Type 0
  GrowsIn h (heap.Gives a h1 units) = Grows h h1
  GrowsIn h (heap.Throws kind) = Unit {0}
  GrowsIn h heap.Spends = Unit {0}

  grows_on : {A : Type 0} (h h1 : HeapOf F) (o : Outcome F A) → Grows h h1 → GrowsIn h1 o → GrowsIn h o
  grows_on h h1 (heap.Gives a h2 units) first after = Grows-trans h h1 h2 first after
  grows_on h h1 (heap.Throws kind) first after = tt
  grows_on h h1 heap.Spends first after = tt

  both_grow : {A B : Type 0} (h : HeapOf F) (o : Outcome F A) (next : A → HeapOf F → ℕ → Outcome F B) → GrowsIn h o
      → ((a : A) (h1 : HeapOf F) (units : ℕ) → GrowsIn h1 (next a h1 units)) → GrowsIn h (outcome_and_then o next)
  both_grow h (heap.Gives a h1 units) next first after = grows_on h h1 (next a h1 units) first (after a h1 units)
  both_grow h (heap.Throws kind) next first after = tt
  both_grow h heap.Spends next first after = tt

  from_gives : {A : Type 0} (h : HeapOf F) (o : Outcome F A) → ((a : A) (h1 : HeapOf F) (units : ℕ) → o ≡ heap.Gives a h1 units → Grows h h1) → GrowsIn h o
  from_gives h (heap.Gives a h1 units) grows = grows a h1 units refl
  from_gives h (heap.Throws kind) grows = tt
  from_gives h heap.Spends grows = tt

  same_grows : (h : HeapOf F) → Grows h h
  same_grows h = ([], sym (append-nil h))

  made_grows : (c : CellOf F) (h : HeapOf F) (units : ℕ) → GrowsIn h (made c h units)
  unfolding made
  made_grows c h units = elim (nat_le (units + cost_of_cell c) max_units) as (λ b. GrowsIn h (cond b (heap.Gives (Ref (length h)) (h ++ c ∷ []) (units + cost_of_cell c)) heap.Spends)) [
    | true ↦ (c ∷ [], refl)
    | false ↦ tt
  ]

  given_grows : {A : Type 0} (h : HeapOf F) (o : Option A) (next : A → Outcome F Val) → ((a : A) → GrowsIn h (next a)) → GrowsIn h (with_given o next)
  given_grows h None next grows = tt
  given_grows h (Some a) next grows = grows a

  texts_grow : (ts : List (List ℕ)) (h : HeapOf F) (units : ℕ) → GrowsIn h (texts_made ts h units)
  texts_grow [] h units = same_grows h
  texts_grow (t ∷ ts) h units =
      both_grow h (made (Text t) h units) _ (made_grows (Text t) h units) (λ v h1 units1.
      both_grow h1 (texts_made ts h1 units1) (λ vs. heap.Gives (v ∷ vs)) (texts_grow ts h1 units1) (λ vs h2 units2. same_grows h2))

  array_grows : (ts : List (List ℕ)) (h : HeapOf F) (units : ℕ) → GrowsIn h (array_of_texts ts h units)
  unfolding array_of_texts
  array_grows ts h units = both_grow h (texts_made ts h units) (λ vs. made (Array vs)) (texts_grow ts h units) (λ vs h1 units1. made_grows (Array vs) h1 units1)

  thrown_in : (kind : Kind) (h : HeapOf F) (units : ℕ) → GrowsIn h (thrown kind h units)
  unfolding thrown
  thrown_in kind h units =
      both_grow h (made (Text (kind_name kind)) h units) _ (made_grows (Text (kind_name kind)) h units) (λ name h1 units1.
      both_grow h1 (made (Text (kind_message kind)) h1 units1) (λ message. made (error_cell name message Null)) (made_grows (Text (kind_message kind)) h1 units1)
      (λ message h2 units2. made_grows (error_cell name message Null) h2 units2))

  response_in : (status : ℕ) (body : List ℕ) (h : HeapOf F) (units : ℕ) → GrowsIn h (response status body h units)
  unfolding response
  response_in status body h units =
      both_grow h (read_cells (kept_value body) h units) (λ v. made (response_cell status v))
      (from_gives h (read_cells (kept_value body) h units) (λ v h1 units1 gives. read_cells-grows (kept_value body) h units v h1 units1 gives))
      (λ v h1 units1. made_grows (response_cell status v) h1 units1)

  blocked_in : (h : HeapOf F) (units : ℕ) → GrowsIn h (blocked h units)
  unfolding blocked
  blocked_in h units = both_grow h (made (Text (codes "blocked")) h units) (λ v. made (response_cell 0 v)) (made_grows (Text (codes "blocked")) h units) (λ v h1 units1. made_grows (response_cell 0 v) h1 units1)

  -- the natives that only work on the heap
  module _ (vs : List Val) (h : HeapOf F) (units : ℕ) where
    length_in : GrowsIn h (length_called vs h units)
    unfolding length_called
    length_in = given_grows h (option_and_then size_of (cell_given h (argument vs 0))) _ (λ n. same_grows h)

    concat_in : GrowsIn h (concat_called vs h units)
    unfolding concat_called
    concat_in = made_grows (Text (flat_map (concat_text h) vs)) h units

    to_string_in : GrowsIn h (to_string_called vs h units)
    unfolding to_string_called
    to_string_in = made_grows (Text (shown h (argument vs 0))) h units

    to_int_in : GrowsIn h (to_int_called vs h units)
    unfolding to_int_called
    to_int_in = same_grows h

    upper_in : GrowsIn h (upper_called vs h units)
    unfolding upper_called
    upper_in = given_grows h (named_text h (argument vs 0)) _ (λ t. made_grows (Text (map to_ascii_uppercase t)) h units)

    lower_in : GrowsIn h (lower_called vs h units)
    unfolding lower_called
    lower_in = given_grows h (named_text h (argument vs 0)) _ (λ t. made_grows (Text (map to_ascii_lowercase t)) h units)

    trim_in : GrowsIn h (trim_called vs h units)
    unfolding trim_called
    trim_in = given_grows h (named_text h (argument vs 0)) _ (λ t. made_grows (Text (trimmed t)) h units)

    starts_with_in : GrowsIn h (starts_with_called vs h units)
    unfolding starts_with_called
    starts_with_in = given_grows h (named_text h (argument vs 0)) _ (λ t. given_grows h (named_text h (argument vs 1)) _ (λ start. same_grows h))

    replace_all_in : GrowsIn h (replace_all_called vs h units)
    unfolding replace_all_called
    replace_all_in = given_grows h (named_text h (argument vs 0)) _ (λ t. given_grows h (named_text h (argument vs 1)) _ (λ from. given_grows h (named_text h (argument vs 2)) _ (λ to. made_grows (Text (replaced t from to)) h units)))

    split_in : GrowsIn h (split_called vs h units)
    unfolding split_called
    split_in = given_grows h (named_text h (argument vs 0)) _ (λ separator. given_grows h (named_text h (argument vs 1)) _ (λ t. array_grows (pieces separator t) h units))

    keys_of_cell_in : (c : CellOf F) → GrowsIn h (keys_of_cell h units c)
    keys_of_cell_in (Text t) = tt
    keys_of_cell_in (Array items) = made_grows (Array (numbers_to (length items))) h units
    keys_of_cell_in (Dict ps) = array_grows (keys_of ps) h units
    keys_of_cell_in (Fun x) = tt

    keys_in : GrowsIn h (keys_called vs h units)
    unfolding keys_called
    keys_in = given_grows h (cell_given h (argument vs 0)) _ keys_of_cell_in

    values_in : GrowsIn h (values_called vs h units)
    unfolding values_called
    values_in = given_grows h (option_and_then values_of_cell (cell_given h (argument vs 0))) _ (λ items. made_grows (Array items) h units)

    has_in : GrowsIn h (has_called vs h units)
    unfolding has_called
    has_in = given_grows h (items_given h (argument vs 0)) _ (λ items. same_grows h)

    push_back_in : GrowsIn h (push_back_called vs h units)
    unfolding push_back_called
    push_back_in = given_grows h (items_given h (argument vs 0)) _ (λ items. made_grows (Array (items ++ argument vs 1 ∷ [])) h units)

    empty_in : GrowsIn h (empty_called vs h units)
    unfolding empty_called
    empty_in = same_grows h

    json_parse_in : GrowsIn h (json_parse_called vs h units)
    unfolding json_parse_called
    json_parse_in = given_grows h (named_text h (argument vs 0)) _ (λ t. from_gives h (json_cells t h units) (λ v h1 units1 gives. json_cells-grows t h units v h1 units1 gives))

    json_stringify_in : GrowsIn h (json_stringify_called vs h units)
    unfolding json_stringify_called
    json_stringify_in = made_grows (Text (json_text_of h (argument vs 0))) h units

    error_in : GrowsIn h (error_called vs h units)
    unfolding error_called
    error_in = both_grow h (made (Text (codes "Error")) h units) _ (made_grows (Text (codes "Error")) h units) (λ name h1 units1. made_grows (error_cell name (argument vs 0) (argument vs 1)) h1 units1)

    text_or_null_in : (o : Option (List ℕ)) → GrowsIn h (text_or_null h units o)
    text_or_null_in None = same_grows h
    text_or_null_in (Some t) = made_grows (Text t) h units

    date_add_in : GrowsIn h (date_add_called vs h units)
    unfolding date_add_called
    date_add_in = given_grows h (named_text h (argument vs 0)) _ (λ t. given_grows h (int_given (argument vs 1)) _ (λ days. text_or_null_in _))

    date_diff_in : GrowsIn h (date_diff_called vs h units)
    unfolding date_diff_called
    date_diff_in = given_grows h (named_text h (argument vs 0)) _ (λ from. given_grows h (named_text h (argument vs 1)) _ (λ to. same_grows h))

    weekday_in : GrowsIn h (weekday_called vs h units)
    unfolding weekday_called
    weekday_in = given_grows h (named_text h (argument vs 0)) _ (λ t. same_grows h)

  -- the same of a call
  abbrev CallGrows : HeapOf F → Called F → Type 0
  CallGrows h (Gives v h1 m) = Grows h h1
  CallGrows h (Prints text m) = Unit {0}
  CallGrows h (Throws kind) = Unit {0}
  CallGrows h (Asks request m) = Unit {0}
  CallGrows h TurnsSpent = Unit {0}
  CallGrows h UnitsSpent = Unit {0}

  plain : (h : HeapOf F) (o : Outcome F Val) (m : Spent) → GrowsIn h o → CallGrows h (of_outcome o m)
  plain h (heap.Gives v h1 units) m grows = grows
  plain h (heap.Throws kind) m grows = tt
  plain h heap.Spends m grows = tt

  either : (h : HeapOf F) (b : Bool) (x y : Called F) → CallGrows h x → CallGrows h y → CallGrows h (cond b x y)
  either h true x y first second = first
  either h false x y first second = second

  print_in : (vs : List Val) (h : HeapOf F) (m : Spent) → CallGrows h (print_called vs h m)
  unfolding print_called
  print_in vs h m = either h _ (Prints _ _) UnitsSpent tt tt

  asks_in : (request : Request) (h : HeapOf F) (m : Spent) → CallGrows h (asks request m)
  asks_in request h m =
      let units = m.units + (length request.url + length request.options) in
      either h (nat_le units max_units) (Asks request (record m { units = units })) UnitsSpent tt tt

  fetched_in : (url : List ℕ) (options : Val) (h : HeapOf F) (m : Spent) → CallGrows h (fetched url options h m)
  fetched_in url options h m =
      either h (is_allowed url) (asks (record { url = url; options = json_text_of h options }) m) (of_outcome (blocked h m.units) m)
      (asks_in (record { url = url; options = json_text_of h options }) h m) (plain h (blocked h m.units) m (blocked_in h m.units))

  turn_in : (url : List ℕ) (options : Val) (h : HeapOf F) (m : Spent) → CallGrows h (with_turn m (fetched url options h))
  turn_in url options h m =
      let spent = record m { turns = m.turns + 1 } in
      either h (nat_lt m.turns max_turns) (fetched url options h spent) TurnsSpent (fetched_in url options h spent) tt

  from_in : (o : Option (List ℕ)) (options : Val) (h : HeapOf F) (m : Spent) → CallGrows h (fetched_from o options h m)
  from_in None options h m = tt
  from_in (Some url) options h m = either h (are_options h options) (with_turn m (fetched url options h)) (Throws TypeError) (turn_in url options h m) tt

  fetch_in : (vs : List Val) (h : HeapOf F) (m : Spent) → CallGrows h (fetch_called vs h m)
  unfolding fetch_called
  fetch_in vs h m = from_in (named_text h (argument vs 0)) (argument vs 1) h m

  called_in : (native : Native) (vs : List Val) (h : HeapOf F) (m : Spent) → CallGrows h (called native vs h m)
  unfolding called
  called_in Print vs h m = print_in vs h m
  called_in Length vs h m = plain h (length_called vs h m.units) m (length_in vs h m.units)
  called_in Concat vs h m = plain h (concat_called vs h m.units) m (concat_in vs h m.units)
  called_in ToString vs h m = plain h (to_string_called vs h m.units) m (to_string_in vs h m.units)
  called_in ToInt vs h m = plain h (to_int_called vs h m.units) m (to_int_in vs h m.units)
  called_in Upper vs h m = plain h (upper_called vs h m.units) m (upper_in vs h m.units)
  called_in Lower vs h m = plain h (lower_called vs h m.units) m (lower_in vs h m.units)
  called_in Trim vs h m = plain h (trim_called vs h m.units) m (trim_in vs h m.units)
  called_in StartsWith vs h m = plain h (starts_with_called vs h m.units) m (starts_with_in vs h m.units)
  called_in ReplaceAll vs h m = plain h (replace_all_called vs h m.units) m (replace_all_in vs h m.units)
  called_in SplitByString vs h m = plain h (split_called vs h m.units) m (split_in vs h m.units)
  called_in Keys vs h m = plain h (keys_called vs h m.units) m (keys_in vs h m.units)
  called_in Values vs h m = plain h (values_called vs h m.units) m (values_in vs h m.units)
  called_in Has vs h m = plain h (has_called vs h m.units) m (has_in vs h m.units)
  called_in ArrayPushBack vs h m = plain h (push_back_called vs h m.units) m (push_back_in vs h m.units)
  called_in Empty vs h m = plain h (empty_called vs h m.units) m (empty_in vs h m.units)
  called_in JsonParse vs h m = plain h (json_parse_called vs h m.units) m (json_parse_in vs h m.units)
  called_in JsonStringify vs h m = plain h (json_stringify_called vs h m.units) m (json_stringify_in vs h m.units)
  called_in Error vs h m = plain h (error_called vs h m.units) m (error_in vs h m.units)
  called_in Fetch vs h m = fetch_in vs h m
  called_in DateAdd vs h m = plain h (date_add_called vs h m.units) m (date_add_in vs h m.units)
  called_in DateDiff vs h m = plain h (date_diff_called vs h m.units) m (date_diff_in vs h m.units)
  called_in Weekday vs h m = plain h (weekday_called vs h m.units) m (weekday_in vs h m.units)

  -- the heap after a native gives a value is the one before with new cells at its end
  pub called-grows : (native : Native) (vs : List Val) (h : HeapOf F) (m : Spent) (v : Val) (h1 : HeapOf F) (m1 : Spent) → called native vs h m ≡ Gives v h1 m1 → Grows h h1
  called-grows native vs h m v h1 m1 gives = subst (CallGrows h) gives (called_in native vs h m)

  -- and so after a reply
  pub response-grows : (status : ℕ) (body : List ℕ) (h : HeapOf F) (units : ℕ) (v : Val) (h1 : HeapOf F) (units1 : ℕ) → response status body h units ≡ heap.Gives v h1 units1 → Grows h h1
  response-grows status body h units v h1 units1 gives = subst (GrowsIn h) gives (response_in status body h units)

  -- and after a kind was thrown
  pub thrown-grows : (kind : Kind) (h : HeapOf F) (units : ℕ) (v : Val) (h1 : HeapOf F) (units1 : ℕ) → thrown kind h units ≡ heap.Gives v h1 units1 → Grows h h1
  thrown-grows kind h units v h1 units1 gives = subst (GrowsIn h) gives (thrown_in kind h units)
