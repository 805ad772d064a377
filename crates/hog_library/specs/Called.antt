-- What a call of a native gives, for any content F of function cells.
use Rattle.std.specs.Prelude.{ℕ, ◌+◌, List, length, Option, Some, None, nat_lt, nat_le, if◌then◌else◌, codes}
use Rattle.std.specs.List.{join_by}
use Rattle.hog_value.specs.declared.value.Kind.{Kind}
use Rattle.hog_value.specs.declared.value.Kind.TheVariants.{TypeError}
use Rattle.hog_value.specs.declared.trace.Request.{Request}
use Rattle.hog_value.specs.declared.native.Native.{Native}
use Rattle.hog_value.specs.declared.native.Native.TheVariants.{Print, Length, Concat, ToString, ToInt, Upper, Lower, Trim, StartsWith, ReplaceAll, SplitByString, Keys, Values, Has, ArrayPushBack, Empty, JsonParse, JsonStringify, Error, Fetch, DateAdd, DateDiff, Weekday}
use Rattle.hog_value.specs.Values.{Val}
use Rattle.hog_value.specs.Meters.{Spent, max_turns, max_units}
use Rattle.hog_value.specs.Cells.{HeapOf, heap_map}
use Rattle.hog_value.specs.Operations as heap
use Rattle.hog_value.specs.Operations.{Outcome}
use Rattle.hog_json.specs.Texts.{shown, json_text_of, named_text}
use Rattle.hog_library.specs.Texts.{is_allowed}
use Rattle.hog_library.specs.Given.{argument, are_options}
use Rattle.hog_library.specs.Cells.{blocked}
use Rattle.hog_library.specs.Natives.{length_called, concat_called, to_string_called, to_int_called, upper_called, lower_called, trim_called, starts_with_called, replace_all_called, split_called, keys_called, values_called, has_called, push_back_called, empty_called, json_parse_called, json_stringify_called, error_called, date_add_called, date_diff_called, weekday_called}

-- What comes of a call: a value, with heap and meter after it; a text that is printed, and the meter after it; a thrown kind;
-- a request whose reply the run waits for, and the meter after it; or that no turn is left, or that the charge doesn't fit.
-- Where it says no heap or no meter, they are as before the call.
pub data Called (F : Type 0) : Type 0 where
  Gives : Val → HeapOf F → Spent → Called F
  Prints : List ℕ → Spent → Called F
  Throws : Kind → Called F
  Asks : Request → Spent → Called F
  TurnsSpent : Called F
  UnitsSpent : Called F

-- the same with f of the content of each function
abbrev pub called_map : {F G : Type 0} → (F → G) → Called F → Called G
called_map f (Gives v h m) = Gives v (heap_map f h) m
called_map f (Prints text m) = Prints text m
called_map f (Throws kind) = Throws kind
called_map f (Asks request m) = Asks request m
called_map f TurnsSpent = TurnsSpent
called_map f UnitsSpent = UnitsSpent

-- what comes of a native that only works on the heap, where m is spent
abbrev pub of_outcome : {F : Type 0} → Outcome F Val → Spent → Called F
of_outcome (heap.Gives v h units) m = Gives v h (record m { units = units })
of_outcome (heap.Throws kind) m = Throws kind
of_outcome heap.Spends m = UnitsSpent

-- printing a text, for its bytes
abbrev pub prints : {F : Type 0} → List ℕ → Spent → Called F
prints text m = if nat_le (m.units + length text) max_units then Prints text (record m { units = m.units + length text }) else UnitsSpent

-- print(x, ..): the shown texts, with a space between each two
unfoldable pub print_called : {F : Type 0} → List Val → HeapOf F → Spent → Called F
print_called vs h m = prints (join_by (shown h) (codes " ") vs) m

-- asking for the reply to a request, for the bytes of its URL and its options
abbrev pub asks : {F : Type 0} → Request → Spent → Called F
asks request m =
    let units = m.units + (length request.url + length request.options) in
    if nat_le units max_units then Asks request (record m { units = units }) else UnitsSpent

-- what comes of a URL after the turn is spent: a request where it is allowed, else the response `blocked`
abbrev pub fetched : {F : Type 0} → List ℕ → Val → HeapOf F → Spent → Called F
fetched url options h m =
    if is_allowed url then asks (record { url = url; options = json_text_of h options }) m
    else of_outcome (blocked h m.units) m

-- spending a turn, and going on
abbrev pub with_turn : {F : Type 0} → Spent → (Spent → Called F) → Called F
with_turn m next = if nat_lt m.turns max_turns then next (record m { turns = m.turns + 1 }) else TurnsSpent

-- what comes of a URL that is a text or not
abbrev pub fetched_from : {F : Type 0} → Option (List ℕ) → Val → HeapOf F → Spent → Called F
fetched_from None options h m = Throws TypeError
fetched_from (Some url) options h m =
    if are_options h options then with_turn m (fetched url options h) else Throws TypeError

-- fetch(url), fetch(url, options): kinds are tested first, then a turn is spent, then the charge
unfoldable pub fetch_called : {F : Type 0} → List Val → HeapOf F → Spent → Called F
fetch_called vs h m = fetched_from (named_text h (argument vs 0)) (argument vs 1) h m

-- what a native gives on arguments, a heap, and what is spent
unfoldable pub called : {F : Type 0} → Native → List Val → HeapOf F → Spent → Called F
called Print vs h m = print_called vs h m
called Length vs h m = of_outcome (length_called vs h m.units) m
called Concat vs h m = of_outcome (concat_called vs h m.units) m
called ToString vs h m = of_outcome (to_string_called vs h m.units) m
called ToInt vs h m = of_outcome (to_int_called vs h m.units) m
called Upper vs h m = of_outcome (upper_called vs h m.units) m
called Lower vs h m = of_outcome (lower_called vs h m.units) m
called Trim vs h m = of_outcome (trim_called vs h m.units) m
called StartsWith vs h m = of_outcome (starts_with_called vs h m.units) m
called ReplaceAll vs h m = of_outcome (replace_all_called vs h m.units) m
called SplitByString vs h m = of_outcome (split_called vs h m.units) m
called Keys vs h m = of_outcome (keys_called vs h m.units) m
called Values vs h m = of_outcome (values_called vs h m.units) m
called Has vs h m = of_outcome (has_called vs h m.units) m
called ArrayPushBack vs h m = of_outcome (push_back_called vs h m.units) m
called Empty vs h m = of_outcome (empty_called vs h m.units) m
called JsonParse vs h m = of_outcome (json_parse_called vs h m.units) m
called JsonStringify vs h m = of_outcome (json_stringify_called vs h m.units) m
called Error vs h m = of_outcome (error_called vs h m.units) m
called Fetch vs h m = fetch_called vs h m
called DateAdd vs h m = of_outcome (date_add_called vs h m.units) m
called DateDiff vs h m = of_outcome (date_diff_called vs h m.units) m
called Weekday vs h m = of_outcome (weekday_called vs h m.units) m
