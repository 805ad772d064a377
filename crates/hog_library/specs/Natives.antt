-- What each native gives, but for `print` and `fetch`: a value with heap and units after it, a thrown kind, or that its charge doesn't fit.
-- An argument of another kind throws TypeError. Nothing looks into a function cell.
use Rattle.std.specs.Prelude.{ℕ, ℤ, pos, ◌+ℤ◌, ◌-ℤ◌, List, [], ◌∷◌, ◌++◌, map, length, Bool, true, false, not, ◌||◌, Option, Some, None, option_map, option_and_then, unwrap_or, codes, flat_map}
use Rattle.std.specs.List.{list_any, range_with_len}
use Rattle.std.specs.Map.{keys_of}
use Rattle.std.specs.Char.{to_ascii_uppercase, to_ascii_lowercase}
use Rattle.hog_value.specs.declared.value.Kind.TheVariants.{TypeError}
use Rattle.hog_value.specs.Values.{Val}
use Rattle.hog_value.specs.declared.value.Value.TheVariants.{Null, Bool as Truth, Int, Ref}
use Rattle.hog_value.specs.Cells.{CellOf, Text, Array, Dict, Fun, HeapOf}
use Rattle.hog_value.specs.Operations.{Outcome, Gives, Throws, made, same_of, truth_of}
use Rattle.hog_json.specs.Texts.{shown, json_text_of, named_text}
use Rattle.hog_json.specs.Reading.{outcome_and_then, json_cells}
use Rattle.hog_extras.specs.Dates.{date_day, day_text, day_of_week}
use Rattle.hog_library.specs.Texts.{count_characters, trimmed, begins_with, pieces, replaced, number_in}
use Rattle.hog_library.specs.Given.{argument, cell_given, items_given, with_given}
use Rattle.hog_library.specs.Cells.{array_of_texts, error_cell}

-- a new text
abbrev pub text_made : {F : Type 0} → HeapOf F → ℕ → List ℕ → Outcome F Val
text_made h units t = made (Text t) h units

-- a new text, or null
abbrev pub text_or_null : {F : Type 0} → HeapOf F → ℕ → Option (List ℕ) → Outcome F Val
text_or_null h units None = Gives Null h units
text_or_null h units (Some t) = text_made h units t

-- how many characters, items or pairs a cell has
abbrev pub size_of : {F : Type 0} → CellOf F → Option ℕ
size_of (Text t) = Some (count_characters t)
size_of (Array vs) = Some (length vs)
size_of (Dict ps) = Some (length ps)
size_of (Fun x) = None

-- length(x): the characters of a text, the items of an array, the pairs of a dictionary
unfoldable pub length_called : {F : Type 0} → List Val → HeapOf F → ℕ → Outcome F Val
length_called vs h units = with_given (option_and_then size_of (cell_given h (argument vs 0))) (λ n. Gives (Int (pos n)) h units)

-- the text of a value in `concat`: null is nothing
abbrev pub concat_text : {F : Type 0} → HeapOf F → Val → List ℕ
concat_text h Null = []
concat_text h (Truth b) = shown h (Truth b)
concat_text h (Int z) = shown h (Int z)
concat_text h (Ref n) = shown h (Ref n)

-- concat(x, ..): the shown texts in a row
unfoldable pub concat_called : {F : Type 0} → List Val → HeapOf F → ℕ → Outcome F Val
concat_called vs h units = text_made h units (flat_map (concat_text h) vs)

-- toString(x): the shown text
unfoldable pub to_string_called : {F : Type 0} → List Val → HeapOf F → ℕ → Outcome F Val
to_string_called vs h units = text_made h units (shown h (argument vs 0))

-- the whole number that a value is or spells
abbrev pub number_of : {F : Type 0} → HeapOf F → Val → Option ℤ
number_of h Null = None
number_of h (Truth true) = Some (pos 1)
number_of h (Truth false) = Some (pos 0)
number_of h (Int z) = Some z
number_of h (Ref n) = option_and_then number_in (named_text h (Ref n))

-- a whole number, or null
abbrev pub number_or_null : Option ℤ → Val
number_or_null o = unwrap_or (option_map Int o) Null

-- toInt(x): the number that x is or spells, 1 for true, 0 for false, and null for all else
unfoldable pub to_int_called : {F : Type 0} → List Val → HeapOf F → ℕ → Outcome F Val
to_int_called vs h units = Gives (number_or_null (number_of h (argument vs 0))) h units

-- upper(text): ASCII letters in upper case
unfoldable pub upper_called : {F : Type 0} → List Val → HeapOf F → ℕ → Outcome F Val
upper_called vs h units = with_given (named_text h (argument vs 0)) (λ t. text_made h units (map to_ascii_uppercase t))

-- lower(text): ASCII letters in lower case
unfoldable pub lower_called : {F : Type 0} → List Val → HeapOf F → ℕ → Outcome F Val
lower_called vs h units = with_given (named_text h (argument vs 0)) (λ t. text_made h units (map to_ascii_lowercase t))

-- trim(text): without blanks at both ends
unfoldable pub trim_called : {F : Type 0} → List Val → HeapOf F → ℕ → Outcome F Val
trim_called vs h units = with_given (named_text h (argument vs 0)) (λ t. text_made h units (trimmed t))

-- startsWith(text, start)
unfoldable pub starts_with_called : {F : Type 0} → List Val → HeapOf F → ℕ → Outcome F Val
starts_with_called vs h units = with_given (named_text h (argument vs 0))
    (λ t. with_given (named_text h (argument vs 1)) (λ start. Gives (Truth (begins_with t start)) h units))

-- replaceAll(text, from, to)
unfoldable pub replace_all_called : {F : Type 0} → List Val → HeapOf F → ℕ → Outcome F Val
replace_all_called vs h units = with_given (named_text h (argument vs 0))
    (λ t. with_given (named_text h (argument vs 1))
    (λ from. with_given (named_text h (argument vs 2)) (λ to. text_made h units (replaced t from to))))

-- splitByString(separator, text): the pieces between the separators
unfoldable pub split_called : {F : Type 0} → List Val → HeapOf F → ℕ → Outcome F Val
split_called vs h units = with_given (named_text h (argument vs 0))
    (λ separator. with_given (named_text h (argument vs 1)) (λ t. array_of_texts (pieces separator t) h units))

-- the numbers from 1 to n
abbrev pub numbers_to : ℕ → List Val
numbers_to n = map (λ k. Int (pos k)) (range_with_len 1 n)

-- the indices of an array, or the keys of a dictionary
abbrev pub keys_of_cell : {F : Type 0} → HeapOf F → ℕ → CellOf F → Outcome F Val
keys_of_cell h units (Text t) = Throws TypeError
keys_of_cell h units (Array vs) = made (Array (numbers_to (length vs))) h units
keys_of_cell h units (Dict ps) = array_of_texts (keys_of ps) h units
keys_of_cell h units (Fun x) = Throws TypeError

-- keys(x): the indices of an array, or the keys of a dictionary as new texts
unfoldable pub keys_called : {F : Type 0} → List Val → HeapOf F → ℕ → Outcome F Val
keys_called vs h units = with_given (cell_given h (argument vs 0)) (keys_of_cell h units)

-- the items of an array, or the values of a dictionary
abbrev pub values_of_cell : {F : Type 0} → CellOf F → Option (List Val)
values_of_cell (Text t) = None
values_of_cell (Array vs) = Some vs
values_of_cell (Dict ps) = Some (map (λ p. p.1) ps)
values_of_cell (Fun x) = None

-- values(x): the items of an array, or the values of a dictionary
unfoldable pub values_called : {F : Type 0} → List Val → HeapOf F → ℕ → Outcome F Val
values_called vs h units = with_given (option_and_then values_of_cell (cell_given h (argument vs 0))) (λ items. made (Array items) h units)

-- has(array, x): whether an item equals x
unfoldable pub has_called : {F : Type 0} → List Val → HeapOf F → ℕ → Outcome F Val
has_called vs h units = with_given (items_given h (argument vs 0))
    (λ items. Gives (Truth (list_any (λ item. same_of h item (argument vs 1)) items)) h units)

-- arrayPushBack(array, x): a new array with x as its last item
unfoldable pub push_back_called : {F : Type 0} → List Val → HeapOf F → ℕ → Outcome F Val
push_back_called vs h units = with_given (items_given h (argument vs 0)) (λ items. made (Array (items ++ argument vs 1 ∷ [])) h units)

-- whether an array or a dictionary has nothing in it
abbrev pub has_nothing : {F : Type 0} → CellOf F → Bool
has_nothing (Text t) = false
has_nothing (Array []) = true
has_nothing (Array (v ∷ vs)) = false
has_nothing (Dict []) = true
has_nothing (Dict (p ∷ ps)) = false
has_nothing (Fun x) = false

-- whether a value is false, or names an array or a dictionary with nothing in it
abbrev pub is_empty : {F : Type 0} → HeapOf F → Val → Bool
is_empty h v = not (truth_of h v) || unwrap_or (option_map has_nothing (cell_given h v)) false

-- empty(x)
unfoldable pub empty_called : {F : Type 0} → List Val → HeapOf F → ℕ → Outcome F Val
empty_called vs h units = Gives (Truth (is_empty h (argument vs 0))) h units

-- jsonParse(text): the cells of a text of JSON
unfoldable pub json_parse_called : {F : Type 0} → List Val → HeapOf F → ℕ → Outcome F Val
json_parse_called vs h units = with_given (named_text h (argument vs 0)) (λ t. json_cells t h units)

-- jsonStringify(x): the text of JSON
unfoldable pub json_stringify_called : {F : Type 0} → List Val → HeapOf F → ℕ → Outcome F Val
json_stringify_called vs h units = text_made h units (json_text_of h (argument vs 0))

-- Error(message), Error(message, payload): a dictionary as those of thrown kinds
unfoldable pub error_called : {F : Type 0} → List Val → HeapOf F → ℕ → Outcome F Val
error_called vs h units = outcome_and_then (made (Text (codes "Error")) h units)
    (λ name. made (error_cell name (argument vs 0) (argument vs 1)))

-- the whole number that a value is
abbrev pub int_given : Val → Option ℤ
int_given Null = None
int_given (Truth b) = None
int_given (Int z) = Some z
int_given (Ref n) = None

-- dateAdd(date, days): the date so many days later, or null
unfoldable pub date_add_called : {F : Type 0} → List Val → HeapOf F → ℕ → Outcome F Val
date_add_called vs h units = with_given (named_text h (argument vs 0))
    (λ t. with_given (int_given (argument vs 1))
    (λ days. text_or_null h units (option_and_then (λ day. day_text (day +ℤ days)) (date_day t))))

-- how many days the second date is after the first
abbrev pub days_between : List ℕ → List ℕ → Option ℤ
days_between from to = option_and_then (λ first. option_map (λ second. second -ℤ first) (date_day to)) (date_day from)

-- dateDiff(from, to): the days from one date to another, or null
unfoldable pub date_diff_called : {F : Type 0} → List Val → HeapOf F → ℕ → Outcome F Val
date_diff_called vs h units = with_given (named_text h (argument vs 0))
    (λ from. with_given (named_text h (argument vs 1)) (λ to. Gives (number_or_null (days_between from to)) h units))

-- weekday(date): from 1 for Monday to 7 for Sunday, or null
unfoldable pub weekday_called : {F : Type 0} → List Val → HeapOf F → ℕ → Outcome F Val
weekday_called vs h units = with_given (named_text h (argument vs 0))
    (λ t. Gives (number_or_null (option_map (λ n. pos n) (option_and_then day_of_week (date_day t)))) h units)
