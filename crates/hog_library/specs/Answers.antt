-- The answers of `call_native` as those of the definition.
use Rattle.std.specs.Prelude.{◌≡◌, ℕ, List, length, Result, Ok, Err, IfOk, OnErr}
use Rattle.hog_value.specs.declared.cell.FunCell.{FunCell}
use Rattle.hog_value.specs.declared.value.Stop.{Stop}
use Rattle.hog_value.specs.declared.value.Stop.TheVariants as stop
use Rattle.hog_value.specs.Values.{Val, NamesBelow}
use Rattle.hog_value.specs.Meters.{Spent}
use Rattle.hog_value.specs.Cells.{HeapOf, IsCovered}
use Rattle.hog_json.specs.Reading.{Grows}
use Rattle.hog_library.specs.declared.call.NativeAnswer.{NativeAnswer}
use Rattle.hog_library.specs.declared.call.NativeAnswer.TheVariants as answer
use Rattle.hog_library.specs.declared.call.CallStop.{CallStop}
use Rattle.hog_library.specs.declared.call.CallStop.TheVariants as call
use Rattle.hog_value.specs.declared.native.Native.{Native}
use Rattle.hog_value.specs.declared.native.Native.TheVariants.{Print, Length, Concat, ToString, ToInt, Upper, Lower, Trim, StartsWith, ReplaceAll, SplitByString, Keys, Values, Has, ArrayPushBack, Empty, JsonParse, JsonStringify, Error, Fetch, DateAdd, DateDiff, Weekday}
use Rattle.hog_value.specs.Operations.{Outcome, Spends}
use Rattle.hog_library.specs.Natives.{length_called, concat_called, to_string_called, to_int_called, upper_called, lower_called, trim_called, starts_with_called, replace_all_called, split_called, keys_called, values_called, has_called, push_back_called, empty_called, json_stringify_called, date_add_called, date_diff_called, weekday_called, json_parse_called, error_called}
use Rattle.hog_library.specs.Called.{Called, Gives, Prints, Throws, Asks, TurnsSpent, UnitsSpent}

-- the answer, with heap and meter after it
abbrev pub answered : {F : Type 0} → NativeAnswer → HeapOf F → Spent → Called F
answered (answer.Gives v) h m = Gives v h m
answered (answer.Prints text) h m = Prints text m
answered (answer.Throws kind) h m = Throws kind
answered (answer.Asks request) h m = Asks request m

-- what the answer leaves as before: a print and a request the heap, a thrown kind the meter too
abbrev pub Keeps : {F : Type 0} → NativeAnswer → HeapOf F → HeapOf F → Spent → Spent → Type 0
Keeps (answer.Gives v) before after meter now = Unit {0}
Keeps (answer.Prints text) before after meter now = after ≡ before
Keeps (answer.Throws kind) before after meter now = (after ≡ before) × (now ≡ meter)
Keeps (answer.Asks request) before after meter now = after ≡ before

-- a value that is given names one of the first n cells, where it names one
abbrev pub AnswerNames : ℕ → NativeAnswer → Type 0
AnswerNames n (answer.Gives v) = NamesBelow n v
AnswerNames n (answer.Prints text) = Unit {0}
AnswerNames n (answer.Throws kind) = Unit {0}
AnswerNames n (answer.Asks request) = Unit {0}

-- why an operation on the heap stopped, as why the call does
abbrev pub call_stop : Stop → CallStop
call_stop stop.UnitsSpent = call.UnitsSpent
call_stop stop.OutOfMemory = call.OutOfMemory

-- the answer of a call is what its definition says; where it stops, heap and meter are as before
pub record Follows (o : Called FunCell) (result : Result NativeAnswer CallStop) (before after : HeapOf FunCell) (meter now : Spent) : Type 0 where
  pub ok : IfOk result (λ a. o ≡ answered a after now)
  pub kept : IfOk result (λ a. Keeps a before after meter now)
  pub names : IfOk result (AnswerNames (length after))
  pub turns : result ≡ Err call.TurnsSpent → o ≡ TurnsSpent
  pub units : result ≡ Err call.UnitsSpent → o ≡ UnitsSpent
  pub err : OnErr result (after ≡ before)
  pub err_meter : OnErr result (now ≡ meter)
  pub grows : Grows before after
  pub covered : IsCovered after now.units

-- a value that was made, as an answer
abbrev pub given_made : Result Val Stop → Result NativeAnswer CallStop
given_made (Ok v) = Ok (answer.Gives v)
given_made (Err e) = Err (call_stop e)

-- the natives that only work on the heap and find out what to make before they make anything
abbrev pub IsPlain : Native → Type 0
IsPlain Print = ⊥
IsPlain Fetch = ⊥
IsPlain JsonParse = ⊥
IsPlain Error = ⊥
IsPlain Length = Unit {0}
IsPlain Concat = Unit {0}
IsPlain ToString = Unit {0}
IsPlain ToInt = Unit {0}
IsPlain Upper = Unit {0}
IsPlain Lower = Unit {0}
IsPlain Trim = Unit {0}
IsPlain StartsWith = Unit {0}
IsPlain ReplaceAll = Unit {0}
IsPlain SplitByString = Unit {0}
IsPlain Keys = Unit {0}
IsPlain Values = Unit {0}
IsPlain Has = Unit {0}
IsPlain ArrayPushBack = Unit {0}
IsPlain Empty = Unit {0}
IsPlain JsonStringify = Unit {0}
IsPlain DateAdd = Unit {0}
IsPlain DateDiff = Unit {0}
IsPlain Weekday = Unit {0}

-- what such a native gives; the other four are asked nothing here
abbrev pub plain_called : {F : Type 0} → Native → List Val → HeapOf F → ℕ → Outcome F Val
plain_called Length vs h units = length_called vs h units
plain_called Concat vs h units = concat_called vs h units
plain_called ToString vs h units = to_string_called vs h units
plain_called ToInt vs h units = to_int_called vs h units
plain_called Upper vs h units = upper_called vs h units
plain_called Lower vs h units = lower_called vs h units
plain_called Trim vs h units = trim_called vs h units
plain_called StartsWith vs h units = starts_with_called vs h units
plain_called ReplaceAll vs h units = replace_all_called vs h units
plain_called SplitByString vs h units = split_called vs h units
plain_called Keys vs h units = keys_called vs h units
plain_called Values vs h units = values_called vs h units
plain_called Has vs h units = has_called vs h units
plain_called ArrayPushBack vs h units = push_back_called vs h units
plain_called Empty vs h units = empty_called vs h units
plain_called JsonStringify vs h units = json_stringify_called vs h units
plain_called DateAdd vs h units = date_add_called vs h units
plain_called DateDiff vs h units = date_diff_called vs h units
plain_called Weekday vs h units = weekday_called vs h units
plain_called JsonParse vs h units = json_parse_called vs h units
plain_called Error vs h units = error_called vs h units
plain_called Print vs h units = Spends
plain_called Fetch vs h units = Spends
