-- No call of a native looks into a function cell: it gives the same whatever the functions hold.
use Rattle.std.proofs.Common.{◌≡◌, ℕ, List, [], ◌∷◌, ◌++◌, Bool, true, false, cond, Option, Some, None, refl, ap, ap₂, ◌∙◌}
use Rattle.std.specs.Prelude.{codes, flat_map, nat_lt, ◌+◌}
use Rattle.std.specs.List.{join_by}
use Rattle.hog_value.specs.declared.native.Native.{Native}
use Rattle.hog_value.specs.declared.native.Native.TheVariants.{Print, Length, Concat, ToString, ToInt, Upper, Lower, Trim, StartsWith, ReplaceAll, SplitByString, Keys, Values, Has, ArrayPushBack, Empty, JsonParse, JsonStringify, Error, Fetch, DateAdd, DateDiff, Weekday}
use Rattle.hog_value.specs.Values.{Val}
use Rattle.hog_value.specs.declared.value.Kind.TheVariants.{TypeError}
use Rattle.hog_value.specs.Meters.{Spent, max_turns}
use Rattle.hog_value.specs.Cells.{HeapOf, heap_map}
use Rattle.hog_value.specs.Operations as heap
use Rattle.hog_value.specs.Operations.{Outcome, outcome_map}
use Rattle.hog_json.specs.Texts.{shown, json_text_of, named_text}
use Rattle.hog_json.proofs.Naturality.{shown-heap_map, json_text_of-heap_map}
use Rattle.hog_library.specs.Texts.{is_allowed}
use Rattle.hog_library.specs.Given.{argument, are_options}
use Rattle.hog_library.specs.Cells.{blocked}
use Rattle.hog_library.specs.Called.{Called, Throws, TurnsSpent, called_map, of_outcome, prints, print_called, asks, fetched, with_turn, fetched_from, fetch_called, called}
use Rattle.hog_library.proofs.TextNaturality.{text_same, to_string_called-heap_map, upper_called-heap_map, lower_called-heap_map, trim_called-heap_map, starts_with_called-heap_map, replace_all_called-heap_map, split_called-heap_map, json_parse_called-heap_map, json_stringify_called-heap_map, date_add_called-heap_map, date_diff_called-heap_map, weekday_called-heap_map}
use Rattle.hog_library.proofs.CellNaturality.{are_options-heap_map, blocked-heap_map, length_called-heap_map, concat_called-heap_map, to_int_called-heap_map, keys_called-heap_map, values_called-heap_map, has_called-heap_map, push_back_called-heap_map, empty_called-heap_map, error_called-heap_map}

module _ {F G : Type 0} (f : F → G) where
  either : (b : Bool) (x y : Called F) → cond b (called_map f x) (called_map f y) ≡ called_map f (cond b x y)
  either true x y = refl
  either false x y = refl

  step : (o : Outcome F Val) (m : Spent) → of_outcome (outcome_map f o) m ≡ called_map f (of_outcome o m)
  step (heap.Gives v h units) m = refl
  step (heap.Throws kind) m = refl
  step heap.Spends m = refl

  -- a native that only works on the heap
  plain : (there : Outcome G Val) (here : Outcome F Val) (m : Spent) → there ≡ outcome_map f here → of_outcome there m ≡ called_map f (of_outcome here m)
  plain there here m same = ap (λ o. of_outcome o m) same ∙ step here m

  tail_same : (h : HeapOf F) (mark : List ℕ) (vs : List Val) → flat_map (λ v. mark ++ shown (heap_map f h) v) vs ≡ flat_map (λ v. mark ++ shown h v) vs
  tail_same h mark [] = refl
  tail_same h mark (v ∷ vs) = ap₂ (λ (s t : List ℕ). (mark ++ s) ++ t) (shown-heap_map f h v) (tail_same h mark vs)

  join_same : (h : HeapOf F) (mark : List ℕ) (vs : List Val) → join_by (shown (heap_map f h)) mark vs ≡ join_by (shown h) mark vs
  join_same h mark [] = refl
  join_same h mark (v ∷ vs) = ap₂ (λ (s t : List ℕ). s ++ t) (shown-heap_map f h v) (tail_same h mark vs)

  pub print_called-heap_map : (vs : List Val) (h : HeapOf F) (m : Spent) → print_called vs (heap_map f h) m ≡ called_map f (print_called vs h m)
  unfolding print_called
  print_called-heap_map vs h m = ap (λ t. prints t m) (join_same h (codes " ") vs) ∙ either _ _ _

  fetched_same : (url : List ℕ) (options : Val) (h : HeapOf F) (m : Spent) → fetched url options (heap_map f h) m ≡ called_map f (fetched url options h m)
  fetched_same url options h m =
      ap₂ (λ (a b : Called G). cond (is_allowed url) a b)
      (ap (λ t. asks (record { url = url; options = t }) m) (json_text_of-heap_map f h options) ∙ either _ _ _)
      (plain (blocked (heap_map f h) m.units) (blocked h m.units) m (blocked-heap_map f h m.units))
      ∙ either (is_allowed url) (asks (record { url = url; options = json_text_of h options }) m) (of_outcome (blocked h m.units) m)

  turn_same : (url : List ℕ) (options : Val) (h : HeapOf F) (m : Spent) → with_turn m (fetched url options (heap_map f h)) ≡ called_map f (with_turn m (fetched url options h))
  turn_same url options h m =
      let spent = record m { turns = m.turns + 1 } in
      ap (λ (c : Called G). cond (nat_lt m.turns max_turns) c TurnsSpent) (fetched_same url options h spent)
      ∙ either (nat_lt m.turns max_turns) (fetched url options h spent) TurnsSpent

  from_same : (o : Option (List ℕ)) (options : Val) (h : HeapOf F) (m : Spent) → fetched_from o options (heap_map f h) m ≡ called_map f (fetched_from o options h m)
  from_same None options h m = refl
  from_same (Some url) options h m =
      ap₂ (λ b (c : Called G). cond b c (Throws TypeError)) (are_options-heap_map f h options) (turn_same url options h m)
      ∙ either (are_options h options) (with_turn m (fetched url options h)) (Throws TypeError)

  pub fetch_called-heap_map : (vs : List Val) (h : HeapOf F) (m : Spent) → fetch_called vs (heap_map f h) m ≡ called_map f (fetch_called vs h m)
  unfolding fetch_called
  fetch_called-heap_map vs h m =
      ap (λ o. fetched_from o (argument vs 1) (heap_map f h) m) (text_same f h (argument vs 0))
      ∙ from_same (named_text h (argument vs 0)) (argument vs 1) h m

  -- each native
  pub called-heap_map : (native : Native) (vs : List Val) (h : HeapOf F) (m : Spent) → called native vs (heap_map f h) m ≡ called_map f (called native vs h m)
  unfolding called
  called-heap_map Print vs h m = print_called-heap_map vs h m
  called-heap_map Length vs h m = plain _ _ m (length_called-heap_map f vs h m.units)
  called-heap_map Concat vs h m = plain _ _ m (concat_called-heap_map f vs h m.units)
  called-heap_map ToString vs h m = plain _ _ m (to_string_called-heap_map f vs h m.units)
  called-heap_map ToInt vs h m = plain _ _ m (to_int_called-heap_map f vs h m.units)
  called-heap_map Upper vs h m = plain _ _ m (upper_called-heap_map f vs h m.units)
  called-heap_map Lower vs h m = plain _ _ m (lower_called-heap_map f vs h m.units)
  called-heap_map Trim vs h m = plain _ _ m (trim_called-heap_map f vs h m.units)
  called-heap_map StartsWith vs h m = plain _ _ m (starts_with_called-heap_map f vs h m.units)
  called-heap_map ReplaceAll vs h m = plain _ _ m (replace_all_called-heap_map f vs h m.units)
  called-heap_map SplitByString vs h m = plain _ _ m (split_called-heap_map f vs h m.units)
  called-heap_map Keys vs h m = plain _ _ m (keys_called-heap_map f vs h m.units)
  called-heap_map Values vs h m = plain _ _ m (values_called-heap_map f vs h m.units)
  called-heap_map Has vs h m = plain _ _ m (has_called-heap_map f vs h m.units)
  called-heap_map ArrayPushBack vs h m = plain _ _ m (push_back_called-heap_map f vs h m.units)
  called-heap_map Empty vs h m = plain _ _ m (empty_called-heap_map f vs h m.units)
  called-heap_map JsonParse vs h m = plain _ _ m (json_parse_called-heap_map f vs h m.units)
  called-heap_map JsonStringify vs h m = plain _ _ m (json_stringify_called-heap_map f vs h m.units)
  called-heap_map Error vs h m = plain _ _ m (error_called-heap_map f vs h m.units)
  called-heap_map Fetch vs h m = fetch_called-heap_map vs h m
  called-heap_map DateAdd vs h m = plain _ _ m (date_add_called-heap_map f vs h m.units)
  called-heap_map DateDiff vs h m = plain _ _ m (date_diff_called-heap_map f vs h m.units)
  called-heap_map Weekday vs h m = plain _ _ m (weekday_called-heap_map f vs h m.units)
