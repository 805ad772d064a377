-- What a native does to the turns: a request spends one, and nothing gives one back.
use Rattle.std.proofs.Common.{◌≡◌, ℕ, ◌+◌, ◌<◌, ◌≤◌, List, length, Option, Some, None, Bool, true, false, cond, refl, arith}
use Rattle.std.specs.Prelude.{nat_lt, nat_le}
use Rattle.std.proofs.lemmas.Bool.Decides.{nat_tests}
use Rattle.hog_value.specs.declared.native.Native.{Native}
use Rattle.hog_value.specs.declared.native.Native.TheVariants.{Print, Fetch}
use Rattle.hog_value.specs.declared.value.Kind.TheVariants.{TypeError}
use Rattle.hog_value.specs.declared.trace.Request.{Request}
use Rattle.hog_value.specs.Values.{Val}
use Rattle.hog_value.specs.Meters.{Spent, max_turns, max_units}
use Rattle.hog_value.specs.Cells.{HeapOf}
use Rattle.hog_value.specs.Operations as heap
use Rattle.hog_value.specs.Operations.{Outcome}
use Rattle.hog_json.specs.Texts.{json_text_of, named_text}
use Rattle.hog_library.specs.Texts.{is_allowed}
use Rattle.hog_library.specs.Given.{argument, are_options}
use Rattle.hog_library.specs.Cells.{blocked}
use Rattle.hog_library.specs.Called as native
use Rattle.hog_library.specs.Called.{Called, of_outcome, prints, print_called, asks, fetched, with_turn, fetched_from, fetch_called, called}

abbrev pub TurnsOf : {F : Type 0} → Called F → ℕ → Type 0
TurnsOf (native.Gives v h m) turns = turns ≤ m.turns
TurnsOf (native.Prints text m) turns = turns ≤ m.turns
TurnsOf (native.Throws kind) turns = Unit {0}
TurnsOf (native.Asks request m) turns = (turns < max_turns) × (m.turns ≡ turns + 1)
TurnsOf native.TurnsSpent turns = Unit {0}
TurnsOf native.UnitsSpent turns = Unit {0}

self : (n : ℕ) → n ≤ n
self n = omega arith

printed : (F : Type 0) (text : List ℕ) (m : Spent) → TurnsOf {F = F} (prints text m) m.turns
printed F text m = go (nat_le (m.units + length text) max_units)
  where
    go : (b : Bool) → TurnsOf {F = F} (cond b (native.Prints text (record m { units = m.units + length text })) native.UnitsSpent) m.turns
    go true = self m.turns
    go false = tt

asked : (F : Type 0) (request : Request) (m : Spent) (turns : ℕ) → turns < max_turns → m.turns ≡ turns + 1 → TurnsOf {F = F} (asks request m) turns
asked F request m turns lt is = go (nat_le (m.units + (length request.url + length request.options)) max_units)
  where
    go : (b : Bool) → TurnsOf {F = F} (cond b (native.Asks request (record m { units = m.units + (length request.url + length request.options) })) native.UnitsSpent) turns
    go true = (lt, is)
    go false = tt

module _ {F : Type 0} where
  of_one : (o : Outcome F Val) (m : Spent) (turns : ℕ) → turns ≤ m.turns → TurnsOf (of_outcome o m) turns
  of_one (heap.Gives v h units) m turns le = le
  of_one (heap.Throws kind) m turns le = tt
  of_one heap.Spends m turns le = tt

  fetched_turns : (url : List ℕ) (options : Val) (h : HeapOf F) (m : Spent) (turns : ℕ) → turns < max_turns → m.turns ≡ turns + 1 → TurnsOf (fetched url options h m) turns
  fetched_turns url options h m turns lt is = go (is_allowed url)
    where
      go : (b : Bool) → TurnsOf (cond b (asks (record { url = url; options = json_text_of h options }) m) (of_outcome (blocked h m.units) m)) turns
      go true = asked F (record { url = url; options = json_text_of h options }) m turns lt is
      go false = of_one (blocked h m.units) m turns (omega arith)

  turn_spent : (url : List ℕ) (options : Val) (h : HeapOf F) (m : Spent) → TurnsOf (with_turn m (fetched url options h)) m.turns
  turn_spent url options h m = go (nat_lt m.turns max_turns) refl
    where
      go : (b : Bool) → nat_lt m.turns max_turns ≡ b → TurnsOf (cond b (fetched url options h (record m { turns = m.turns + 1 })) native.TurnsSpent) m.turns
      go true e = fetched_turns url options h (record m { turns = m.turns + 1 }) m.turns (grind (arith, nat_tests)) refl
      go false e = tt

  from_url : (o : Option (List ℕ)) (options : Val) (h : HeapOf F) (m : Spent) → TurnsOf (fetched_from o options h m) m.turns
  from_url None options h m = tt
  from_url (Some url) options h m = go (are_options h options)
    where
      go : (b : Bool) → TurnsOf (cond b (with_turn m (fetched url options h)) (native.Throws TypeError)) m.turns
      go true = turn_spent url options h m
      go false = tt

  pub called_turns : (n : Native) (vs : List Val) (h : HeapOf F) (m : Spent) → TurnsOf (called n vs h m) m.turns
  unfolding called print_called fetch_called
  called_turns Print vs h m = printed F _ m
  called_turns Fetch vs h m = from_url (named_text h (argument vs 0)) (argument vs 1) h m
  called_turns n vs h m = of_one _ m m.turns (self m.turns)
