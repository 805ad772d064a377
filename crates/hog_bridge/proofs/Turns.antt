-- What natives do to the meter, and that cells that are made together throw nothing.
use Rattle.std.proofs.Common.{◌≡◌, ℕ, ◌+◌, ◌<◌, ◌≤◌, List, [], ◌∷◌, ◌++◌, length, Option, Some, None, Bool, true, false, cond, refl, arith}
use Rattle.std.specs.Prelude.{nat_lt, nat_le}
use Rattle.std.proofs.lemmas.Bool.Decides.{nat_tests}
use Rattle.serde_json.specs.Data.{Data, null, boolean, number, string, array, object, Items, no_items, item, Members, no_members, member}
use Rattle.hog_value.specs.declared.native.Native.{Native}
use Rattle.hog_value.specs.declared.native.Native.TheVariants.{Print, Length, Concat, ToString, ToInt, Upper, Lower, Trim, StartsWith, ReplaceAll, SplitByString, Keys, Values, Has, ArrayPushBack, Empty, JsonParse, JsonStringify, Error, Fetch, DateAdd, DateDiff, Weekday}
use Rattle.hog_value.specs.declared.value.Value.TheVariants.{Ref}
use Rattle.hog_value.specs.declared.trace.Request.{Request}
use Rattle.hog_value.specs.Values.{Val}
use Rattle.hog_value.specs.Meters.{Spent, max_turns, max_units}
use Rattle.hog_value.specs.Cells.{CellOf, Text, Array, Dict, HeapOf, cost_of_cell}
use Rattle.hog_value.specs.Operations.{Outcome, made}
use Rattle.hog_value.specs.Operations as heap
use Rattle.hog_json.specs.Reading.{outcome_and_then, read_cells, read_items, read_members, kept_value}
use Rattle.hog_json.specs.Texts.{json_text_of, named_text}
use Rattle.hog_library.specs.Texts.{is_allowed}
use Rattle.hog_library.specs.Given.{argument, are_options}
use Rattle.hog_library.specs.Called.{Called, Gives, Prints, Throws, Asks, TurnsSpent, UnitsSpent, called, of_outcome, prints, print_called, asks, fetched, fetched_from, fetch_called, with_turn}
use Rattle.hog_library.specs.Cells.{response, response_cell, blocked}

-- no turn comes back, and a request spends one
abbrev pub TurnsGo : {F : Type 0} → ℕ → Called F → Type 0
TurnsGo t (Gives v h m) = t ≤ m.turns
TurnsGo t (Prints text m) = t ≤ m.turns
TurnsGo t (Throws kind) = Unit {0}
TurnsGo t (Asks request m) = (t < m.turns) × (m.turns ≤ max_turns)
TurnsGo t TurnsSpent = Unit {0}
TurnsGo t UnitsSpent = Unit {0}

prints_turns : (F : Type 0) (text : List ℕ) (m : Spent) → TurnsGo {F = F} m.turns (prints text m)
prints_turns F text m = go (nat_le (m.units + length text) max_units)
  where
    go : (b : Bool) → TurnsGo {F = F} m.turns (cond b (Prints text (record m { units = m.units + length text })) UnitsSpent)
    go true = omega arith
    go false = tt

module _ {F : Type 0} where
  outcome_turns : (t : ℕ) (o : Outcome F Val) (m : Spent) → t ≤ m.turns → TurnsGo t (of_outcome o m)
  outcome_turns t (heap.Gives v h units) m le = le
  outcome_turns t (heap.Throws kind) m le = tt
  outcome_turns t heap.Spends m le = tt

  either : (t : ℕ) (b : Bool) (x y : Called F) → TurnsGo t x → TurnsGo t y → TurnsGo t (cond b x y)
  either t true x y p q = p
  either t false x y p q = q

  same : (o : Outcome F Val) (m : Spent) → TurnsGo m.turns (of_outcome o m)
  same o m = outcome_turns m.turns o m (omega arith)

  print_turns : (vs : List Val) (h : HeapOf F) (m : Spent) → TurnsGo m.turns (print_called vs h m)
  unfolding print_called
  print_turns vs h m = prints_turns F _ m

  fetched_turns : (url : List ℕ) (options : Val) (h : HeapOf F) (m : Spent) (t : ℕ) → t < m.turns → m.turns ≤ max_turns → TurnsGo t (fetched url options h m)
  fetched_turns url options h m t lt le =
      let request : Request = record { url = url; options = json_text_of h options } in
      either t (is_allowed url) (asks request m) (of_outcome (blocked h m.units) m) (go request (nat_le (m.units + (length request.url + length request.options)) max_units))
      (outcome_turns t (blocked h m.units) m (omega arith))
    where
      go : (request : Request) (b : Bool) → TurnsGo {F = F} t (cond b (Asks request (record m { units = m.units + (length request.url + length request.options) })) UnitsSpent)
      go request true = (lt, le)
      go request false = tt

  from_turns : (o : Option (List ℕ)) (options : Val) (h : HeapOf F) (m : Spent) → TurnsGo m.turns (fetched_from o options h m)
  from_turns None options h m = tt
  from_turns (Some url) options h m =
      either m.turns (are_options h options) (with_turn m (fetched url options h)) _ (go (nat_lt m.turns max_turns) refl) tt
    where
      go : (b : Bool) → nat_lt m.turns max_turns ≡ b → TurnsGo m.turns (cond b (fetched url options h (record m { turns = m.turns + 1 })) TurnsSpent)
      go true e = let lt : m.turns < max_turns = grind (arith, nat_tests) in fetched_turns url options h (record m { turns = m.turns + 1 }) m.turns (omega arith) (omega arith)
      go false e = tt

  fetch_turns : (vs : List Val) (h : HeapOf F) (m : Spent) → TurnsGo m.turns (fetch_called vs h m)
  unfolding fetch_called
  fetch_turns vs h m = from_turns (named_text h (argument vs 0)) (argument vs 1) h m

  pub called_turns : (n : Native) (vs : List Val) (h : HeapOf F) (m : Spent) → TurnsGo m.turns (called n vs h m)
  unfolding called
  called_turns Print vs h m = print_turns vs h m
  called_turns Length vs h m = same _ m
  called_turns Concat vs h m = same _ m
  called_turns ToString vs h m = same _ m
  called_turns ToInt vs h m = same _ m
  called_turns Upper vs h m = same _ m
  called_turns Lower vs h m = same _ m
  called_turns Trim vs h m = same _ m
  called_turns StartsWith vs h m = same _ m
  called_turns ReplaceAll vs h m = same _ m
  called_turns SplitByString vs h m = same _ m
  called_turns Keys vs h m = same _ m
  called_turns Values vs h m = same _ m
  called_turns Has vs h m = same _ m
  called_turns ArrayPushBack vs h m = same _ m
  called_turns Empty vs h m = same _ m
  called_turns JsonParse vs h m = same _ m
  called_turns JsonStringify vs h m = same _ m
  called_turns Error vs h m = same _ m
  called_turns Fetch vs h m = fetch_turns vs h m
  called_turns DateAdd vs h m = same _ m
  called_turns DateDiff vs h m = same _ m
  called_turns Weekday vs h m = same _ m

-- nothing is thrown
abbrev pub Calm : {F A : Type 0} → Outcome F A → Type 0
Calm (heap.Gives a h units) = Unit {0}
Calm (heap.Throws kind) = ⊥
Calm heap.Spends = Unit {0}

module _ {F : Type 0} where
  pub calm_then : {A B : Type 0} (o : Outcome F A) (next : A → HeapOf F → ℕ → Outcome F B) → Calm o → ((a : A) (h : HeapOf F) (units : ℕ) → Calm (next a h units)) → Calm (outcome_and_then o next)
  calm_then (heap.Gives a h units) next c k = k a h units
  calm_then (heap.Throws kind) next c k = c
  calm_then heap.Spends next c k = tt

  pub made_calm : (c : CellOf F) (h : HeapOf F) (units : ℕ) → Calm (made c h units)
  unfolding made
  made_calm c h units = go (nat_le (units + cost_of_cell c) max_units)
    where
      go : (b : Bool) → Calm (cond b (heap.Gives (Ref (length h)) (h ++ c ∷ []) (units + cost_of_cell c)) heap.Spends)
      go true = tt
      go false = tt

  mutual
    read_calm : (d : Data) (h : HeapOf F) (units : ℕ) → Calm (read_cells d h units)
    read_calm null h units = tt
    read_calm (boolean b) h units = tt
    read_calm (number n) h units = tt
    read_calm (string s) h units = made_calm (Text s) h units
    read_calm (array ds) h units = calm_then (read_items ds h units) (λ vs. made (Array vs)) (items_calm ds h units) (λ vs. made_calm (Array vs))
    read_calm (object ms) h units = calm_then (read_members ms h units) (λ ps. made (Dict ps)) (members_calm ms h units) (λ ps. made_calm (Dict ps))

    items_calm : (ds : Items) (h : HeapOf F) (units : ℕ) → Calm (read_items ds h units)
    items_calm no_items h units = tt
    items_calm (item d ds) h units = calm_then (read_cells d h units) _ (read_calm d h units)
        (λ v h1 units1. calm_then (read_items ds h1 units1) _ (items_calm ds h1 units1) (λ vs h2 u2. tt))

    members_calm : (ms : Members) (h : HeapOf F) (units : ℕ) → Calm (read_members ms h units)
    members_calm no_members h units = tt
    members_calm (member k d ms) h units = calm_then (read_cells d h units) _ (read_calm d h units)
        (λ v h1 units1. calm_then (read_members ms h1 units1) _ (members_calm ms h1 units1) (λ ps h2 u2. tt))

  pub response_calm : (status : ℕ) (body : List ℕ) (h : HeapOf F) (units : ℕ) → Calm (response status body h units)
  unfolding response
  response_calm status body h units =
      calm_then (read_cells (kept_value body) h units) (λ v. made (response_cell status v)) (read_calm (kept_value body) h units) (λ v. made_calm (response_cell status v))
