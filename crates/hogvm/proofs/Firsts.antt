-- The first cells of a run on globals have the globals' among them.
use Rattle.std.proofs.Common.{◌≡◌, ◌+◌, ◌<◌, ◌≤◌, ℕ, List, [], ◌∷◌, ◌++◌, length, Bool, true, false, cond, Option, Some, None, refl, sym, ap, subst, ◌∙◌, arith, length-append}
use Rattle.std.specs.Prelude.{nat_le, unwrap_or}
use Rattle.serde_json.specs.Data.{Data, null, boolean, number, string, array, object}
use Rattle.serde_json.specs.Read.{read}
use Rattle.hog_value.specs.declared.cell.FunCell.{FunCell}
use Rattle.hog_value.specs.Values.{Val}
use Rattle.hog_value.specs.declared.value.Value.TheVariants.{Ref}
use Rattle.hog_value.specs.Meters.{max_units}
use Rattle.hog_value.specs.Cells.{CellOf, Dict, HeapOf, cost_of_cell}
use Rattle.hog_value.specs.Operations.{Outcome, Gives, Throws, Spends, made}
use Rattle.hog_json.specs.Reading.{outcome_and_then, read_cells, read_members, kept_value}
use Rattle.hog_library.specs.Cells.{texts_made}
use Rattle.hog_meaning.specs.Program.{first_cells}
use Rattle.hogvm.specs.Calls.{is_whole_object, is_globals}

module _ (v : Val) (h1 : HeapOf FunCell) (units1 : ℕ) where
  made_some : (c : CellOf FunCell) (h : HeapOf FunCell) (units : ℕ) → made c h units ≡ Gives v h1 units1 → 0 < length h1
  unfolding made
  made_some c h units = go (nat_le (units + cost_of_cell c) max_units)
    where
      go : (b : Bool) → cond b (Gives (Ref (length h)) (h ++ c ∷ []) (units + cost_of_cell c)) Spends ≡ Gives v h1 units1 → 0 < length h1
      go true is = let same : h ++ c ∷ [] ≡ h1 = cc in omega (arith, ap length same, length-append h (c ∷ []))
      go false is = absurd cc

  then_some : {A : Type 0} (o : Outcome FunCell A) (next : A → HeapOf FunCell → ℕ → Outcome FunCell Val) → ((a : A) (h : HeapOf FunCell) (units : ℕ) → next a h units ≡ Gives v h1 units1 → 0 < length h1)
      → outcome_and_then o next ≡ Gives v h1 units1 → 0 < length h1
  then_some (Gives a h units) next some is = some a h units is
  then_some (Throws kind) next some is = absurd cc
  then_some Spends next some is = absurd cc

  cells_some : (d : Data) (h : HeapOf FunCell) (units : ℕ) → is_whole_object (Some d) ≡ true → read_cells d h units ≡ Gives v h1 units1 → 0 < length h1
  cells_some null h units whole is = absurd cc
  cells_some (boolean b) h units whole is = absurd cc
  cells_some (number n) h units whole is = absurd cc
  cells_some (string s) h units whole is = absurd cc
  cells_some (array ds) h units whole is = absurd cc
  cells_some (object ms) h units whole is = then_some (read_members ms h units) (λ ps. made (Dict ps)) (λ ps. made_some (Dict ps)) is

  read_some : (o : Option Data) (h : HeapOf FunCell) (units : ℕ) → is_whole_object o ≡ true → read_cells (unwrap_or o null) h units ≡ Gives v h1 units1 → 0 < length h1
  read_some None h units whole is = absurd cc
  read_some (Some d) h units whole is = cells_some d h units whole is

  pub first_some : (texts : List (List ℕ)) (globals : List ℕ) → is_globals globals ≡ true → first_cells texts globals ≡ Gives v h1 units1 → 0 < length h1
  unfolding first_cells kept_value
  first_some texts globals whole is = then_some (texts_made texts [] 0) (λ vs. read_cells (unwrap_or (read globals) null)) (λ vs h units. read_some (read globals) h units whole) is
