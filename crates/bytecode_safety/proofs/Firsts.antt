-- The first cells of a run, and the cells of a reply's response.
use Rattle.std.proofs.Common.{ℕ, ◌+◌, ◌≡◌, List, [], ◌∷◌, ◌++◌, length, Bool, true, false, cond, ap, ◌∙◌}
use Rattle.std.specs.Prelude.{nat_le}
use Rattle.serde_json.specs.Data.{Data, null, boolean, number, string, array, object, Items, no_items, item, Members, no_members, member}
use Rattle.hog_value.specs.declared.cell.FunCell.{FunCell}
use Rattle.hog_value.specs.Values.{Val}
use Rattle.hog_value.specs.declared.value.Value.TheVariants.{Ref}
use Rattle.hog_value.specs.Meters.{max_units}
use Rattle.hog_value.specs.Cells.{CellOf, Text, Array, Dict, HeapOf, heap_map, cost_of_cell}
use Rattle.hog_value.specs.Operations as op
use Rattle.hog_value.specs.Operations.{Outcome, outcome_map, made}
use Rattle.hog_json.specs.Reading.{outcome_and_then, read_cells, read_items, read_members, kept_value}
use Rattle.hog_json.proofs.Naturality.{outcome_map-outcome_and_then, read_cells-heap_map}
use Rattle.hog_library.specs.Cells.{texts_made, response, response_cell}
use Rattle.hog_library.proofs.Naturality.{texts_made-heap_map}
use Rattle.hog_meaning.specs.Program.{first_cells}
use Rattle.bytecode_safety.proofs.Heaps.{FunsFair, natural_fair}

abbrev cells_from : {F : Type 0} → List (List ℕ) → List ℕ → HeapOf F → Outcome F Val
cells_from texts globals h = outcome_and_then (texts_made texts h 0) (λ vs. read_cells (kept_value globals))

cells_same : {F G : Type 0} (f : F → G) (texts : List (List ℕ)) (globals : List ℕ) (h : HeapOf F) → cells_from texts globals (heap_map f h) ≡ outcome_map f (cells_from texts globals h)
cells_same f texts globals h =
    ap (λ o. outcome_and_then o (λ vs. read_cells (kept_value globals))) (texts_made-heap_map f texts h 0)
    ∙ outcome_map-outcome_and_then f (texts_made texts h 0) (λ vs. read_cells (kept_value globals)) (λ vs. read_cells (kept_value globals)) (λ vs h1 u1. read_cells-heap_map f (kept_value globals) h1 u1)

-- no functions are among the first cells
pub first_funs : (P : FunCell → Type 0) (texts : List (List ℕ)) (globals : List ℕ) → FunsFair P (first_cells texts globals)
unfolding first_cells
first_funs P texts globals = natural_fair P (cells_from texts globals) (cells_from texts globals) (λ h. cells_same (λ x. x.0) texts globals h) [] tt

-- replies: making what a program sees of one throws no kind

abbrev pub IsUnthrown : {A : Type 0} → Outcome FunCell A → Type 0
IsUnthrown (op.Gives a h units) = Unit {0}
IsUnthrown (op.Throws kind) = ⊥
IsUnthrown op.Spends = Unit {0}

both_unthrown : {A B : Type 0} (o : Outcome FunCell A) (next : A → HeapOf FunCell → ℕ → Outcome FunCell B) → IsUnthrown o → ((a : A) (h : HeapOf FunCell) (units : ℕ) → IsUnthrown (next a h units)) → IsUnthrown (outcome_and_then o next)
both_unthrown (op.Gives a h units) next first after = after a h units
both_unthrown (op.Throws kind) next first after = first
both_unthrown op.Spends next first after = tt

made_unthrown : (c : CellOf FunCell) (h : HeapOf FunCell) (units : ℕ) → IsUnthrown (made c h units)
unfolding made
made_unthrown c h units = go (nat_le (units + cost_of_cell c) max_units)
  where
    go : (b : Bool) → IsUnthrown (cond b (op.Gives (Ref (length h)) (h ++ c ∷ []) (units + cost_of_cell c)) op.Spends)
    go true = tt
    go false = tt

mutual
  cells_unthrown : (d : Data) (h : HeapOf FunCell) (units : ℕ) → IsUnthrown (read_cells d h units)
  cells_unthrown null h units = tt
  cells_unthrown (boolean b) h units = tt
  cells_unthrown (number n) h units = tt
  cells_unthrown (string s) h units = made_unthrown (Text s) h units
  cells_unthrown (array ds) h units = both_unthrown (read_items ds h units) (λ vs. made (Array vs)) (items_unthrown ds h units) (λ vs h1 units1. made_unthrown (Array vs) h1 units1)
  cells_unthrown (object ms) h units = both_unthrown (read_members ms h units) (λ ps. made (Dict ps)) (members_unthrown ms h units) (λ ps h1 units1. made_unthrown (Dict ps) h1 units1)

  items_unthrown : (ds : Items) (h : HeapOf FunCell) (units : ℕ) → IsUnthrown (read_items ds h units)
  items_unthrown no_items h units = tt
  items_unthrown (item d ds) h units =
      both_unthrown (read_cells d h units) _ (cells_unthrown d h units) (λ v h1 units1.
      both_unthrown (read_items ds h1 units1) (λ vs. op.Gives (v ∷ vs)) (items_unthrown ds h1 units1) (λ vs h2 units2. tt))

  members_unthrown : (ms : Members) (h : HeapOf FunCell) (units : ℕ) → IsUnthrown (read_members ms h units)
  members_unthrown no_members h units = tt
  members_unthrown (member k d ms) h units =
      both_unthrown (read_cells d h units) _ (cells_unthrown d h units) (λ v h1 units1.
      both_unthrown (read_members ms h1 units1) (λ ps. op.Gives ((k, v) ∷ ps)) (members_unthrown ms h1 units1) (λ ps h2 units2. tt))

pub response_unthrown : (status : ℕ) (body : List ℕ) (h : HeapOf FunCell) (units : ℕ) → IsUnthrown (response status body h units)
unfolding response
response_unthrown status body h units =
    both_unthrown (read_cells (kept_value body) h units) (λ v. made (response_cell status v)) (cells_unthrown (kept_value body) h units)
    (λ v h1 units1. made_unthrown (response_cell status v) h1 units1)
