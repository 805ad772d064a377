-- A run begins in a state that stands, where its globals are an object of JSON.
use Rattle.std.proofs.Common.{◌≡◌, ℕ, suc, ◌+◌, ◌-◌, ◌<◌, ◌≤◌, List, [], ◌∷◌, ◌++◌, length, length-append, Some, Bool, true, false, cond, refl, sym, ap, ◌∙◌, subst, arith}
use Rattle.std.specs.Prelude.{nat_le, slice_get, is_some, option_and_then}
use Rattle.serde_json.specs.Data.{Members, object}
use Rattle.hog_value.specs.declared.cell.FunCell.{FunCell}
use Rattle.hog_value.specs.declared.value.Value.TheVariants.{Ref}
use Rattle.hog_value.specs.Values.{Val}
use Rattle.hog_value.specs.Meters.{max_units}
use Rattle.hog_value.specs.Cells.{CellOf, Text, Dict, HeapOf, cost_of_cell, pairs_of, pairs_at}
use Rattle.hog_value.specs.Operations as op
use Rattle.hog_value.specs.Operations.{Outcome, made}
use Rattle.hog_json.specs.Reading.{outcome_and_then, read_cells, read_members, kept_value}
use Rattle.hog_library.specs.Cells.{texts_made}
use Rattle.hog_meaning.specs.Program.{first_cells}
use Rattle.hog_meaning.specs.World.{Reply}
use Rattle.vm_course.specs.Course.{started, fixed_by}
use Rattle.vm_state.proofs.KeysApart.{InOrder, MembersInOrder, kept_in_order, keys_in}
use Rattle.vm_state.proofs.HeapsStand.{HeapStands, Stands, Named, AllNamed, PairsOf, both_stand, texts_stand, cells_stand, members_stand}
use Rattle.vm_state.proofs.StatesStand.{Stand}

-- at least so many cells, and more than so many whose last is a dictionary

abbrev HasCells : {A : Type 0} → ℕ → Outcome FunCell A → Type 0
HasCells n (op.Gives a h units) = n ≤ length h
HasCells n (op.Throws kind) = Unit {0}
HasCells n op.Spends = Unit {0}

abbrev EndsInDict : ℕ → Outcome FunCell Val → Type 0
EndsInDict n (op.Gives v h units) = (n < length h) × (is_some (pairs_at h (length h - 1)) ≡ true)
EndsInDict n (op.Throws kind) = Unit {0}
EndsInDict n op.Spends = Unit {0}

both_have : {A B : Type 0} (m n : ℕ) (o : Outcome FunCell A) (next : A → HeapOf FunCell → ℕ → Outcome FunCell B) → HasCells m o → ((a : A) (h : HeapOf FunCell) (units : ℕ) → m ≤ length h → HasCells n (next a h units)) → HasCells n (outcome_and_then o next)
both_have m n (op.Gives a h units) next first after = after a h units first
both_have m n (op.Throws kind) next first after = tt
both_have m n op.Spends next first after = tt

both_end : {A : Type 0} (m n : ℕ) (o : Outcome FunCell A) (next : A → HeapOf FunCell → ℕ → Outcome FunCell Val) → HasCells m o → ((a : A) (h : HeapOf FunCell) (units : ℕ) → m ≤ length h → EndsInDict n (next a h units)) → EndsInDict n (outcome_and_then o next)
both_end m n (op.Gives a h units) next first after = after a h units first
both_end m n (op.Throws kind) next first after = tt
both_end m n op.Spends next first after = tt

made_has : (n : ℕ) (c : CellOf FunCell) (h : HeapOf FunCell) (units : ℕ) → n ≤ length h → HasCells (n + 1) (made c h units)
unfolding made
made_has n c h units le = go (nat_le (units + cost_of_cell c) max_units)
  where
    go : (b : Bool) → HasCells (n + 1) (cond b (op.Gives (Ref (length h)) (h ++ c ∷ []) (units + cost_of_cell c)) op.Spends)
    go true = let long = length-append h (c ∷ []) in omega (arith, long, le)
    go false = tt

last_cell : (h : HeapOf FunCell) (c : CellOf FunCell) → slice_get (h ++ c ∷ []) (length h) ≡ Some c
last_cell [] c = refl
last_cell (x ∷ h) c = last_cell h c

dict_ends : (n : ℕ) (ps : List (List ℕ × Val)) (h : HeapOf FunCell) (units : ℕ) → n ≤ length h → EndsInDict n (made (Dict ps) h units)
unfolding made
dict_ends n ps h units le = go (nat_le (units + cost_of_cell c) max_units)
  where
    c : CellOf FunCell
    c = Dict ps

    long : length (h ++ c ∷ []) ≡ length h + 1
    long = length-append h (c ∷ [])

    last : is_some (pairs_at (h ++ c ∷ []) (length (h ++ c ∷ []) - 1)) ≡ true
    last =
        let at : length (h ++ c ∷ []) - 1 ≡ length h = omega (arith, long) in
        ap (λ k. is_some (pairs_at (h ++ c ∷ []) k)) at ∙ ap (λ o. is_some (option_and_then pairs_of o)) (last_cell h c)

    go : (b : Bool) → EndsInDict n (cond b (op.Gives (Ref (length h)) (h ++ c ∷ []) (units + cost_of_cell c)) op.Spends)
    go true = (omega (arith, long, le), last)
    go false = tt

texts_have : (n : ℕ) (ts : List (List ℕ)) (h : HeapOf FunCell) (units : ℕ) → n ≤ length h → HasCells (n + length ts) (texts_made ts h units)
texts_have n [] h units le = omega (arith, le)
texts_have n (t ∷ ts) h units le =
    both_have (n + 1) (n + suc (length ts)) (made (Text t) h units) _ (made_has n (Text t) h units le) (λ v h1 units1 le1.
    both_have ((n + 1) + length ts) (n + suc (length ts)) (texts_made ts h1 units1) (λ vs. op.Gives (v ∷ vs)) (texts_have (n + 1) ts h1 units1 le1) (λ vs h2 units2 le2. omega (arith, le2)))

no_cells : HeapStands 0 [] 0
no_cells = record { cells = tt; covered = omega arith; within = omega arith }

first_stand : (texts : List (List ℕ)) (globals : List ℕ) → Stands Named 0 [] (first_cells {F = FunCell} texts globals)
unfolding first_cells
first_stand texts globals =
    both_stand 0 AllNamed Named [] (texts_made texts [] 0) (λ vs. read_cells (kept_value globals)) (texts_stand 0 texts [] 0 no_cells)
    (λ vs h units s le q. cells_stand 0 (kept_value globals) h units (kept_in_order globals) s)

members_have : (n : ℕ) (ms : Members) (h : HeapOf FunCell) (units : ℕ) → MembersInOrder ms → n ≤ length h → HeapStands 0 h units → HasCells n (read_members ms h units)
members_have n ms h units order le s = go (read_members ms h units) (members_stand 0 ms h units order s)
  where
    go : (o : Outcome FunCell (List (List ℕ × Val))) → Stands (PairsOf (keys_in ms)) 0 h o → HasCells n o
    go (op.Gives ps h1 units1) g = let more = g.keeps.cells in omega (arith, le, more)
    go (op.Throws kind) g = tt
    go op.Spends g = tt

object_ends : (n : ℕ) (ms : Members) (h : HeapOf FunCell) (units : ℕ) → MembersInOrder ms → n ≤ length h → HeapStands 0 h units → EndsInDict n (read_cells (object ms) h units)
object_ends n ms h units order le s = both_end n n (read_members ms h units) (λ ps. made (Dict ps)) (members_have n ms h units order le s) (λ ps h1 units1 le1. dict_ends n ps h1 units1 le1)

first_ends : (texts : List (List ℕ)) (globals : List ℕ) (ms : Members) → kept_value globals ≡ object ms → EndsInDict (length texts) (first_cells {F = FunCell} texts globals)
unfolding first_cells
first_ends texts globals ms is = go (texts_made texts [] 0) (texts_have 0 texts [] 0 (omega arith)) (texts_stand 0 texts [] 0 no_cells)
  where
    go : (o : Outcome FunCell (List Val)) → HasCells (0 + length texts) o → Stands AllNamed 0 [] o → EndsInDict (length texts) (outcome_and_then o (λ vs. read_cells (kept_value globals)))
    go (op.Gives vs h units) le s = subst (λ d. EndsInDict (length texts) (read_cells d h units)) (sym is) (object_ends (length texts) ms h units (subst InOrder is (kept_in_order globals)) (omega (arith, le)) s.heap)
    go (op.Throws kind) le s = tt
    go op.Spends le s = tt

-- where the first cells fit
abbrev pub StartsStanding : List (List ℕ) → List Reply → Outcome FunCell Val → Type 0
StartsStanding texts replies (op.Gives v h units) = Stand (fixed_by texts (op.Gives v h units)) (started replies (op.Gives v h units))
StartsStanding texts replies (op.Throws kind) = Unit {0}
StartsStanding texts replies op.Spends = Unit {0}

pub starts_standing : (texts : List (List ℕ)) (globals : List ℕ) (replies : List Reply) (ms : Members) → kept_value globals ≡ object ms → StartsStanding texts replies (first_cells texts globals)
starts_standing texts globals replies ms is = go (first_cells texts globals) (first_stand texts globals) (first_ends texts globals ms is)
  where
    go : (o : Outcome FunCell Val) → Stands Named 0 [] o → EndsInDict (length texts) o → StartsStanding texts replies o
    go (op.Throws kind) s d = tt
    go op.Spends s d = tt
    go (op.Gives v h units) s d = record {
      heap = s.heap;
      turns = omega arith;
      stack = tt;
      upvalues = record { each = tt; apart = tt };
      calls = (refl, refl, refl);
      deep = omega arith;
      asked = omega arith;
      waits = refl;
      globals = d.1;
      literals = d.0;
    }
