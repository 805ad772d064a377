-- Heaps whose values name cells of the heap, and what an operation keeps of that.
use Rattle.std.proofs.Common.{◌≡◌, ◌<◌, ℕ, zero, suc, List, [], ◌∷◌, Bool, true, false, cond, length, get_or, set, map, All, Some, arith, refl, ap, sym, subst, ◌∙◌}
use Rattle.std.specs.Prelude.{slice_get, bytes_eq, option_map, option_and_then, unwrap_or, Option, IsSome}
use Rattle.std.specs.Map.{lookup}
use Rattle.std.proofs.lemmas.List.{length-set, length-map, map-set}
use Rattle.std.proofs.lemmas.List.Elements.{All-set, All-push, All-cons, All-head, All-tail, All-get_or}
use Rattle.std.proofs.lemmas.Option.{slice_get_within, get_or_from_slice_get, slice_get_read, slice_get-map}
use Rattle.indexmap.specs.IndexMap.{insert_entry}
use Rattle.hog_value.specs.declared.cell.Cell.{Cell}
use Rattle.hog_value.specs.declared.cell.Cell.TheVariants as c
use Rattle.hog_value.specs.declared.cell.FunCell.{FunCell}
use Rattle.hog_value.specs.Values.{Val, NamesBelow, Null}
use Rattle.hog_value.specs.Cells.{CellOf, HeapOf, Array, Dict, CellNamesBelow, HasDistinctKeys, IsSound, IsCovered, items_of, pairs_of, items_at, pairs_at}
use Rattle.hog_value.specs.Views.{cell_of}

-- what holds of each item holds of the item at a place
pub All-slice_get : {X : Type 0} (P : X → Type 0) (xs : List X) (n : ℕ) (x : X) → All P xs → slice_get xs n ≡ Some x → P x
All-slice_get P xs n x all at =
    subst P (get_or_from_slice_get xs n x x at) (All-get_or P xs n x (slice_get_within xs n x at) all)

-- setting a key keeps what the values name
pub All-insert_entry : (m : ℕ) (ps : List (List ℕ × Val)) (key : List ℕ) (v : Val)
    → All (λ p. NamesBelow m p.1) ps → NamesBelow m v → All (λ p. NamesBelow m p.1) (insert_entry bytes_eq ps key v)
All-insert_entry m [] key v all names = All-push _ [] (key, v) all names
All-insert_entry m (p ∷ ps) key v all names =
    elim (bytes_eq key p.0) as (λ b. All Named (cond b ((p.0, v) ∷ ps) (p ∷ insert_entry bytes_eq ps key v))) [
      | true ↦ All-cons Named (p.0, v) ps names rest
      | false ↦ All-cons Named p (insert_entry bytes_eq ps key v) (All-head Named p ps all) (All-insert_entry m ps key v rest names)
    ]
  where
    Named : List ℕ × Val → Type 0
    Named q = NamesBelow m q.1

    rest : All Named ps
    rest = All-tail Named p ps all

-- a cell that was read of the program's list, as contracts see it
pub cell_read : (cs : List Cell) (h : HeapOf FunCell) (n : ℕ) (x : Cell)
    → map cell_of cs ≡ h → n < length h → x ≡ get_or cs n x → slice_get h n ≡ Some (cell_of x)
cell_read cs h n x seen within at =
    let len : length h ≡ length cs = ap length (sym seen) ∙ length-map cs cell_of in
    ap (λ cells. slice_get cells n) (sym seen)
    ∙ slice_get-map cell_of cs n
    ∙ ap (option_map cell_of) (slice_get_read cs (length cs) n x refl (omega arith) at)

-- a number at which something is found is that of a cell
within_cells : {F X : Type 0} (f : CellOf F → Option X) (h : HeapOf F) (n : ℕ) → IsSome (option_and_then f (slice_get h n)) → n < length h
within_cells f [] n found = absurd cc
within_cells f (c ∷ h) zero found = omega arith
within_cells f (c ∷ h) (suc n) found = let rest = within_cells f h n found in omega arith

-- an array that was read
pub array_read : (cs : List Cell) (h : HeapOf FunCell) (n : ℕ) (x : Cell) (vs : List Val)
    → map cell_of cs ≡ h → IsSome (items_at h n) → x ≡ get_or cs n x → x ≡ c.Array vs → slice_get h n ≡ Some (Array vs)
array_read cs h n x vs seen found at is =
    cell_read cs h n x seen (within_cells items_of h n found) at ∙ ap (λ y. Some (cell_of y)) is

-- a dictionary that was read
pub dict_read : (cs : List Cell) (h : HeapOf FunCell) (n : ℕ) (x : Cell) (ps : List (List ℕ × Val))
    → map cell_of cs ≡ h → IsSome (pairs_at h n) → x ≡ get_or cs n x → x ≡ c.Dict ps → slice_get h n ≡ Some (Dict ps)
dict_read cs h n x ps seen found at is =
    cell_read cs h n x seen (within_cells pairs_of h n found) at ∙ ap (λ y. Some (cell_of y)) is

-- a cell that was read once more
module _ (cs : List Cell) (h : HeapOf FunCell) (n : ℕ) (x : Cell) (ps : List (List ℕ × Val))
    (seen : map cell_of cs ≡ h) (at : x ≡ get_or cs n x) (dict : slice_get h n ≡ Some (Dict ps)) where
  pub read_again : cell_of x ≡ Dict ps
  read_again = let now = cell_read cs h n x seen (slice_get_within h n (Dict ps) dict) at in cc

  pub pairs_again : (qs : List (List ℕ × Val)) → x ≡ c.Dict qs → qs ≡ ps
  pairs_again qs is = let now : Dict qs ≡ Dict ps = ap cell_of (sym is) ∙ read_again in cc

  pub is_dict : ((qs : List (List ℕ × Val)) → x ≡ c.Dict qs → ⊥) → ⊥
  is_dict = by x read_again
    where
      by : (y : Cell) → cell_of y ≡ Dict ps → ((qs : List (List ℕ × Val)) → y ≡ c.Dict qs → ⊥) → ⊥
      by (c.Dict qs) now other = other qs refl
      by (c.Text t) now other = absurd cc
      by (c.Array vs) now other = absurd cc
      by (c.Fun f) now other = absurd cc

module _ (cs : List Cell) (h : HeapOf FunCell) (n : ℕ) (x : Cell) (seen : map cell_of cs ≡ h) where
  -- the heap after a cell of the program's list was set
  pub cells_set : map cell_of (set cs n x) ≡ set h n (cell_of x)
  cells_set = map-set cell_of cs n x ∙ ap (λ cells. set cells n (cell_of x)) seen

  -- it has as many cells
  pub length-cells_set : length (map cell_of (set cs n x)) ≡ length h
  length-cells_set = ap length cells_set ∙ length-set h n (cell_of x)

  pub IsCovered-cells_set : (units : ℕ) → IsCovered h units → IsCovered (map cell_of (set cs n x)) units
  IsCovered-cells_set units covered = omega (arith, length-cells_set)

  -- and stays sound
  pub IsSound-cells_set : IsSound (map cell_of cs) → CellNamesBelow (length h) (cell_of x) → HasDistinctKeys (cell_of x) → IsSound (map cell_of (set cs n x))
  IsSound-cells_set sound names distinct =
      let before = subst IsSound seen sound in
      let closed = All-set (CellNamesBelow (length h)) h n (cell_of x) names before.0 in
      subst IsSound (sym cells_set) (
        subst (λ m. All (CellNamesBelow m) (set h n (cell_of x))) (sym (length-set h n (cell_of x))) closed,
        All-set HasDistinctKeys h n (cell_of x) distinct before.1,
      )

-- what a look-up finds names what the values name
pub NamesBelow-lookup : (m : ℕ) (test : List ℕ → Bool) (ps : List (List ℕ × Val))
    → All (λ p. NamesBelow m p.1) ps → NamesBelow m (unwrap_or (lookup test ps) Null)
NamesBelow-lookup m test [] all = tt
NamesBelow-lookup m test (p ∷ ps) all =
    elim (test p.0) as (λ b. NamesBelow m (unwrap_or (cond b (Some p.1) (lookup test ps)) Null)) [
      | true ↦ All-head (λ q. NamesBelow m q.1) p ps all
      | false ↦ NamesBelow-lookup m test ps (All-tail (λ q. NamesBelow m q.1) p ps all)
    ]
