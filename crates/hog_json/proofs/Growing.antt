-- Cells that are read are new cells at the end, and a heap that grows keeps the texts of its values.
use Rattle.std.proofs.Common.{◌≡◌, ◌+◌, ℕ, List, [], ◌∷◌, ◌++◌, true, false, cond, length, length-append, Option, Some, None, refl, sym, subst, nat_le, append-nil}
use Rattle.serde_json.specs.Data.{Data, null, boolean, number, string, array, object, Items, no_items, item, Members, no_members, member}
use Rattle.serde_json.specs.Read.{read}
use Rattle.hog_value.specs.declared.value.Value.TheVariants.{Ref}
use Rattle.hog_value.specs.Values.{Val}
use Rattle.hog_value.specs.Meters.{max_units}
use Rattle.hog_value.specs.Cells.{CellOf, Text, Array, Dict, HeapOf, cost_of_cell}
use Rattle.hog_value.specs.Operations.{Outcome, Gives, Throws, Spends, made}
use Rattle.hog_json.specs.Reading.{outcome_and_then, read_cells, read_items, read_members, cells_of_read, json_cells, Grows}
use Rattle.hog_json.proofs.ReadingLemmas.{Grows-trans}

module _ {F : Type 0} where
  -- where an operation gives, the heap after it is the one before with more cells
  abbrev GrowsIn : {A : Type 0} → HeapOf F → Outcome F A → Type 0
  GrowsIn h (Gives a h1 units) = Grows h h1
  GrowsIn h (Throws kind) = Unit {0}
  GrowsIn h Spends = Unit {0}

  grows_on : {A : Type 0} (h h1 : HeapOf F) (o : Outcome F A) → Grows h h1 → GrowsIn h1 o → GrowsIn h o
  grows_on h h1 (Gives a h2 units) first after = Grows-trans h h1 h2 first after
  grows_on h h1 (Throws kind) first after = tt
  grows_on h h1 Spends first after = tt

  both_grow : {A B : Type 0} (h : HeapOf F) (o : Outcome F A) (next : A → HeapOf F → ℕ → Outcome F B) → GrowsIn h o
      → ((a : A) (h1 : HeapOf F) (units : ℕ) → GrowsIn h1 (next a h1 units)) → GrowsIn h (outcome_and_then o next)
  both_grow h (Gives a h1 units) next first after = grows_on h h1 (next a h1 units) first (after a h1 units)
  both_grow h (Throws kind) next first after = tt
  both_grow h Spends next first after = tt

  same_grows : (h : HeapOf F) → Grows h h
  same_grows h = ([], sym (append-nil h))

  made_grows : (c : CellOf F) (h : HeapOf F) (units : ℕ) → GrowsIn h (made c h units)
  unfolding made
  made_grows c h units = elim (nat_le (units + cost_of_cell c) max_units) as (λ b. GrowsIn h (cond b (Gives (Ref (length h)) (h ++ c ∷ []) (units + cost_of_cell c)) Spends)) [
    | true ↦ (c ∷ [], refl)
    | false ↦ tt
  ]

  mutual
    cells_grow : (d : Data) (h : HeapOf F) (units : ℕ) → GrowsIn h (read_cells d h units)
    cells_grow null h units = same_grows h
    cells_grow (boolean b) h units = same_grows h
    cells_grow (number n) h units = same_grows h
    cells_grow (string s) h units = made_grows (Text s) h units
    cells_grow (array ds) h units = both_grow h (read_items ds h units) (λ vs. made (Array vs)) (items_grow ds h units) (λ vs h1 units1. made_grows (Array vs) h1 units1)
    cells_grow (object ms) h units = both_grow h (read_members ms h units) (λ ps. made (Dict ps)) (members_grow ms h units) (λ ps h1 units1. made_grows (Dict ps) h1 units1)

    items_grow : (ds : Items) (h : HeapOf F) (units : ℕ) → GrowsIn h (read_items ds h units)
    items_grow no_items h units = same_grows h
    items_grow (item d ds) h units =
        both_grow h (read_cells d h units) _ (cells_grow d h units) (λ v h1 units1.
        both_grow h1 (read_items ds h1 units1) (λ vs. Gives (v ∷ vs)) (items_grow ds h1 units1) (λ vs h2 units2. same_grows h2))

    members_grow : (ms : Members) (h : HeapOf F) (units : ℕ) → GrowsIn h (read_members ms h units)
    members_grow no_members h units = same_grows h
    members_grow (member k d ms) h units =
        both_grow h (read_cells d h units) _ (cells_grow d h units) (λ v h1 units1.
        both_grow h1 (read_members ms h1 units1) (λ ps. Gives ((k, v) ∷ ps)) (members_grow ms h1 units1) (λ ps h2 units2. same_grows h2))

  -- the heap after a value was read is the one before with new cells at its end
  pub read_cells-grows : (d : Data) (h : HeapOf F) (units : ℕ) (v : Val) (h1 : HeapOf F) (units1 : ℕ) → read_cells d h units ≡ Gives v h1 units1 → Grows h h1
  read_cells-grows d h units v h1 units1 gives = subst (GrowsIn h) gives (cells_grow d h units)

  read_grows : (o : Option Data) (h : HeapOf F) (units : ℕ) → GrowsIn h (cells_of_read o h units)
  read_grows None h units = tt
  read_grows (Some d) h units = cells_grow d h units

  -- and so after a text was read
  pub json_cells-grows : (text : List ℕ) (h : HeapOf F) (units : ℕ) (v : Val) (h1 : HeapOf F) (units1 : ℕ) → json_cells text h units ≡ Gives v h1 units1 → Grows h h1
  unfolding json_cells
  json_cells-grows text h units v h1 units1 gives = subst (GrowsIn h) gives (read_grows (read text) h units)

  -- the value names the last cell
  abbrev IsLast : Outcome F Val → Type 0
  IsLast (Gives v h1 units) = (n : ℕ) × (v ≡ Ref n) × (length h1 ≡ n + 1)
  IsLast (Throws kind) = Unit {0}
  IsLast Spends = Unit {0}

  made_is_last : (c : CellOf F) (h : HeapOf F) (units : ℕ) → IsLast (made c h units)
  unfolding made
  made_is_last c h units = elim (nat_le (units + cost_of_cell c) max_units) as (λ b. IsLast (cond b (Gives (Ref (length h)) (h ++ c ∷ []) (units + cost_of_cell c)) Spends)) [
    | true ↦ (length h, refl, length-append h (c ∷ []))
    | false ↦ tt
  ]

  last_after : {A : Type 0} (o : Outcome F A) (next : A → HeapOf F → ℕ → Outcome F Val) → ((a : A) (h1 : HeapOf F) (units : ℕ) → IsLast (next a h1 units)) → IsLast (outcome_and_then o next)
  last_after (Gives a h1 units) next last = last a h1 units
  last_after (Throws kind) next last = tt
  last_after Spends next last = tt

  -- the dictionary of an object that was read is the last of the cells
  pub read_object-last : (ms : Members) (h : HeapOf F) (units : ℕ) (v : Val) (h1 : HeapOf F) (units1 : ℕ) → read_cells (object ms) h units ≡ Gives v h1 units1
      → (n : ℕ) × (v ≡ Ref n) × (length h1 ≡ n + 1)
  read_object-last ms h units v h1 units1 gives = subst IsLast gives (last_after (read_members ms h units) (λ ps. made (Dict ps)) (λ ps h2 units2. made_is_last (Dict ps) h2 units2))
