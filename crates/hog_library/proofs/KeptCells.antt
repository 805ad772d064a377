-- What a kept text is read into. Reading the cells of a JSON value throws no kind.
use Rattle.std.proofs.Common.{◌≡◌, ℕ, List, ◌∷◌, true, false, cond, length, nat_le, Option, Some, None, refl, subst, ◌++◌, ◌+◌, []}
use Rattle.std.specs.Prelude.{unwrap_or}
use Rattle.serde_json.specs.Data.{Data, null, boolean, number, string, array, object, Items, no_items, item, Members, no_members, member}
use Rattle.serde_json.specs.Read.{read}
use Rattle.hog_value.specs.declared.value.Kind.{Kind}
use Rattle.hog_value.specs.declared.value.Value.TheVariants.{Null, Ref}
use Rattle.hog_value.specs.Values.{Val}
use Rattle.hog_value.specs.Meters.{max_units}
use Rattle.hog_value.specs.Cells.{CellOf, Text, Array, Dict, HeapOf, cost_of_cell}
use Rattle.hog_value.specs.Operations.{Outcome, Gives, Throws, Spends, made}
use Rattle.hog_json.specs.Reading.{outcome_and_then, read_cells, read_items, read_members, cells_of_read, json_cells, kept_value}

module _ {F : Type 0} where
  -- no kind is thrown
  abbrev IsUnthrown : {A : Type 0} → Outcome F A → Type 0
  IsUnthrown (Gives a h units) = Unit {0}
  IsUnthrown (Throws kind) = ⊥
  IsUnthrown Spends = Unit {0}

  both_unthrown : {A B : Type 0} (o : Outcome F A) (next : A → HeapOf F → ℕ → Outcome F B) → IsUnthrown o
      → ((a : A) (h : HeapOf F) (units : ℕ) → IsUnthrown (next a h units)) → IsUnthrown (outcome_and_then o next)
  both_unthrown (Gives a h units) next first after = after a h units
  both_unthrown (Throws kind) next first after = first
  both_unthrown Spends next first after = tt

  made_unthrown : (c : CellOf F) (h : HeapOf F) (units : ℕ) → IsUnthrown (made c h units)
  unfolding made
  made_unthrown c h units = elim (nat_le (units + cost_of_cell c) max_units) as (λ b. IsUnthrown (cond b (Gives (Ref (length h)) (h ++ c ∷ []) (units + cost_of_cell c)) Spends)) [
    | true ↦ tt
    | false ↦ tt
  ]

  mutual
    cells_unthrown : (d : Data) (h : HeapOf F) (units : ℕ) → IsUnthrown (read_cells d h units)
    cells_unthrown null h units = tt
    cells_unthrown (boolean b) h units = tt
    cells_unthrown (number n) h units = tt
    cells_unthrown (string s) h units = made_unthrown (Text s) h units
    cells_unthrown (array ds) h units = both_unthrown (read_items ds h units) (λ vs. made (Array vs)) (items_unthrown ds h units) (λ vs h1 units1. made_unthrown (Array vs) h1 units1)
    cells_unthrown (object ms) h units = both_unthrown (read_members ms h units) (λ ps. made (Dict ps)) (members_unthrown ms h units) (λ ps h1 units1. made_unthrown (Dict ps) h1 units1)

    items_unthrown : (ds : Items) (h : HeapOf F) (units : ℕ) → IsUnthrown (read_items ds h units)
    items_unthrown no_items h units = tt
    items_unthrown (item d ds) h units =
        both_unthrown (read_cells d h units) _ (cells_unthrown d h units) (λ v h1 units1.
        both_unthrown (read_items ds h1 units1) (λ vs. Gives (v ∷ vs)) (items_unthrown ds h1 units1) (λ vs h2 units2. tt))

    members_unthrown : (ms : Members) (h : HeapOf F) (units : ℕ) → IsUnthrown (read_members ms h units)
    members_unthrown no_members h units = tt
    members_unthrown (member k d ms) h units =
        both_unthrown (read_cells d h units) _ (cells_unthrown d h units) (λ v h1 units1.
        both_unthrown (read_members ms h1 units1) (λ ps. Gives ((k, v) ∷ ps)) (members_unthrown ms h1 units1) (λ ps h2 units2. tt))

  kept_gives : (o : Option Data) (h g : HeapOf F) (units left : ℕ) (v : Val) → cells_of_read o h units ≡ Gives v g left → read_cells (unwrap_or o null) h units ≡ Gives v g left
  kept_gives None h g units left v is = absurd cc
  kept_gives (Some d) h g units left v is = is

  kept_spends : (o : Option Data) (h : HeapOf F) (units : ℕ) → cells_of_read o h units ≡ Spends → read_cells (unwrap_or o null) h units ≡ Spends
  kept_spends None h units is = absurd cc
  kept_spends (Some d) h units is = is

  kept_throws : (o : Option Data) (h : HeapOf F) (units : ℕ) (kind : Kind) → cells_of_read o h units ≡ Throws kind → read_cells (unwrap_or o null) h units ≡ Gives Null h units
  kept_throws None h units kind is = refl
  kept_throws (Some d) h units kind is = absurd (subst IsUnthrown is (cells_unthrown d h units))

  -- a text that is JSON is read alike as a kept text
  pub kept-gives : (text : List ℕ) (h g : HeapOf F) (units left : ℕ) (v : Val) → json_cells text h units ≡ Gives v g left → read_cells (kept_value text) h units ≡ Gives v g left
  unfolding json_cells kept_value
  kept-gives text h g units left v is = kept_gives (read text) h g units left v is

  pub kept-spends : (text : List ℕ) (h : HeapOf F) (units : ℕ) → json_cells text h units ≡ Spends → read_cells (kept_value text) h units ≡ Spends
  unfolding json_cells kept_value
  kept-spends text h units is = kept_spends (read text) h units is

  -- one that is no JSON is null
  pub kept-throws : (text : List ℕ) (h : HeapOf F) (units : ℕ) (kind : Kind) → json_cells text h units ≡ Throws kind → read_cells (kept_value text) h units ≡ Gives Null h units
  unfolding json_cells kept_value
  kept-throws text h units kind is = kept_throws (read text) h units kind is
