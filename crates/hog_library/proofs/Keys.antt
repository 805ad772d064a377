-- The keys and the values of dictionaries, pair by pair, and what values name.
use Rattle.std.proofs.Common.{◌≡◌, ◌≤◌, ◌+◌, ℕ, List, [], ◌∷◌, ◌++◌, Some, take, map, All, arith, ap, ◌∙◌, subst}
use Rattle.std.specs.Prelude.{pos, slice_get}
use Rattle.std.specs.List.{range_with_len}
use Rattle.std.proofs.lemmas.List.Elements.{All-map}
use Rattle.hog_value.specs.declared.value.Value.TheVariants.{Int}
use Rattle.std.specs.Map.{keys_of}
use Rattle.std.proofs.lemmas.List.{take_more, map-append, take-map}
use Rattle.std.proofs.lemmas.List.Sums.{sum_by_push, sum_by-take-le}
use Rattle.std.proofs.lemmas.Option.{slice_get_within, get_or_from_slice_get}
use Rattle.hog_value.specs.Values.{Val, NamesBelow}
use Rattle.hog_value.specs.Cells.{CellOf, Text, Array, Dict, Fun, CellNamesBelow}
use Rattle.hog_library.specs.Cells.{cost_of_item, cost_of_items}
use Rattle.hog_library.specs.Natives.{values_of_cell, numbers_to}

-- the first i + 1 items, where the item at i is known
pub take_more_at : {X : Type 0} (xs : List X) (i : ℕ) (x : X) → slice_get xs i ≡ Some x → take (i + 1) xs ≡ take i xs ++ x ∷ []
take_more_at xs i x at =
    take_more xs i x (slice_get_within xs i x at) ∙ ap (λ y. take i xs ++ y ∷ []) (get_or_from_slice_get xs i x x at)

module _ (ps : List (List ℕ × Val)) (i : ℕ) (key : List ℕ) (v : Val) (at : slice_get ps i ≡ Some (key, v)) where
  -- one more key, and one more value
  pub keys_more : keys_of (take (i + 1) ps) ≡ keys_of (take i ps) ++ key ∷ []
  keys_more = ap keys_of (take_more_at ps i (key, v) at) ∙ map-append (λ p. p.0) (take i ps) ((key, v) ∷ [])

  pub values_more : map (λ p. p.1) (take (i + 1) ps) ≡ map (λ p. p.1) (take i ps) ++ v ∷ []
  values_more = ap (map (λ p. p.1)) (take_more_at ps i (key, v) at) ∙ map-append (λ p. p.1) (take i ps) ((key, v) ∷ [])

  -- what the keys cost up to one of them is no more than they all cost
  pub keys_cost : cost_of_items (keys_of (take i ps)) + cost_of_item key ≤ cost_of_items (keys_of ps)
  keys_cost =
      let most = sum_by-take-le cost_of_item (keys_of ps) (i + 1) in
      let part = ap cost_of_items (take-map (λ p. p.0) (i + 1) ps) in
      let more = ap cost_of_items keys_more ∙ sum_by_push cost_of_item (keys_of (take i ps)) key in
      omega (arith, most, part, more)

-- the values in a cell name what the cell names
pub values_name : {F : Type 0} (n : ℕ) (c : CellOf F) (vs : List Val) → CellNamesBelow n c → Some vs ≡ values_of_cell c → All (NamesBelow n) vs
values_name n (Text t) vs names is = absurd cc
values_name n (Array items) vs names is = let same : items ≡ vs = cc in subst (All (NamesBelow n)) same names
values_name n (Dict ps) vs names is =
    let same : map (λ p. p.1) ps ≡ vs = cc in
    subst (All (NamesBelow n)) same (All-map (NamesBelow n) (λ (p : List ℕ × Val). p.1) ps names)
values_name n (Fun x) vs names is = absurd cc

-- whole numbers name nothing
pub numbers_to_name : (n count : ℕ) → All (NamesBelow n) (numbers_to count)
numbers_to_name n count = All-map (NamesBelow n) (λ k. Int (pos k)) (range_with_len 1 count) (λ k d h. tt)
