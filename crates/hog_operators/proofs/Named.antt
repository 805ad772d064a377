-- Which cells the values of pairs name.
use Rattle.std.proofs.Common.{◌≡◌, ℕ, List, [], ◌∷◌, Bool, true, false, cond, length, Option, Some, None, All, bytes_eq}
use Rattle.std.specs.Prelude.{unwrap_or}
use Rattle.std.specs.Map.{lookup}
use Rattle.std.proofs.lemmas.List.Elements.{All-head, All-tail, All-cons, All-push}
use Rattle.indexmap.specs.IndexMap.{insert_entry}
use Rattle.hog_value.specs.declared.value.Value.TheVariants.{Null}
use Rattle.hog_value.specs.Values.{Val, NamesBelow}

-- the value at a key
pub names-lookup : (m : ℕ) (test : List ℕ → Bool) (ps : List (List ℕ × Val)) → All (λ p. NamesBelow m p.1) ps → NamesBelow m (unwrap_or (lookup test ps) Null)
names-lookup m test [] all = tt
names-lookup m test (p ∷ ps) all =
    elim (test p.0) as (λ b. NamesBelow m (unwrap_or (cond b (Some p.1) (lookup test ps)) Null)) [
      | true ↦ All-head (λ q. NamesBelow m q.1) p ps all
      | false ↦ names-lookup m test ps (All-tail (λ q. NamesBelow m q.1) p ps all)
    ]

-- a key that is set
pub names-insert : (m : ℕ) (ps : List (List ℕ × Val)) (key : List ℕ) (v : Val) → All (λ p. NamesBelow m p.1) ps → NamesBelow m v → All (λ p. NamesBelow m p.1) (insert_entry bytes_eq ps key v)
names-insert m [] key v all names = All-push _ [] (key, v) all names
names-insert m (p ∷ ps) key v all names =
    elim (bytes_eq key p.0) as (λ b. All Named (cond b ((p.0, v) ∷ ps) (p ∷ insert_entry bytes_eq ps key v))) [
      | true ↦ All-cons Named (p.0, v) ps names rest
      | false ↦ All-cons Named p (insert_entry bytes_eq ps key v) (All-head Named p ps all) (names-insert m ps key v rest names)
    ]
  where
    Named : List ℕ × Val → Type 0
    Named q = NamesBelow m q.1

    rest : All Named ps
    rest = All-tail Named p ps all
