-- What a call added to the bytes that a sink took. These are `before` and `after` the call, and are Some
-- where the sink tells them.
use Rattle.std.specs.Prelude.{◌≡◌, ◌⊎◌, ℕ, List, ◌++◌, Option, Some}
use Rattle.std.specs.Option.{ForSome}

-- these bytes were added
abbrev pub AddsBytes : Option (List ℕ) → Option (List ℕ) → List ℕ → Type 0
AddsBytes before after bytes = ForSome before (λ taken. after ≡ Some (taken ++ bytes))

-- a prefix of these bytes was added
pub record AddsPrefix (before after : Option (List ℕ)) (bytes : List ℕ) : Type 0 where
  pub prefix : List ℕ
  pub rest : List ℕ
  pub parts : bytes ≡ prefix ++ rest
  pub added : AddsBytes before after prefix

-- all of these bytes were added, or a prefix of them at a fault
pub record AddsUnless (fault : Type 0) (before after : Option (List ℕ)) (bytes : List ℕ) : Type 0
  where
    pub prefix : AddsPrefix before after bytes
    pub whole : fault ⊎ AddsBytes before after bytes

-- ---- bytes of which something holds

-- such bytes were added
abbrev pub AddsSome : Option (List ℕ) → Option (List ℕ) → (List ℕ → Type 0) → Type 0
AddsSome before after holds = (bytes : List ℕ) × holds bytes × AddsBytes before after bytes

-- a prefix of such bytes was added
abbrev pub AddsSomePrefix : Option (List ℕ) → Option (List ℕ) → (List ℕ → Type 0) → Type 0
AddsSomePrefix before after holds = (bytes : List ℕ) × holds bytes × AddsPrefix before after bytes

-- all of such bytes were added, or a prefix of them at a fault
abbrev pub AddsSomeUnless : Type 0 → Option (List ℕ) → Option (List ℕ) → (List ℕ → Type 0) → Type 0
AddsSomeUnless fault before after holds = (bytes : List ℕ) × holds bytes × AddsUnless fault before after bytes
