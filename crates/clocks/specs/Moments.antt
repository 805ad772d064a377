-- The moments of clocks.
use Rattle.std.specs.Prelude.{ℕ, ◌≡◌, List, [], ◌∷◌, Contains}

-- the moment is one of the list, or 0 where the list is empty
abbrev pub IsListed : List ℕ → ℕ → Type 0
IsListed [] now = now ≡ 0
IsListed (first ∷ more) now = Contains (first ∷ more) now
