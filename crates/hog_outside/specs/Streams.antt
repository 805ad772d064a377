-- What a source and a sink in memory are to a contract.
use Rattle.std.specs.Prelude.{ℕ, ◌≡◌, ◌⊎◌, ◌<◌, List, length, Contains}
use Rattle.hog_outside.specs.Faults.{next_call}

-- the bytes that a source has left, the calls that are to fail, how many calls there were, and its count of faults
pub record Left : Type 0 where
  pub bytes : List ℕ
  pub fails : List ℕ
  pub calls : ℕ
  pub faults : ℕ

-- the bytes that a sink took, how many more it has room for, the calls that are to fail, how many calls there were, and its
-- count of faults
pub record Taken : Type 0 where
  pub bytes : List ℕ
  pub room : ℕ
  pub fails : List ℕ
  pub calls : ℕ
  pub faults : ℕ

-- the next call is one of those that are to fail
abbrev pub IsChosen : (fails : List ℕ) → (calls : ℕ) → Type 0
IsChosen fails calls = Contains fails (next_call calls)

-- a piece that isn't empty has no room at all
abbrev pub IsOverfull : (room : ℕ) → (piece : List ℕ) → Type 0
IsOverfull room piece = (room ≡ 0) × (0 < length piece)
