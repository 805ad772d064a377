-- Counts of calls and of faults.
use Rattle.std.specs.Prelude.{◌≡◌, ◌<◌, ◌+◌, ◌-◌, ◌^◌, ◌⊎◌, min, ℕ}

-- The count rose in a call. A count that stands at its greatest is taken to have risen.
abbrev pub Rose : ℕ → ℕ → Type 0
Rose before after = (before < after) ⊎ (after + 1 ≡ 2 ^ 64)

-- the number of the next call, counted from 1; numbers stand still at the greatest u32
abbrev pub next_call : ℕ → ℕ
next_call calls = min (calls + 1) (2 ^ 32 - 1)

-- the count after one more fault; it stands still at the greatest u64
abbrev pub next_fault : ℕ → ℕ
next_fault faults = min (faults + 1) (2 ^ 64 - 1)
