-- Meters.
use Rattle.std.specs.Prelude.{ℕ}

-- what was spent: turns, units of memory, and how deep the calls stand
pub record Spent : Type 0 where
  pub turns : ℕ
  pub units : ℕ
  pub depth : ℕ

-- the most turns of a run
abbrev pub max_turns : ℕ
max_turns = 100000

-- the most units of a run
abbrev pub max_units : ℕ
max_units = 4194304

-- the greatest depth of a run
abbrev pub max_depth : ℕ
max_depth = 256
