use Rattle.std.proofs.Common.{◌≡◌, ◌++◌, take, codes}
use Rattle.std.specs.Prelude.{flat_map, string_bytes}
use Rattle.script_steps.specs.Lines.{sweep_text}
use Rattle.script_steps.proofs.lines.poisoned_line.Given as goal

-- the sweeps up to this one are there
abbrev pub invariant-loop-at : goal.invariant-loop-at
invariant-loop-at l = string_bytes l.line ≡ codes "poisoned" ++ flat_map sweep_text (take l.at-index l.sweeps)
