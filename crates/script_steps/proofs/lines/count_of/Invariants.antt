use Rattle.std.proofs.Common.{◌≡◌, ◌≤◌, take}
use Rattle.script_steps.specs.Lines.{count_of}
use Rattle.script_steps.proofs.lines.count_of.Given as goal

-- the entries up to this one are counted
abbrev pub invariant-loop-entry : goal.invariant-loop-entry
invariant-loop-entry l = record { counted : l.count ≡ count_of l.kind (take l.entry-index l.history); few : l.count ≤ l.entry-index }
