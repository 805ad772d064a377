use Rattle.std.proofs.Common.{◌≡◌, take}
use Rattle.vm_frames.specs.Places.{shown}
use Rattle.vm_frames.proofs.table.Table.literals.Given as goal

abbrev pub invariant-loop-text : goal.invariant-loop-text
invariant-loop-text l = l.texts.items ≡ shown (take l.text-index l.text-items)
