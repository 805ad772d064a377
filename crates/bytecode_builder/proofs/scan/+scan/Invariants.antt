use Rattle.std.proofs.Common.{◌≡◌, ◌+◌, ◌≤◌, length}
use Rattle.bytecode_front.specs.Views.{views}
use Rattle.bytecode_builder.proofs.Scans.{Going}
use Rattle.bytecode_builder.proofs.scan.+scan.Given as goal

abbrev pub decreases-scan : goal.decreases-scan
decreases-scan l = length l.items.now

abbrev pub invariant-loop-rest : goal.invariant-loop-rest
invariant-loop-rest l = record {
  going : Going l.room l.at (views l.items) l.fn.marks.items l.place (views l.rest) l.marks.items;
  places : l.place + length l.rest ≡ l.at + length l.items;
  from : l.at ≤ l.place;
}

abbrev pub decreases-loop-rest : goal.decreases-loop-rest
decreases-loop-rest l = length l.rest
