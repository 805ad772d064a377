use Rattle.std.proofs.Common.{◌≡◌, ◌+◌, length}
use Rattle.bytecode_front.specs.Reading.{read_ops}
use Rattle.bytecode_front.specs.Views.{views}
use Rattle.bytecode_builder.proofs.Builds.{Building, ops_read}
use Rattle.bytecode_builder.proofs.build.+build.Given as goal

abbrev pub decreases-build : goal.decreases-build
decreases-build l = length l.items.now

abbrev pub invariant-loop-rest : goal.invariant-loop-rest
invariant-loop-rest l = record {
  going : Building l.room l.at (ops_read (read_ops l.room l.at (views l.items))) l.ops.items l.place (views l.rest);
  places : l.place + length l.rest ≡ length l.items;
}

abbrev pub decreases-loop-rest : goal.decreases-loop-rest
decreases-loop-rest l = length l.rest
