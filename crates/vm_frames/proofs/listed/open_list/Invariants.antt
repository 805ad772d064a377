use Rattle.std.proofs.Common.{◌≤◌}
use Rattle.vm_frames.specs.OpenList.{IsOpenBelow}
use Rattle.vm_frames.proofs.listed.open_list.Given as goal

abbrev pub invariant-loop-number : goal.invariant-loop-number
invariant-loop-number l = record {
  below : IsOpenBelow l.number l.list l.open_ones;
  reserved : l.count ≤ l.open_ones.reserved;
}
