use Rattle.index_lists.specs.Lists.{nodes_of}
use Rattle.index_lists.proofs.Walk.{IsWalk, left_at}
use Rattle.vm_frames.proofs.Found.{IsAbove}
use Rattle.vm_frames.proofs.listed.Listed.number_at.Given as goal

abbrev pub invariant-walk : goal.invariant-walk
invariant-walk l = IsWalk (nodes_of l.self.open_ones 0) (IsAbove l.self.list.items l.place) l.at

abbrev pub decreases-walk : goal.decreases-walk
decreases-walk l = left_at (nodes_of l.self.open_ones 0) l.at
