use Rattle.std.proofs.Common.{◌≡◌, length, map}
use Rattle.index_lists.specs.Lists.{nodes_of}
use Rattle.vm_course.specs.Stack.{close}
use Rattle.vm_frames.specs.Room.{seen, IsKept}
use Rattle.vm_frames.proofs.listed.Listed.close_from.Given as goal

abbrev pub invariant-front : goal.invariant-front
invariant-front l = record {
  so_far : map (close l.height l.stack) (seen l.self) ≡ map (close l.height l.stack) (seen l.fn.self);
  kept : IsKept l.self;
}

abbrev pub decreases-front : goal.decreases-front
decreases-front l = length (nodes_of l.self.open_ones 0)
