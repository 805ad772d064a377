use Rattle.std.proofs.Common.{◌≡◌, take}
use Rattle.vm_frames.specs.Places.{slots_of, shown}
use Rattle.vm_frames.specs.Reading.{extents_of}
use Rattle.vm_frames.proofs.extents.extents.Given as goal

abbrev pub invariant-loop-slot : goal.invariant-loop-slot
invariant-loop-slot l = l.extents.items ≡ extents_of (shown l.literals) (slots_of (take l.slot-index l.slots))
