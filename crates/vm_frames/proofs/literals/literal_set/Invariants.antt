use Rattle.std.proofs.Common.{◌≡◌, take}
use Rattle.std.specs.List.{filter_map}
use Rattle.vm_frames.specs.Places.{slots_of, shown}
use Rattle.vm_frames.specs.Reading.{text_in, distinct}
use Rattle.vm_frames.proofs.literals.literal_set.Given as goal

abbrev pub invariant-loop-slot : goal.invariant-loop-slot
invariant-loop-slot l = shown l.texts.keys ≡ distinct (filter_map text_in (slots_of (take l.slot-index l.slots)))
