use Rattle.std.proofs.Common.{◌≡◌, drop, map}
use Rattle.hog_value.specs.Views.{cell_of}
use Rattle.vm_course.specs.States.{later_frames}
use Rattle.vm_state.proofs.standing.later_frames.Given as goal

abbrev pub invariant-loop-f : goal.invariant-loop-f
invariant-loop-f l = later_frames (map cell_of l.cells) l.height l.low (drop l.f-index l.frames) ≡ later_frames (map cell_of l.cells) l.height 0 l.frames
