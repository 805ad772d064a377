use Rattle.std.proofs.Common.{◌≡◌, drop, map}
use Rattle.hog_value.specs.Views.{cell_of}
use Rattle.vm_course.specs.Belongs.{begins_with}
use Rattle.vm_state.proofs.belonging.begins_with.Given as goal

abbrev pub invariant-loop-text : goal.invariant-loop-text
invariant-loop-text l = begins_with (drop l.text-index l.texts) (map cell_of l.rest) ≡ begins_with l.texts (map cell_of l.cells)
