use Rattle.std.proofs.Common.{◌≡◌, length, drop}
use Rattle.std.specs.Prelude.{Ok}
use Rattle.hog_value.specs.Values.{NamesBelow}
use Rattle.vm_course.specs.Step.{property_path}
use Rattle.vm_operations.proofs.state.State.property_path.Given as goal

abbrev pub invariant-loop-key : goal.invariant-loop-key
invariant-loop-key l = record {
  so_far : property_path (Ok l.fn.first) l.keys l.self ≡ property_path (Ok l.v) (drop l.key-index l.keys) l.self;
  names : NamesBelow (length l.self.heap) l.v;
}
