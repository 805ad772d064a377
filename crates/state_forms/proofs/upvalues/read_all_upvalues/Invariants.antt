use Rattle.std.proofs.Common.{◌≡◌, map, take, Some}
use Rattle.serde_json.specs.View.{view}
use Rattle.std.specs.List.{AllByRecursion}
use Rattle.vm_frames.specs.Views.{upvalue_of}
use Rattle.state_forms.specs.Shapes.{each}
use Rattle.state_forms.specs.Calls.{upvalue_in, UpvalueFits}
use Rattle.state_forms.proofs.upvalues.read_all_upvalues.Given as goal

abbrev pub invariant-loop-item : goal.invariant-loop-item
invariant-loop-item l = (each upvalue_in (map view (take l.item-index l.items)) ≡ Some (map upvalue_of l.found.items)) × AllByRecursion UpvalueFits (map upvalue_of l.found.items)
