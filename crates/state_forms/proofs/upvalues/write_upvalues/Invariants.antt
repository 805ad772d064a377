use Rattle.std.proofs.Common.{◌≡◌, map, take}
use Rattle.serde_json.specs.View.{view}
use Rattle.std.specs.List.{AllByRecursion}
use Rattle.vm_frames.specs.Views.{upvalue_of}
use Rattle.state_forms.specs.Calls.{upvalue_data, UpvalueFits}
use Rattle.state_forms.proofs.upvalues.write_upvalues.Given as goal

abbrev pub invariant-loop-upvalue : goal.invariant-loop-upvalue
invariant-loop-upvalue l = record {
  form : map view l.written.items ≡ map upvalue_data (map upvalue_of (take l.upvalue-index l.upvalues));
  ranged : AllByRecursion UpvalueFits (map upvalue_of (take l.upvalue-index l.upvalues));
}
