use Rattle.std.proofs.Common.{◌≡◌, ◌++◌, map, take}
use Rattle.hog_ops.specs.Elements.{capture_elements}
use Rattle.hog_ops.specs.Ranges.{CapturesFit}
use Rattle.bytecode_front.specs.Elements.{elem_data}
use Rattle.bytecode_front.specs.Views.{views}
use Rattle.bytecode_json.proofs.encoder.write_captures.Given as goal

abbrev pub invariant-loop-capture : goal.invariant-loop-capture
invariant-loop-capture l = record {
  written : views l.items.items ≡ views l.fn.items.items ++ map elem_data (capture_elements (take l.capture-index l.captures));
  fits : CapturesFit (take l.capture-index l.captures);
}
