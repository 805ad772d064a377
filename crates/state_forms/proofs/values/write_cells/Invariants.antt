use Rattle.std.proofs.Common.{◌≡◌, map, take}
use Rattle.serde_json.specs.View.{view}
use Rattle.std.specs.List.{AllByRecursion}
use Rattle.state_forms.specs.Values.{cell_data, CellFits}
use Rattle.state_forms.proofs.values.write_cells.Given as goal

abbrev pub invariant-loop-i : goal.invariant-loop-i
invariant-loop-i l = record {
  form : map view l.written.items ≡ map cell_data (take l.i l.heap);
  ranged : AllByRecursion CellFits (take l.i l.heap);
}
