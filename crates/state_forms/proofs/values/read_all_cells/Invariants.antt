use Rattle.std.proofs.Common.{◌≡◌, map, take, Some}
use Rattle.serde_json.specs.View.{view}
use Rattle.std.specs.List.{AllByRecursion}
use Rattle.hog_value.specs.Views.{cell_of}
use Rattle.state_forms.specs.Shapes.{each}
use Rattle.state_forms.specs.Values.{cell_in, CellFits}
use Rattle.state_forms.proofs.values.read_all_cells.Given as goal

abbrev pub invariant-loop-item : goal.invariant-loop-item
invariant-loop-item l = (each cell_in (map view (take l.item-index l.items)) ≡ Some (map cell_of l.found.items)) × AllByRecursion CellFits (map cell_of l.found.items)
