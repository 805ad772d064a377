use Rattle.std.proofs.Common.{◌≡◌, map, take, Some}
use Rattle.serde_json.specs.View.{view}
use Rattle.std.specs.List.{AllByRecursion}
use Rattle.state_forms.specs.Shapes.{each}
use Rattle.state_forms.proofs.forms.read_all.Given as goal

abbrev pub invariant-loop-item : goal.invariant-loop-item
invariant-loop-item g l = (each g.T.Json.reads (map view (take l.item-index l.items)) ≡ Some l.found.items) × AllByRecursion g.T.Json.fits l.found.items
