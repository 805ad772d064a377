use Rattle.std.proofs.Common.{◌≡◌, map, take}
use Rattle.serde_json.specs.View.{view}
use Rattle.std.specs.List.{AllByRecursion}
use Rattle.state_forms.proofs.forms.write_each.Given as goal

abbrev pub invariant-loop-item : goal.invariant-loop-item
invariant-loop-item g l = record {
  form : map view l.written.items ≡ map g.T.Json.written (take l.item-index l.items);
  ranged : AllByRecursion g.T.Json.fits (take l.item-index l.items);
}
