use Rattle.std.proofs.Common.{◌≡◌, map, drop, []}
use Rattle.serde_json.specs.View.{view}
use Rattle.state_forms.specs.Values.{pairs_from, PairFits}
use Rattle.std.specs.List.{AllByRecursion, IsDistinct}
use Rattle.std.specs.Map.{keys_of}
use Rattle.std.specs.Str.{bytes_eq}
use Rattle.state_forms.proofs.values.read_pairs.Given as goal

abbrev pub invariant-loop-item : goal.invariant-loop-item
invariant-loop-item l = (pairs_from l.map.entries (map view (drop l.item-index l.items)) ≡ pairs_from [] (map view l.items)) × AllByRecursion PairFits l.map.entries × IsDistinct bytes_eq (keys_of l.map.entries)
