use Rattle.std.proofs.Common.{◌≡◌, map, take}
use Rattle.serde_json.specs.View.{view}
use Rattle.std.specs.List.{AllByRecursion}
use Rattle.state_forms.specs.Values.{pair_data, PairFits}
use Rattle.state_forms.proofs.values.write_pairs.Given as goal

abbrev pub invariant-loop-i : goal.invariant-loop-i
invariant-loop-i l = record {
  form : map view l.written.items ≡ map pair_data (take l.i l.map.entries);
  ranged : AllByRecursion PairFits (take l.i l.map.entries);
}
