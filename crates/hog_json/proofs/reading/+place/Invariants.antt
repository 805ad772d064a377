use Rattle.std.proofs.Common.{◌≡◌, List, ◌++◌, All, length, take, map, string_bytes}
use Rattle.std.specs.Map.{keys_of}
use Rattle.serde_json.specs.View.{items_view, members_view}
use Rattle.serde_json.proofs.Views.{Entry}
use Rattle.hog_value.specs.Values.{NamesBelow}
use Rattle.hog_value.specs.Cells.{IsCovered}
use Rattle.hog_value.specs.Operations.{Gives}
use Rattle.hog_json.specs.Reading.{Grows, read_items, read_members}
use Rattle.hog_json.proofs.reading.+place.Given as goal

abbrev pub invariant-place_items-loop-item : goal.invariant-place_items-loop-item
invariant-place_items-loop-item l = record {
  read : read_items (items_view (take l.item-index l.item-items)) l.fn.heap l.fn.m.units ≡ Gives l.values.items l.heap l.m.units;
  meter : l.m ≡ record l.fn.m { units = l.m.units };
  names : All (NamesBelow (length l.heap)) l.values.items;
  grows : Grows l.fn.heap l.heap;
  covered : IsCovered l.heap l.m.units;
}

abbrev pub invariant-place_members-loop-key : goal.invariant-place_members-loop-key
invariant-place_members-loop-key l = (done : List Entry) × record {
  split : l.members.entries ≡ done ++ l.key-iterator;
  read : read_members (members_view done) l.fn.heap l.fn.m.units ≡ Gives l.pairs.entries l.heap l.m.units;
  keys : keys_of l.pairs.entries ≡ map (λ e. string_bytes e.0) done;
  meter : l.m ≡ record l.fn.m { units = l.m.units };
  names : All (λ p. NamesBelow (length l.heap) p.1) l.pairs.entries;
  grows : Grows l.fn.heap l.heap;
  covered : IsCovered l.heap l.m.units;
}
