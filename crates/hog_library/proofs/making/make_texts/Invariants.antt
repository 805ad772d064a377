use Rattle.std.proofs.Common.{◌≡◌, length, All}
use Rattle.std.specs.Vec.Iter.{into_iter_items}
use Rattle.hog_value.specs.Values.{NamesBelow}
use Rattle.hog_value.specs.Cells.{IsCovered}
use Rattle.hog_json.specs.Reading.{outcome_and_then, Grows}
use Rattle.hog_library.specs.Cells.{texts_made}
use Rattle.hog_library.proofs.Made.{prepended, only_units}
use Rattle.hog_library.proofs.making.make_texts.Given as goal

abbrev pub invariant-loop-text : goal.invariant-loop-text
invariant-loop-text l = record {
  so_far : texts_made l.fn.texts.items l.fn.heap l.fn.m.units ≡ outcome_and_then (texts_made (into_iter_items l.text-iterator) l.heap l.m.units) (prepended l.made.items);
  names : All (NamesBelow (length l.heap)) l.made.items;
  only : only_units l.fn.m l.m;
  grows : Grows l.fn.heap l.heap;
  covered : IsCovered l.heap l.m.units;
}
