use Rattle.std.proofs.Common.{◌≤◌, ◌-◌, true}
use Rattle.std.specs.Prelude.{map}
use Rattle.std.specs.List.{flat_map}
use Rattle.hog_terms.specs.Marks.{after_close_brace}
use Rattle.hog_reading.specs.Read.{listing, entry}
use Rattle.hog_reading.specs.ReadStatements.{readers}
use Rattle.hog_terms.specs.View.{left, IsPlaced}
use Rattle.hog_reading.specs.Gives.{entry_of}
use Rattle.hog_reading.specs.NamesOf.{entry_names}
use Rattle.hog_reading.proofs.ListLoops.{Lists}
use Rattle.hog_expressions.proofs.expressions.entries.Given as goal

abbrev pub invariant-items : goal.invariant-items
invariant-items g l = record {
  low : l.height ≤ l.room;
  same : Lists (entry ((readers l.room).expression 1)) true after_close_brace (l.end - l.counter) (map entry_of l.list.items) l.height (left l.tokens l.begin)
      (listing (entry ((readers l.room).expression 1)) true after_close_brace (left l.tokens l.at));
  placed : IsPlaced (flat_map entry_names l.list.items) l.tokens l.at l.begin;
}
