use Rattle.std.proofs.Common.{◌≤◌, ◌-◌}
use Rattle.std.specs.Prelude.{map}
use Rattle.std.specs.List.{flat_map}
use Rattle.hog_tree.specs.Names.{exp_names}
use Rattle.hog_tree.specs.View.{exp_of}
use Rattle.hog_reading.specs.Read.{listing}
use Rattle.hog_reading.specs.ReadStatements.{readers}
use Rattle.hog_terms.specs.View.{left, IsPlaced}
use Rattle.hog_terms.specs.Listed.{comma_of, shut_of}
use Rattle.hog_reading.proofs.ListLoops.{Lists}
use Rattle.hog_expressions.proofs.expressions.expressions.Given as goal

abbrev pub invariant-items : goal.invariant-items
invariant-items g l = record {
  low : l.height ≤ l.room;
  same : Lists ((readers l.room).expression 1) (comma_of l.closer) (shut_of l.closer) (l.end - l.counter) (map exp_of l.list.items) l.height (left l.tokens l.begin)
      (listing ((readers l.room).expression 1) (comma_of l.closer) (shut_of l.closer) (left l.tokens l.at));
  placed : IsPlaced (flat_map exp_names l.list.items) l.tokens l.at l.begin;
}
