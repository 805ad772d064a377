use Rattle.std.proofs.Common.{◌≤◌, ◌-◌, length}
use Rattle.std.specs.List.{flat_map}
use Rattle.hog_tree.specs.Names.{part_names}
use Rattle.hog_reading.specs.Read.{parts}
use Rattle.hog_reading.specs.ReadStatements.{readers}
use Rattle.hog_terms.specs.View.{left, IsPlaced}
use Rattle.hog_expressions.proofs.ExpressionLoops.{Parted}
use Rattle.hog_expressions.proofs.expressions.template.Given as goal

abbrev pub invariant-parts : goal.invariant-parts
invariant-parts g l = record {
  low : l.height ≤ l.room;
  same : Parted ((readers l.room).expression 1) (l.end - l.counter) l.list.items l.height (left l.tokens l.begin)
      (parts ((readers l.room).expression 1) (length (left l.tokens l.at)) (left l.tokens l.at));
  placed : IsPlaced (flat_map part_names l.list.items) l.tokens l.at l.begin;
}
