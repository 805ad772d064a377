use Rattle.std.proofs.Common.{◌≡◌, ◌≤◌, ◌-◌, ◌++◌}
use Rattle.hog_tree.specs.Names.{exp_names}
use Rattle.hog_tree.specs.View.{exp_of}
use Rattle.hog_reading.specs.Read.{got, climb}
use Rattle.hog_reading.specs.ReadStatements.{readers}
use Rattle.hog_terms.specs.View.{left, named_from}
use Rattle.hog_expressions.proofs.ExpressionLoops.{Climbs}
use Rattle.hog_expressions.proofs.expressions.operators.Given as goal

abbrev pub decreases-operators : goal.decreases-operators
decreases-operators g l = l.room - l.begun.height

abbrev pub invariant-operators : goal.invariant-operators
invariant-operators g l = record {
  low : l.begun.height ≤ l.room;
  same : Climbs (readers (l.room - 1)) l.room l.level (got (exp_of l.begun.tree) l.begun.height (left l.tokens l.begun.at))
      (climb (readers (l.room - 1)) l.room l.room l.level (got (exp_of l.fn.begun.tree) l.fn.begun.height (left l.tokens l.fn.begun.at)));
  placed : exp_names l.begun.tree ++ named_from l.tokens l.begun.at ≡ exp_names l.fn.begun.tree ++ named_from l.tokens l.fn.begun.at;
}
