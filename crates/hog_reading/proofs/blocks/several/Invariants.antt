use Rattle.std.proofs.Common.{◌≤◌, ◌+◌, ◌-◌, length}
use Rattle.std.specs.List.{flat_map}
use Rattle.hog_tree.specs.Names.{stm_names}
use Rattle.hog_tree.specs.View.{stms_from}
use Rattle.hog_reading.specs.Read.{several}
use Rattle.hog_reading.specs.ReadStatements.{readers}
use Rattle.hog_terms.specs.View.{left, IsPlaced}
use Rattle.hog_reading.proofs.SeveralLoop.{Goes}
use Rattle.hog_reading.proofs.blocks.several.Given as goal

abbrev pub invariant-statements : goal.invariant-statements
invariant-statements g l = record {
  low : l.height ≤ l.room;
  same : Goes (readers l.room).statement (length (left l.tokens l.at) + 1 - l.counter) (stms_from l.list.items) l.height (left l.tokens l.begin)
      (several (readers l.room).statement (length (left l.tokens l.at) + 1) (left l.tokens l.at));
  placed : IsPlaced (flat_map stm_names l.list.items) l.tokens l.at l.begin;
}
