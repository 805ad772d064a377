use Rattle.std.proofs.Common.{◌≡◌, ◌≤◌, take, count_by}
use Rattle.cyclotron_core.specs.Changes.{is_unfinished}
use Rattle.cyclotron_core.proofs.queue.unfinished_in.Given as goal

abbrev pub invariant-loop-row : goal.invariant-loop-row
invariant-loop-row l = record {
  counted : l.count ≡ count_by is_unfinished (take l.row-index l.rows);
  few : l.count ≤ l.row-index;
}
