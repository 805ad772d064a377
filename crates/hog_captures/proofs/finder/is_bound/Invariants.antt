use Rattle.std.proofs.Common.{◌≡◌, ◌≤◌, length}
use Rattle.hog_captures.specs.Frees.{is_among}
use Rattle.hog_captures.specs.View.{last_first}
use Rattle.hog_captures.proofs.finder.is_bound.Given as goal

abbrev pub invariant-loop-rest : goal.invariant-loop-rest
invariant-loop-rest l = record {
  shorter : length l.rest ≤ length l.names;
  same : is_among l.word (last_first l.rest) ≡ is_among l.word (last_first l.names);
}

abbrev pub decreases-loop-rest : goal.decreases-loop-rest
decreases-loop-rest l = length l.rest
