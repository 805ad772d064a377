use Rattle.std.proofs.Common.{◌≡◌, ◌≤◌, length}
use Rattle.hog_captures.specs.Frames.{find_local}
use Rattle.hog_captures.specs.View.{names_of}
use Rattle.hog_captures.proofs.frame.nearest.Given as goal

abbrev pub invariant-loop-rest : goal.invariant-loop-rest
invariant-loop-rest l = record {
  shorter : length l.rest ≤ length l.names;
  same : find_local (names_of l.rest) l.word ≡ find_local (names_of l.names) l.word;
}

abbrev pub decreases-loop-rest : goal.decreases-loop-rest
decreases-loop-rest l = length l.rest
