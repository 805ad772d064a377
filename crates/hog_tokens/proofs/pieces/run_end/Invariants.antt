use Rattle.std.proofs.Common.{◌≡◌, ◌≤◌, ◌+◌, length, None, true}
use Rattle.hog_tokens.specs.Reading.{run_from}
use Rattle.hog_tokens.specs.View.{quotes_of, run_by}
use Rattle.hog_tokens.proofs.pieces.run_end.Given as goal

abbrev pub invariant-loop-c : goal.invariant-loop-c
invariant-loop-c l = record {
  at : l.at + length l.rest ≡ length l.fn.text + l.fn.offset;
  some : l.escaped ≡ true → 1 ≤ l.at;
  same : run_by l.escaped (quotes_of l.quotes) l.at l.bad l.rest ≡ run_from (quotes_of l.fn.quotes) l.fn.offset None l.fn.text;
}

abbrev pub decreases-loop-c : goal.decreases-loop-c
decreases-loop-c l = length l.rest
