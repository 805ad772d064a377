use Rattle.std.proofs.Common.{◌≡◌, length}
use Rattle.hog_grammar.specs.Bytes.{in_line}
use Rattle.hog_tokens.specs.Reading.{after}
use Rattle.hog_tokens.proofs.pieces.after_line.Given as goal

abbrev pub invariant-loop-c : goal.invariant-loop-c
invariant-loop-c l = after in_line l.rest ≡ after in_line l.fn.text

abbrev pub decreases-loop-c : goal.decreases-loop-c
decreases-loop-c l = length l.rest
