use Rattle.std.proofs.Common.{◌≡◌, length, false}
use Rattle.hog_tokens.specs.Reading.{block_from}
use Rattle.hog_tokens.proofs.pieces.after_block.Given as goal

abbrev pub invariant-loop-c : goal.invariant-loop-c
invariant-loop-c l = block_from l.star l.rest ≡ block_from false l.fn.text

abbrev pub decreases-loop-c : goal.decreases-loop-c
decreases-loop-c l = length l.rest
