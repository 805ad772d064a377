use Rattle.std.proofs.Common.{◌≡◌, length}
use Rattle.hog_grammar.specs.Bytes.{is_word}
use Rattle.hog_tokens.specs.Reading.{after}
use Rattle.hog_tokens.proofs.pieces.after_word.Given as goal

abbrev pub invariant-loop-c : goal.invariant-loop-c
invariant-loop-c l = after is_word l.rest ≡ after is_word l.fn.text

abbrev pub decreases-loop-c : goal.decreases-loop-c
decreases-loop-c l = length l.rest
