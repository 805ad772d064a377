use Rattle.std.proofs.Common.{◌≡◌, ◌≤◌, ◌∷◌, length, nat_lt}
use Rattle.std.specs.Prelude.{◌||◌}
use Rattle.hog_grammar.specs.Bytes.{is_digit, value_from, greatest}
use Rattle.hog_tokens.specs.Reading.{after, during}
use Rattle.hog_tokens.proofs.pieces.number_end.Given as goal

abbrev pub invariant-loop-c : goal.invariant-loop-c
invariant-loop-c l = record {
  small : l.value ≤ greatest;
  rest : after is_digit l.rest ≡ after is_digit l.fn.text;
  same : (l.large || nat_lt greatest (value_from l.value (during is_digit l.rest))) ≡ nat_lt greatest (value_from 0 (l.fn.first ∷ during is_digit l.fn.text));
}

abbrev pub decreases-loop-c : goal.decreases-loop-c
decreases-loop-c l = length l.rest
