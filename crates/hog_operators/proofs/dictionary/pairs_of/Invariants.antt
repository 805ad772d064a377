use Rattle.std.proofs.Common.{◌≡◌, ◌*◌, [], length, drop, All}
use Rattle.hog_value.specs.Values.{NamesBelow}
use Rattle.hog_meaning.specs.Operators.{pairs_of}
use Rattle.hog_operators.specs.Pairs.{in_turn}
use Rattle.hog_operators.proofs.dictionary.pairs_of.Given as goal

abbrev pub invariant-loop-i : goal.invariant-loop-i
invariant-loop-i l = record {
  so_far : pairs_of l.heap (in_turn l.vs) [] ≡ pairs_of l.heap (in_turn (drop (2 * l.i) l.vs)) l.pairs.entries;
  names : All (λ p. NamesBelow (length l.heap) p.1) l.pairs.entries;
}
