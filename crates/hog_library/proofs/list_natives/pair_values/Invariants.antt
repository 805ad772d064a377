use Rattle.std.proofs.Common.{◌≡◌, map, take}
use Rattle.hog_library.proofs.list_natives.pair_values.Given as goal

abbrev pub invariant-loop-i : goal.invariant-loop-i
invariant-loop-i l = l.values.items ≡ map (λ p. p.1) (take l.i l.pairs)
