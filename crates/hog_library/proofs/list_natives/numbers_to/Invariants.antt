use Rattle.std.proofs.Common.{◌≡◌}
use Rattle.hog_library.specs.Natives.{numbers_to}
use Rattle.hog_library.proofs.list_natives.numbers_to.Given as goal

abbrev pub invariant-loop-k : goal.invariant-loop-k
invariant-loop-k l = l.numbers.items ≡ numbers_to l.k
