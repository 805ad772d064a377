use Rattle.std.proofs.Common.{◌≡◌, map}
use Rattle.hog_scope.proofs.texts.literals.Given as goal

abbrev pub invariant-loop-text : goal.invariant-loop-text
invariant-loop-text l = l.texts.items ≡ map (λ t. t.now.now) l.yielded
