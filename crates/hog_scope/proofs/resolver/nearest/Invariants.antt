use Rattle.std.proofs.Common.{◌≡◌, ◌≤◌, reverse, length}
use Rattle.hog_scope.specs.Scopes.{nearest}
use Rattle.hog_scope.proofs.resolver.nearest.Given as goal

abbrev pub invariant-loop-rest : goal.invariant-loop-rest
invariant-loop-rest l = record {
  shorter : length l.rest ≤ length l.scopes;
  same : nearest (reverse l.rest) l.word ≡ nearest (reverse l.scopes) l.word;
}

abbrev pub decreases-loop-rest : goal.decreases-loop-rest
decreases-loop-rest l = length l.rest
