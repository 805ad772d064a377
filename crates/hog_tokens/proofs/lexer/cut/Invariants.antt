use Rattle.std.proofs.Common.{length}
use Rattle.hog_tokens.proofs.Cutting.{IsRead}
use Rattle.hog_tokens.proofs.lexer.cut.Given as goal

abbrev pub invariant-pieces : goal.invariant-pieces
invariant-pieces l = IsRead l.text l.place l.rest l.start l.found l.list.items

abbrev pub decreases-pieces : goal.decreases-pieces
decreases-pieces l = length l.rest
