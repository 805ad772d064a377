use Rattle.std.proofs.Common.{length}
use Rattle.hog_parser.proofs.Ends.{ended_before}
use Rattle.hog_parser.proofs.parsing.place_of.Goals as goal

pub returns-then-at-list-clause-token : goal.returns-then-at-list-clause-token
returns-then-at-list-clause-token c = λ h. rw c.list-list.ensures.value (ended_before 0 (length c.args.tokens.now.text) c.args.tokens.now.list c.args.at _ c.list-list.ensures.in_order h)
