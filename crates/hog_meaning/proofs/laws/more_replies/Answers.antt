use Rattle.hog_meaning.proofs.Turns.{more_replies_law}
use Rattle.hog_meaning.proofs.laws.more_replies.Goals as goal

pub returns : goal.returns
returns c = more_replies_law
