use Rattle.hog_tokens.proofs.TextLaws.{not_both}
use Rattle.hog_tokens.proofs.laws.not_both.Goals as goal

pub returns : goal.returns
returns c = not_both
