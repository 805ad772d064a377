use Rattle.hog_tokens.proofs.TextLaws.{one_list}
use Rattle.hog_tokens.proofs.laws.one_list.Goals as goal

pub returns : goal.returns
returns c = one_list
