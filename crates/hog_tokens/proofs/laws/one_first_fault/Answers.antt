use Rattle.hog_tokens.proofs.TextLaws.{one_first}
use Rattle.hog_tokens.proofs.laws.one_first_fault.Goals as goal

pub returns : goal.returns
returns c = one_first
