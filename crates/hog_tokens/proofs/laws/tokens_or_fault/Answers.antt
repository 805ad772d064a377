use Rattle.hog_tokens.proofs.TextLaws.{tokens_or_fault}
use Rattle.hog_tokens.proofs.laws.tokens_or_fault.Goals as goal

pub returns : goal.returns
returns c = tokens_or_fault
