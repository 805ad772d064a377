use Rattle.hog_spelling.proofs.Complete.{one_tree}
use Rattle.hog_spelling.proofs.laws.one_tree.Goals as goal

pub returns : goal.returns
returns c = one_tree
