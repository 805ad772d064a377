use Rattle.hog_spelling.proofs.Count.{two_for_each}
use Rattle.hog_spelling.proofs.laws.two_for_each.Goals as goal

pub returns : goal.returns
returns c = two_for_each
