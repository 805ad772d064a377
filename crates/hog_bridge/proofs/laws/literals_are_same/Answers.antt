use Rattle.hog_bridge.proofs.Whole.{literals}
use Rattle.hog_bridge.proofs.laws.literals_are_same.Goals as goal

pub returns : goal.returns
returns c = literals
