use Rattle.hog_spelling.proofs.FromReading.{found}
use Rattle.hog_spelling.proofs.laws.read_is_spelled.Goals as goal

pub returns : goal.returns
returns c = found
