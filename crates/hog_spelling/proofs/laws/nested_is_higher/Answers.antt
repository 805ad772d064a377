use Rattle.hog_spelling.proofs.FromReading.{too_high}
use Rattle.hog_spelling.proofs.laws.nested_is_higher.Goals as goal

pub returns : goal.returns
returns c = too_high
