use Rattle.hog_names.proofs.Whole.{numbers_found}
use Rattle.hog_names.proofs.laws.numbers_are_found.Goals as goal

pub returns : goal.returns
returns c = numbers_found
