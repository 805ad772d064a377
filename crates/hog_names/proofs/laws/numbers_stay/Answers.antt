use Rattle.hog_names.proofs.Whole.{numbers_stay}
use Rattle.hog_names.proofs.laws.numbers_stay.Goals as goal

pub returns : goal.returns
returns c = numbers_stay
