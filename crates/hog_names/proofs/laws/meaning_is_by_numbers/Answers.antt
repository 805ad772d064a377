use Rattle.hog_names.proofs.Whole.{meaning_by_numbers}
use Rattle.hog_names.proofs.laws.meaning_is_by_numbers.Goals as goal

pub returns : goal.returns
returns c = meaning_by_numbers
