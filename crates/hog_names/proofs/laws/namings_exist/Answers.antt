use Rattle.hog_names.proofs.Namings.{namings_exist}
use Rattle.hog_names.proofs.laws.namings_exist.Goals as goal

pub returns : goal.returns
returns c = namings_exist
