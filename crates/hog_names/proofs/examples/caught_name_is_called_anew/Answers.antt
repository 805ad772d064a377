use Rattle.std.proofs.Common.{refl}
use Rattle.hog_names.proofs.examples.caught_name_is_called_anew.Goals as goal

pub returns : goal.returns
returns c = refl
