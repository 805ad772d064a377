use Rattle.hog_spelling.proofs.FromReading.{no_syntax}
use Rattle.hog_spelling.proofs.laws.refused_is_unspelled.Goals as goal

pub returns : goal.returns
returns c = no_syntax
