use Rattle.hog_printer.proofs.Law.{reads_back}
use Rattle.hog_printer.proofs.laws.reads_back.Goals as goal

pub returns : goal.returns
returns c = reads_back
