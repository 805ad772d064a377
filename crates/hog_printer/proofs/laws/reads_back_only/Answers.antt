use Rattle.hog_printer.proofs.Law.{reads_back_only}
use Rattle.hog_printer.proofs.laws.reads_back_only.Goals as goal

pub returns : goal.returns
returns c = reads_back_only
