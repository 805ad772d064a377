use Rattle.hog_watcher.proofs.NoteLemmas.{own_decide}
use Rattle.hog_watcher.proofs.laws.own_notes_decide.Goals as goal

pub returns : goal.returns
returns c = own_decide
