use Rattle.hog_watcher.proofs.NoteLemmas.{notes_sum}
use Rattle.hog_watcher.proofs.laws.notes_are_summed.Goals as goal

pub returns : goal.returns
returns c = notes_sum
