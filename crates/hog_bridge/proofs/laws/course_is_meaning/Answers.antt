use Rattle.hog_bridge.proofs.Whole.{is_meaning}
use Rattle.hog_bridge.proofs.laws.course_is_meaning.Goals as goal

pub returns : goal.returns
returns c = is_meaning
