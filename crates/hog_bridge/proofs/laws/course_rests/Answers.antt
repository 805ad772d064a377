use Rattle.hog_bridge.proofs.Whole.{rests}
use Rattle.hog_bridge.proofs.laws.course_rests.Goals as goal

pub returns : goal.returns
returns c = rests
