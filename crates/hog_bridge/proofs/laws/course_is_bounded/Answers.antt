use Rattle.hog_bridge.proofs.Whole.{is_bounded}
use Rattle.hog_bridge.proofs.laws.course_is_bounded.Goals as goal

pub returns : goal.returns
returns c = is_bounded
