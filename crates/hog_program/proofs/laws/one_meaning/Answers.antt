use Rattle.hog_program.proofs.Courses.{one_outcome}
use Rattle.hog_program.proofs.laws.one_meaning.Goals as goal

pub returns : goal.returns
returns c = one_outcome c.one_whole.ensures
