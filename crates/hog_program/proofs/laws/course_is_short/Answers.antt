use Rattle.hog_program.proofs.Courses.{course_short}
use Rattle.hog_program.proofs.laws.course_is_short.Goals as goal

pub returns : goal.returns
returns c = course_short c.built_is_named.ensures c.course_is_bounded.ensures
