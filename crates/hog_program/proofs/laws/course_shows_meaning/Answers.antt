use Rattle.hog_program.proofs.Courses.{course_shows}
use Rattle.hog_program.proofs.laws.course_shows_meaning.Goals as goal

pub returns : goal.returns
returns c = course_shows c.built_is_named.ensures c.course_is_meaning.ensures c.course_rests.ensures
