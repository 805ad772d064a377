use Rattle.vm_course.proofs.OnCourseRuns as runs
use Rattle.vm_course.proofs.laws.replies_on_course.Goals as goal

pub returns : goal.returns
returns c = runs.replies_on_course
