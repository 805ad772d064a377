use Rattle.vm_course.proofs.OnCourseRuns as runs
use Rattle.vm_course.proofs.laws.begins_on_course.Goals as goal

pub returns : goal.returns
returns c = runs.begins_on_course
