use Rattle.vm_course.proofs.OnCourseRuns as runs
use Rattle.vm_course.proofs.laws.slices_on_course.Goals as goal

pub returns : goal.returns
returns c = runs.slices_on_course
