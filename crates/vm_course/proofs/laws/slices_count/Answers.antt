use Rattle.vm_course.proofs.Slices as slices
use Rattle.vm_course.proofs.laws.slices_count.Goals as goal

pub returns : goal.returns
returns c = slices.slices_count
