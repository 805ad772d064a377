use Rattle.vm_course.proofs.Slices.{slices}
use Rattle.vm_course.proofs.laws.slices_compose.Goals as goal

pub returns : goal.returns
returns c = slices
