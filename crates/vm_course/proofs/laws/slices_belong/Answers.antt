use Rattle.vm_course.proofs.CodesBelong.{slices_belong}
use Rattle.vm_course.proofs.laws.slices_belong.Goals as goal

pub returns : goal.returns
returns c = slices_belong
