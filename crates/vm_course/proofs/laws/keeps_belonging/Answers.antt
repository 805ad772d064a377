use Rattle.vm_course.proofs.CodesBelong.{keeps_belonging}
use Rattle.vm_course.proofs.laws.keeps_belonging.Goals as goal

pub returns : goal.returns
returns c = keeps_belonging
