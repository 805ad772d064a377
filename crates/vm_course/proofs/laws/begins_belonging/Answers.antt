use Rattle.vm_course.proofs.CodesBelong.{begins_belonging}
use Rattle.vm_course.proofs.laws.begins_belonging.Goals as goal

pub returns : goal.returns
returns c = begins_belonging
