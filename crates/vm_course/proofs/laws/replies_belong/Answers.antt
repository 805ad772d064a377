use Rattle.vm_course.proofs.CodesBelong.{replies_belong}
use Rattle.vm_course.proofs.laws.replies_belong.Goals as goal

pub returns : goal.returns
returns c = replies_belong
