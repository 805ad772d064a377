use Rattle.vm_course.proofs.CodesGrow.{grows}
use Rattle.vm_course.proofs.laws.heap_grows.Goals as goal

pub returns : goal.returns
returns c = grows
