use Rattle.vm_course.proofs.CodesFit.{code_length}
use Rattle.vm_course.proofs.laws.codes_count.Goals as goal

pub returns : goal.returns
returns c = code_length
