use Rattle.vm_course.proofs.CodesFit.{code_fits}
use Rattle.vm_course.proofs.laws.codes_fit.Goals as goal

pub returns : goal.returns
returns c = code_fits
