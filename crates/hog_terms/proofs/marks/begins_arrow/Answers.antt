use Rattle.std.proofs.Common.{arith}
use Rattle.std.proofs.lemmas.Grind.{common_steps}
use Rattle.hog_terms.proofs.marks.begins_arrow.Goals as goal

pub returns-in-Word : goal.returns-in-Word
returns-in-Word c = grind (arith, common_steps, c.goes_on_parameters.ensures c.in-Word.field-0.now)
