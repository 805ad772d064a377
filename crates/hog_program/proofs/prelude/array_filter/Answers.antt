use Rattle.hog_program.specs.Prelude.{array_filter}
use Rattle.hog_program.proofs.Preludes.{ok_then}
use Rattle.hog_program.proofs.PreludeTexts.{filter_is}
use Rattle.hog_program.proofs.prelude.array_filter.Goals as goal

pub first_statement-requires : goal.first_statement-requires
first_statement-requires c = (array_filter, filter_is)

pub returns : goal.returns
returns c = ok_then c.first_statement.result _ _ (λ read same. same array_filter filter_is) c.first_statement.ensures
