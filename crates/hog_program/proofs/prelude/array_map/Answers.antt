use Rattle.hog_program.specs.Prelude.{array_map}
use Rattle.hog_program.proofs.Preludes.{ok_then}
use Rattle.hog_program.proofs.PreludeTexts.{map_is}
use Rattle.hog_program.proofs.prelude.array_map.Goals as goal

pub first_statement-requires : goal.first_statement-requires
first_statement-requires c = (array_map, map_is)

pub returns : goal.returns
returns c = ok_then c.first_statement.result _ _ (λ read same. same array_map map_is) c.first_statement.ensures
