use Rattle.std.proofs.Common.{refl}
use Rattle.hog_bridge.proofs.Computing.{computing}
use Rattle.hog_bridge.proofs.examples.declared_in_a_step.Goals as goal

pub returns : goal.returns
unfolding computing
returns c = record { by_meaning = refl; by_course = refl; turns_of_meaning = refl; turns_of_course = refl; is_over = tt; goes_on_before = refl }
