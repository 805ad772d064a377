use Rattle.std.proofs.Common.{refl}
use Rattle.hog_value.specs.Natives.{native_named}
use Rattle.hog_names.proofs.examples.caught_name.Goals as goal

pub returns : goal.returns
unfolding native_named
returns c = record { resolved = refl; found = refl }
