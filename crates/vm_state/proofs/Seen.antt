-- Lists of what contracts see, beside those of what is held.
use Rattle.std.proofs.lemmas.List.{length-map, length-reverse, reverse-reverse}
use Rattle.std.proofs.lemmas.List.Folds.{list_all-map}
use Rattle.std.proofs.lemmas.Option.{slice_get-map}
use Rattle.vm_operations.proofs.Passing.{list_all-reverse}

pub ruleset seen = (list_all-map, list_all-reverse, slice_get-map, length-map, length-reverse, reverse-reverse)
