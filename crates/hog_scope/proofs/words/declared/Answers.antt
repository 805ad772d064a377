use Rattle.std.proofs.lemmas.Result.{on_ok_weaker}
use Rattle.hog_scope.proofs.Added.{adds_then}
use Rattle.hog_scope.proofs.words.declared.Goals as goal

pub returns : goal.returns
returns c = on_ok_weaker _ (adds_then c.in_ok-put.ensures) c.put-2.ensures
