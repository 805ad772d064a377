use Rattle.hog_scope.proofs.Added.{adds_one}
use Rattle.hog_scope.proofs.words.put.Goals as goal

pub returns : goal.returns
returns c = adds_one c.args.out.now c.push.new.self c.args.event c.in_ok-push.ensures.items
