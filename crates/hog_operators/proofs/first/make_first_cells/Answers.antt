use Rattle.hog_operators.proofs.Settled.{makes_first}
use Rattle.hog_operators.proofs.first.make_first_cells.Goals as goal

pub returns : goal.returns
returns c = makes_first _ _ _ _ _ _ _ c.requires.empty c.requires.unspent c.make_first.ensures
