use Rattle.hog_program.proofs.Wholes.{same_fault}
use Rattle.hog_program.proofs.laws.one_fault.Goals as goal

pub returns : goal.returns
returns c = same_fault c.one_list.ensures c.one_tree.ensures
