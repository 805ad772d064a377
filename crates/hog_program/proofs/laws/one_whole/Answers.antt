use Rattle.hog_program.proofs.Wholes.{one_source}
use Rattle.hog_program.proofs.laws.one_whole.Goals as goal

pub returns : goal.returns
returns c source a b p q = one_source c.one_list.ensures c.one_tree.ensures source a b p.source q.source
