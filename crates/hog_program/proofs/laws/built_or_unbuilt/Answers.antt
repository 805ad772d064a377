use Rattle.hog_program.proofs.Wholes.{never_both}
use Rattle.hog_program.proofs.laws.built_or_unbuilt.Goals as goal

pub returns : goal.returns
returns c = never_both c.program_or_none.ensures c.one_list.ensures c.one_tree.ensures
