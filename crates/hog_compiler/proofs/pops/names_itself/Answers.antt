use Rattle.std.proofs.Common.{ap, sym, ◌∙◌}
use Rattle.hog_tree.specs.View.{stm_of}
use Rattle.hog_tree.proofs.Rows.{fun_is}
use Rattle.hog_compiler.specs.Itself.{names_itself}
use Rattle.hog_compiler.proofs.pops.names_itself.Goals as goal

pub returns-in-Fun : goal.returns-in-Fun
returns-in-Fun c = c.fun_takes.ensures ∙ sym (ap names_itself (ap stm_of c.in-Fun.is ∙ fun_is c.in-Fun.fun))
