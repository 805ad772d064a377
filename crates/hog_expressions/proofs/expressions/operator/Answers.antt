use Rattle.std.proofs.Common.{◌-◌, Some, sym}
use Rattle.hog_tree.specs.View.{exp_of}
use Rattle.hog_reading.specs.ReadStatements.{readers}
use Rattle.hog_terms.specs.View.{left}
use Rattle.hog_reading.proofs.Unfold.{step_infix}
use Rattle.hog_expressions.proofs.expressions.operator.Goals as goal

pub returns-in-Some-clause-gives : goal.returns-in-Some-clause-gives
returns-in-Some-clause-gives g c =
    rw (step_infix (readers c.args.room) (exp_of c.args.before.tree) c.args.before.height (left c.args.tokens.now c.args.before.at) (c.in-Some.op, left c.args.tokens.now c.in-Some.after) (sym c.in-Some.ensures.value)) c.infix.ensures.gives
