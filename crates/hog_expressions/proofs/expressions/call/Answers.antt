use Rattle.hog_terms.specs.View.{named_from}
use Rattle.hog_expressions.proofs.Placing.{call_placed}
use Rattle.hog_expressions.proofs.expressions.call.Goals as goal

pub returns-clause-places : goal.returns-clause-places
returns-clause-places g c =
    call_placed c.in_ok-new.field-0 c.in_ok-arguments.arguments.tree c.args.before.tree (named_from c.args.tokens.now c.args.at) (named_from c.args.tokens.now c.in_ok-arguments.arguments.at) c.in_ok-new.ensures.ok c.in_ok-arguments.ensures.places
