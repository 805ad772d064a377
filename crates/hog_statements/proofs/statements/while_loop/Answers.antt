use Rattle.hog_terms.specs.View.{named_from}
use Rattle.hog_statements.proofs.Placing.{while_placed}
use Rattle.hog_statements.proofs.statements.while_loop.Goals as goal

pub returns-clause-places : goal.returns-clause-places
returns-clause-places g c =
    let at = named_from c.args.tokens.now in
    while_placed c.in_ok-test.test.tree c.in_ok-body.body.tree (at c.args.at) (at c.in_ok-test.test.at) (at c.in_ok-body.body.at) c.in_ok-test.ensures.places c.in_ok-body.ensures.places
