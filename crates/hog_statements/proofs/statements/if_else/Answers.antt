use Rattle.std.proofs.Common.{arith}
use Rattle.hog_tree.specs.View.{exp_of, option_stms_from}
use Rattle.hog_reading.specs.Read.{got}
use Rattle.hog_reading.specs.ReadStatements.{readers}
use Rattle.hog_terms.specs.View.{left, named_from}
use Rattle.hog_reading.specs.Gives.{stmts_of}
use Rattle.hog_tree.proofs.Rows.{if_is}
use Rattle.hog_statements.proofs.Compounds.{if_gives}
use Rattle.hog_statements.proofs.Placing.{if_placed}
use Rattle.hog_statements.proofs.statements.if_else.Goals as goal

pub returns-clause-gives : goal.returns-clause-gives
returns-clause-gives g c =
    let e = c.in_ok-test.test in
    let b = c.in_ok-body.body in
    let o = c.in_ok-other.other in
    let ts = c.args.tokens.now in
    if_gives (readers c.args.room) (left ts c.args.at) (got (exp_of e.tree) e.height (left ts e.at)) (got (stmts_of b.tree) b.height (left ts b.at)) (got (option_stms_from o.tree) o.height (left ts o.at)) _ _
    c.in_ok-test.ensures.gives c.in_ok-body.ensures.gives c.in_ok-other.ensures.gives (if_is e.tree b.tree o.tree) (let m = c.max.ensures in let n = c.max-2.ensures in omega (arith, m, n))

pub returns-clause-places : goal.returns-clause-places
returns-clause-places g c =
    let at = named_from c.args.tokens.now in
    if_placed c.in_ok-test.test.tree c.in_ok-body.body.tree c.in_ok-other.other.tree (at c.args.at) (at c.in_ok-test.test.at) (at c.in_ok-body.body.at) (at c.in_ok-other.other.at)
    c.in_ok-test.ensures.places c.in_ok-body.ensures.places c.in_ok-other.ensures.places
