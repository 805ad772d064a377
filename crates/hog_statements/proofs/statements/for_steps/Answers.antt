use Rattle.std.proofs.Common.{arith}
use Rattle.hog_tree.specs.View.{option_exp_from, option_stm_from}
use Rattle.hog_reading.specs.Read.{got}
use Rattle.hog_reading.specs.ReadStatements.{readers}
use Rattle.hog_terms.specs.View.{left, named_from}
use Rattle.hog_reading.specs.Gives.{stmts_of}
use Rattle.hog_tree.proofs.Rows.{for_is}
use Rattle.hog_statements.proofs.Compounds.{steps_give}
use Rattle.hog_statements.proofs.Placing.{for_placed}
use Rattle.hog_statements.proofs.statements.for_steps.Goals as goal

pub returns-clause-gives : goal.returns-clause-gives
returns-clause-gives g c =
    let s = c.in_ok-first.first in
    let e = c.in_ok-test.test in
    let n = c.in_ok-last.last in
    let b = c.in_ok-body.body in
    let ts = c.args.tokens.now in
    steps_give (readers c.args.room) (left ts c.args.at) (got (option_stm_from s.tree) s.height (left ts s.at)) (got (option_exp_from e.tree) e.height (left ts e.at)) (got (option_stm_from n.tree) n.height (left ts n.at))
    (got (stmts_of b.tree) b.height (left ts b.at)) _ _ c.in_ok-first.ensures.gives c.in_ok-test.ensures.gives c.in_ok-last.ensures.gives c.in_ok-body.ensures.gives (for_is s.tree e.tree n.tree b.tree)
    (let m = c.max.ensures in let h = c.max-head.ensures in let o = c.max-2.ensures in omega (arith, m, h, o))

pub returns-clause-places : goal.returns-clause-places
returns-clause-places g c =
    let at = named_from c.args.tokens.now in
    for_placed c.in_ok-first.first.tree c.in_ok-test.test.tree c.in_ok-last.last.tree c.in_ok-body.body.tree (at c.args.at) (at c.in_ok-first.first.at) (at c.in_ok-test.test.at) (at c.in_ok-last.last.at) (at c.in_ok-body.body.at)
    c.in_ok-first.ensures.places c.in_ok-test.ensures.places c.in_ok-last.ensures.places c.in_ok-body.ensures.places
