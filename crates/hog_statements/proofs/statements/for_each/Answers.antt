use Rattle.std.proofs.Common.{arith}
use Rattle.hog_tree.specs.View.{exp_of, word_of, option_word_of}
use Rattle.hog_reading.specs.Read.{got}
use Rattle.hog_reading.specs.ReadStatements.{readers}
use Rattle.hog_terms.specs.View.{left, named_from}
use Rattle.hog_reading.specs.Gives.{stmts_of}
use Rattle.hog_tree.proofs.Rows.{for_in_is}
use Rattle.hog_statements.proofs.Compounds.{each_gives}
use Rattle.hog_statements.proofs.Placing.{for_in_placed}
use Rattle.hog_statements.proofs.statements.for_each.Goals as goal

pub returns-clause-gives : goal.returns-clause-gives
returns-clause-gives g c =
    let e = c.in_ok-items.items in
    let b = c.in_ok-body.body in
    let ts = c.args.tokens.now in
    each_gives (readers c.args.room) ((option_word_of c.args.names.key, word_of c.args.names.value), left ts c.args.at) (got (exp_of e.tree) e.height (left ts e.at)) (got (stmts_of b.tree) b.height (left ts b.at)) _ _
    c.in_ok-items.ensures.gives c.in_ok-body.ensures.gives (for_in_is c.args.names.key c.args.names.value e.tree b.tree) (let m = c.max.ensures in omega (arith, m))

pub returns-clause-places : goal.returns-clause-places
returns-clause-places g c =
    let at = named_from c.args.tokens.now in
    for_in_placed c.args.names.key c.args.names.value c.in_ok-items.items.tree c.in_ok-body.body.tree (at c.args.at) (at c.in_ok-items.items.at) (at c.in_ok-body.body.at) c.in_ok-items.ensures.places c.in_ok-body.ensures.places
