use Rattle.std.proofs.Common.{◌≡◌, ◌∷◌, Some, arith}
use Rattle.std.proofs.lemmas.Grind.{common_steps}
use Rattle.hog_tree.specs.View.{word_of}
use Rattle.hog_terms.specs.Marks.{after_catch}
use Rattle.hog_reading.specs.Read.{got}
use Rattle.hog_reading.specs.ReadStatements.{readers}
use Rattle.hog_terms.specs.View.{left, named_from}
use Rattle.hog_reading.specs.Gives.{stmts_of}
use Rattle.hog_tree.proofs.Rows.{try_is}
use Rattle.hog_statements.proofs.Compounds.{try_gives}
use Rattle.hog_statements.proofs.Placing.{try_placed}
use Rattle.hog_statements.proofs.statements.try_catch.Goals as goal

pub returns-clause-gives : goal.returns-clause-gives
returns-clause-gives g c =
    let b = c.in_ok-body.body in
    let n = c.in-Some.name in
    let r = c.in_ok-caught.caught in
    let ts = c.args.tokens.now in
    let named : after_catch (left ts b.at) ≡ Some (word_of n, left ts c.in-Some.after) = grind (arith, common_steps) in
    try_gives (readers c.args.room) (left ts c.args.at) (left ts c.in-Some.after) (got (stmts_of b.tree) b.height (left ts b.at)) (word_of n) (got (stmts_of r.tree) r.height (left ts r.at)) _ _
    c.in_ok-body.ensures.gives named c.in_ok-caught.ensures.gives (try_is b.tree n r.tree) (let m = c.max.ensures in omega (arith, m))

pub returns-clause-places : goal.returns-clause-places
returns-clause-places g c =
    let at = named_from c.args.tokens.now in
    let named : at c.in_ok-body.body.at ≡ c.in-Some.name ∷ at c.in-Some.after = grind (arith, common_steps) in
    try_placed c.in_ok-body.body.tree c.in-Some.name c.in_ok-caught.caught.tree (at c.args.at) (at c.in_ok-body.body.at) (at c.in-Some.after) (at c.in_ok-caught.caught.at)
    c.in_ok-body.ensures.places named c.in_ok-caught.ensures.places
