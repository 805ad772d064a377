use Rattle.std.proofs.Common.{◌≡◌, ◌∷◌, Some, arith}
use Rattle.std.proofs.lemmas.Grind.{common_steps}
use Rattle.hog_tree.specs.View.{word_of, words_of}
use Rattle.hog_terms.specs.Marks.{after_function}
use Rattle.hog_reading.specs.Read.{got}
use Rattle.hog_reading.specs.ReadStatements.{readers}
use Rattle.hog_terms.specs.View.{left, named_from}
use Rattle.hog_reading.specs.Gives.{stmts_of}
use Rattle.hog_tree.proofs.Rows.{fun_is}
use Rattle.hog_statements.proofs.Compounds.{function_gives}
use Rattle.hog_statements.proofs.Placing.{fun_placed}
use Rattle.hog_statements.proofs.statements.function.Goals as goal

pub returns-clause-gives : goal.returns-clause-gives
returns-clause-gives g c =
    let f = c.in-Some.name in
    let w = c.in_ok-params.params in
    let b = c.in_ok-body.body in
    let ts = c.args.tokens.now in
    let named : after_function (left ts c.args.at) ≡ Some (word_of f, left ts c.in-Some.after) = grind (arith, common_steps) in
    function_gives (readers c.args.room) (left ts c.args.at) (left ts c.in-Some.after) (word_of f) (got (words_of w.tree) w.height (left ts w.at)) (got (stmts_of b.tree) b.height (left ts b.at)) _ _
    named c.in_ok-params.ensures.gives c.in_ok-body.ensures.gives (fun_is (record { name = f; params = w.tree; body = b.tree })) (let m = c.max-height.ensures in omega (arith, m))

pub returns-clause-places : goal.returns-clause-places
returns-clause-places g c =
    let at = named_from c.args.tokens.now in
    let named : at c.args.at ≡ c.in-Some.name ∷ at c.in-Some.after = grind (arith, common_steps) in
    fun_placed (record { name = c.in-Some.name; params = c.in_ok-params.params.tree; body = c.in_ok-body.body.tree }) (at c.args.at) (at c.in-Some.after) (at c.in_ok-params.params.at) (at c.in_ok-body.body.at)
    named c.in_ok-params.ensures.places c.in_ok-body.ensures.places
