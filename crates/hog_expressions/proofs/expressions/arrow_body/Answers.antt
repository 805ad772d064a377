use Rattle.std.proofs.Common.{◌<◌, sym, arith}
use Rattle.hog_terms.specs.Marks.{lead}
use Rattle.hog_reading.specs.ReadStatements.{readers}
use Rattle.hog_terms.specs.View.{left}
use Rattle.hog_reading.proofs.Unfold.{block_found}
use Rattle.hog_expressions.proofs.expressions.arrow_body.Goals as goal

pub returns-in-Some-clause-gives : goal.returns-in-Some-clause-gives
returns-in-Some-clause-gives g c =
    let low : lead (left c.args.tokens.now c.in_ok-block.block.at) < 1 = (let h = c.lead_level.ensures in let l = c.if-lead_level-ge1.false in omega (arith, h, l)) in
    block_found (readers c.args.room) (left c.args.tokens.now c.args.at) (left c.args.tokens.now c.in-Some.after) c.in_ok-block.block.tree c.in_ok-block.block.height (left c.args.tokens.now c.in_ok-block.block.at)
    (sym c.in-Some.ensures.value) c.in_ok-block.ensures.gives low
