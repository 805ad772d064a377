use Rattle.std.proofs.Common.{◌-◌, ◌<◌, ◌≤◌, true, ◌∙◌, arith}
use Rattle.std.proofs.lemmas.Result.{err_from_is_err_and}
use Rattle.hog_tree.specs.View.{exp_of}
use Rattle.hog_terms.specs.Marks.{lead}
use Rattle.hog_reading.specs.Read.{got}
use Rattle.hog_reading.specs.ReadStatements.{readers}
use Rattle.hog_terms.specs.View.{left}
use Rattle.hog_expressions.proofs.ExpressionLoops.{climb_goes, climb_fails, climb_ends, climb_is_full}
use Rattle.hog_expressions.proofs.expressions.operators.Goals as goal

pub returns-then-begun-room-clause-gives : goal.returns-then-begun-room-clause-gives
returns-then-begun-room-clause-gives g c =
    let go : c.args.level ≤ lead (left c.args.tokens.now c.operators.begun.at) = (let h = c.lead_level.ensures in let l = c.operators-test.true in omega (arith, h, l)) in
    climb_is_full (readers (c.args.room - 1)) c.args.room c.args.level (got (exp_of c.operators.begun.tree) c.operators.begun.height (left c.args.tokens.now c.operators.begun.at)) _
    go c.if-begun-room.true c.operators.invariant.same

pub returns-in_err-begun-clause-gives : goal.returns-in_err-begun-clause-gives
returns-in_err-begun-clause-gives g c =
    let p = err_from_is_err_and c.from_residual.result c.from_residual.ensures.1 in
    let go : c.args.level ≤ lead (left c.args.tokens.now c.operators.begun.at) = (let h = c.lead_level.ensures in let l = c.operators-test.true in omega (arith, h, l)) in
    rw (p.1, p.2) (climb_fails c.args.tokens.now c.in_err-begun.field-0.0 (readers (c.args.room - 1)) c.args.room c.args.level (got (exp_of c.operators.begun.tree) c.operators.begun.height (left c.args.tokens.now c.operators.begun.at)) _
    go c.if-begun-room.false c.in_err-begun.ensures.gives c.operators.invariant.same)

pub operators-preserved : goal.operators-preserved
operators-preserved g c =
    let go : c.args.level ≤ lead (left c.args.tokens.now c.operators.begun.at) = (let h = c.lead_level.ensures in let l = c.operators-test.true in omega (arith, h, l)) in
    record {
      low = (let h = c.in_ok-begun.ensures.low in omega (arith, h));
      same = climb_goes (readers (c.args.room - 1)) c.args.room c.args.level (got (exp_of c.operators.begun.tree) c.operators.begun.height (left c.args.tokens.now c.operators.begun.at)) _ _
          go c.if-begun-room.false c.in_ok-begun.ensures.taller c.in_ok-begun.ensures.gives c.operators.invariant.same;
      placed = c.in_ok-begun.ensures.places ∙ c.operators.invariant.placed;
    }

pub returns-clause-gives : goal.returns-clause-gives
returns-clause-gives g c =
    let stop : lead (left c.args.tokens.now c.operators.begun.at) < c.args.level = (let h = c.lead_level.ensures in let l = c.operators-test.false in omega (arith, h, l)) in
    climb_ends (readers (c.args.room - 1)) c.args.room c.args.level (got (exp_of c.operators.begun.tree) c.operators.begun.height (left c.args.tokens.now c.operators.begun.at)) _ stop c.operators.invariant.same
