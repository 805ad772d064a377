use Rattle.std.proofs.Common.{◌≡◌, ◌+◌, ◌++◌, max, length, sym, ap, ◌∙◌, arith}
use Rattle.std.proofs.lemmas.Result.{err_from_is_err_and}
use Rattle.std.specs.List.{flat_map}
use Rattle.hog_tree.specs.Names.{stm_names}
use Rattle.hog_tree.specs.View.{stm_of, stms_from}
use Rattle.hog_reading.specs.Read.{got}
use Rattle.hog_reading.specs.ReadStatements.{readers}
use Rattle.hog_terms.specs.View.{left, named_from}
use Rattle.hog_tree.proofs.Rows.{add_stm, stms_from-snoc}
use Rattle.hog_reading.proofs.SeveralLoop.{several_begins, several_skips, several_goes, several_ends, several_fails, several_is_out}
use Rattle.hog_reading.proofs.Placing.{placed_more}
use Rattle.hog_reading.proofs.blocks.several.Goals as goal

pub returns-then-ends_block-clause-low : goal.returns-then-ends_block-clause-low
returns-then-ends_block-clause-low g c = c.statements.invariant.low

pub returns-then-ends_block-clause-gives : goal.returns-then-ends_block-clause-gives
returns-then-ends_block-clause-gives g c =
    let ts = c.args.tokens.now in
    let v = c.remaining-end.ensures.value in
    several_ends (readers c.args.room).statement (length (left ts c.args.at) + 1) c.statements.counter (stms_from c.statements.list.items) c.statements.height (left ts c.statements.begin) _
    (let t = c.statements-test.true in omega (arith, v, t)) (sym c.in_default.ensures.value) (sym c.if-ends_block.ensures) c.statements.invariant.same

pub returns-in_err-stmt-clause-gives : goal.returns-in_err-stmt-clause-gives
returns-in_err-stmt-clause-gives g c =
    let ts = c.args.tokens.now in
    let v = c.remaining-end.ensures.value in
    let p = err_from_is_err_and c.from_residual.result c.from_residual.ensures.1 in
    rw (p.1, p.2) (several_fails ts c.in_err-stmt.field-0.0 (readers c.args.room).statement (length (left ts c.args.at) + 1) c.statements.counter (stms_from c.statements.list.items) c.statements.height (left ts c.statements.begin) _
    (let t = c.statements-test.true in omega (arith, v, t)) (sym c.in_default.ensures.value) (sym c.if-ends_block.ensures) c.in_err-stmt.ensures.gives c.statements.invariant.same)

pub returns-clause-gives : goal.returns-clause-gives
returns-clause-gives g c =
    let ts = c.args.tokens.now in
    let v = c.remaining-end.ensures.value in
    several_is_out (readers c.args.room).statement (length (left ts c.args.at) + 1) c.statements.counter (stms_from c.statements.list.items) c.statements.height (left ts c.statements.begin) _
    (let t = c.statements-test.false in omega (arith, v, t)) c.statements.invariant.same

pub statements-init : goal.statements-init
statements-init g c =
    let ts = c.args.tokens.now in
    record { low = omega arith; same = several_begins (readers c.args.room).statement (length (left ts c.args.at) + 1) (stms_from c.new-list.result.items) (left ts c.args.at) (ap stms_from c.new-list.ensures.items); placed = sym (ap (λ xs. flat_map stm_names xs ++ named_from ts c.args.at) c.new-list.ensures.items) }

pub statements-preserved-in-Some : goal.statements-preserved-in-Some
statements-preserved-in-Some g c =
    let ts = c.args.tokens.now in
    let v = c.remaining-end.ensures.value in
    record {
      low = c.statements.invariant.low;
      same = several_skips (readers c.args.room).statement (length (left ts c.args.at) + 1) c.statements.counter (stms_from c.statements.list.items) c.statements.height (left ts c.statements.begin) (left ts c.in-Some.after) _
          (let t = c.statements-test.true in omega (arith, v, t)) (sym c.in-Some.ensures.value) c.statements.invariant.same;
      placed = c.statements.invariant.placed ∙ ap (λ z. flat_map stm_names c.statements.list.items ++ z) c.in-Some.ensures.names;
    }

pub statements-preserved : goal.statements-preserved
statements-preserved g c =
    let ts = c.args.tokens.now in
    let v = c.remaining-end.ensures.value in
    let s = c.in_ok-stmt.stmt in
    let hs : c.max-height.result ≡ max c.statements.height s.height = c.max-height.ensures in
    let es : stms_from c.push.new.self.items ≡ add_stm (stms_from c.statements.list.items) (stm_of s.tree) = ap stms_from c.in_ok-push.ensures.items ∙ stms_from-snoc c.statements.list.items s.tree in
    record {
      low = (let i = c.statements.invariant.low in let l = c.in_ok-stmt.ensures.low in omega (arith, i, l, hs));
      same = rw (es, hs) (several_goes (readers c.args.room).statement (length (left ts c.args.at) + 1) c.statements.counter (stms_from c.statements.list.items) c.statements.height (left ts c.statements.begin)
          (got (stm_of s.tree) s.height (left ts s.at)) _ (let t = c.statements-test.true in omega (arith, v, t)) (sym c.in_default.ensures.value) (sym c.if-ends_block.ensures) c.in_ok-stmt.ensures.gives c.statements.invariant.same);
      placed = placed_more stm_names c.statements.list.items c.push.new.self.items s.tree _ _ _ c.in_ok-push.ensures.items c.statements.invariant.placed c.in_ok-stmt.ensures.places;
    }
