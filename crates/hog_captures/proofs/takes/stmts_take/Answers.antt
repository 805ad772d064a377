use Rattle.std.proofs.Common.{false, ap, sym, ◌∙◌}
use Rattle.hog_captures.specs.View.{is_name}
use Rattle.hog_captures.proofs.Taken.{taken, shadowed, further}
use Rattle.hog_captures.proofs.takes.stmts_take.Goals as goal

pub returns-then-stmt : goal.returns-then-stmt
returns-then-stmt c =
    taken c.args.word.now false c.args.list.now c.loop-s.s-index c.s-item.result c.loop-s-test.true c.s-item.is c.loop-s.invariant
    (sym c.if-stmt.true ∙ c.stmt.ensures)

pub returns-then-is_named : goal.returns-then-is_named
returns-then-is_named c =
    shadowed c.args.word.now false c.args.list.now c.loop-s.s-index c.s-item.result c.loop-s-test.true c.s-item.is c.loop-s.invariant
    (sym c.if-stmt.false ∙ c.stmt.ensures)
    (sym c.if-is_named.true ∙ c.is_named.ensures ∙ ap (is_name c.args.word.now) c.declared_by.ensures)

pub loop-s-preserved : goal.loop-s-preserved
loop-s-preserved c =
    further c.args.word.now false c.args.list.now c.loop-s.s-index c.s-item.result c.loop-s-test.true c.s-item.is c.loop-s.invariant
    (sym c.if-stmt.false ∙ c.stmt.ensures)
    (sym c.if-is_named.false ∙ c.is_named.ensures ∙ ap (is_name c.args.word.now) c.declared_by.ensures)
