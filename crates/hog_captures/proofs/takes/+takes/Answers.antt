use Rattle.std.proofs.Common.{◌≡◌, true, refl, ap, sym, ◌∙◌}
use Rattle.std.proofs.lemmas.List.{drop_all}
use Rattle.hog_tree.specs.View.{exp_of, body_of, exps_from, parts_from, pairs_from, stms_from}
use Rattle.hog_captures.specs.Frees.{exp_frees, exps_frees, parts_frees, pairs_frees, body_frees, stms_frees, is_among}
use Rattle.hog_captures.specs.View.{is_name}
use Rattle.hog_captures.proofs.Among.{met, passed}
use Rattle.hog_captures.proofs.Taken as k
use Rattle.hog_captures.proofs.Taken.{taken, shadowed, further, hole_frees, hole_first, item_frees, item_first, item_among, key_named, exp_at, stm_at, or_then, or_else, unless_then, unless_else}
use Rattle.hog_captures.proofs.takes.+takes.Goals as goal
use Rattle.hog_captures.proofs.takes.+takes.Goals.{parts-in-Hole+else-expr, parts-in_default, dict_items-then-expr-via-then-expr, dict_items-then-expr-via-else-expr+then-expr-2}

pub exprs-returns-then-expr : goal.exprs-returns-then-expr
exprs-returns-then-expr t c =
    let f = c.args.counted in
    met (λ x. exp_frees f (exp_of x)) (λ xs. exps_frees f (exps_from xs)) (λ x xs. refl) c.args.word.now
    c.deref-e-items.result.now c.loop-e.e-index c.e-item.result c.loop-e-test.true c.e-item.is c.loop-e.invariant
    (sym c.if-expr.true ∙ c.expr.ensures)
    ∙ ap (λ xs. is_among c.args.word.now (exps_frees f (exps_from xs))) c.deref-e-items.ensures.value

pub exprs-loop-e-preserved : goal.exprs-loop-e-preserved
exprs-loop-e-preserved t c =
    let f = c.args.counted in
    passed (λ x. exp_frees f (exp_of x)) (λ xs. exps_frees f (exps_from xs)) (λ x xs. refl) c.args.word.now
    c.deref-e-items.result.now c.loop-e.e-index c.e-item.result c.loop-e-test.true c.e-item.is c.loop-e.invariant
    (sym c.if-expr.false ∙ c.expr.ensures)

pub stmts-returns-then-stmt : goal.stmts-returns-then-stmt
stmts-returns-then-stmt t c =
    taken c.args.word.now c.args.counted
    c.deref-s-items.result.now c.loop-s.s-index c.s-item.result c.loop-s-test.true c.s-item.is c.loop-s.invariant
    (sym c.if-stmt.true ∙ c.stmt.ensures)
    ∙ ap (λ xs. is_among c.args.word.now (stms_frees c.args.counted (stms_from xs))) c.deref-s-items.ensures.value

pub stmts-returns-then-is_named : goal.stmts-returns-then-is_named
stmts-returns-then-is_named t c =
    shadowed c.args.word.now c.args.counted
    c.deref-s-items.result.now c.loop-s.s-index c.s-item.result c.loop-s-test.true c.s-item.is c.loop-s.invariant
    (sym c.if-stmt.false ∙ c.stmt.ensures)
    (sym c.if-is_named.true ∙ c.is_named.ensures ∙ ap (is_name c.args.word.now) c.declared_by.ensures)
    ∙ ap (λ xs. is_among c.args.word.now (stms_frees c.args.counted (stms_from xs))) c.deref-s-items.ensures.value

pub stmts-loop-s-preserved : goal.stmts-loop-s-preserved
stmts-loop-s-preserved t c =
    further c.args.word.now c.args.counted
    c.deref-s-items.result.now c.loop-s.s-index c.s-item.result c.loop-s-test.true c.s-item.is c.loop-s.invariant
    (sym c.if-stmt.false ∙ c.stmt.ensures)
    (sym c.if-is_named.false ∙ c.is_named.ensures ∙ ap (is_name c.args.word.now) c.declared_by.ensures)

pub parts-returns-then-expr : goal.parts-returns-then-expr
parts-returns-then-expr t c =
    let f = c.args.counted in
    met (hole_frees f) (λ xs. parts_frees f (parts_from xs)) (hole_first f) c.args.word.now
    c.deref-part-items.result.now c.loop-part.part-index c.part-item.result c.loop-part-test.true c.part-item.is c.loop-part.invariant
    (sym c.if-expr.true ∙ c.expr.ensures ∙ ap (λ x. is_among c.args.word.now (hole_frees f x)) (sym c.in-Hole.is))
    ∙ ap (λ xs. is_among c.args.word.now (parts_frees f (parts_from xs))) c.deref-part-items.ensures.value

pub parts-loop-part-preserved : goal.parts-loop-part-preserved
parts-loop-part-preserved t c =
    let f = c.args.counted in
    let w = c.args.word.now in
    passed (hole_frees f) (λ xs. parts_frees f (parts_from xs)) (hole_first f) w
    c.deref-part-items.result.now c.loop-part.part-index c.part-item.result c.loop-part-test.true c.part-item.is c.loop-part.invariant
    (elim c.match-part.branch [
      | parts-in-Hole+else-expr b ↦ sym b.if-expr.false ∙ b.expr.ensures ∙ ap (λ x. is_among w (hole_frees f x)) (sym b.in-Hole.is)
      | parts-in_default b ↦ k.no_hole w f c.part-item.result b.in_default.not-Hole
    ])

pub arrow_body-returns-in-Block : goal.arrow_body-returns-in-Block
arrow_body-returns-in-Block t c =
    c.stmts.ensures ∙ sym (ap (λ b. is_among c.args.word.now (body_frees (body_of b))) c.in-Block.is ∙ k.in_body c.args.word.now c.in-Block.list)

pub dict_items-returns-then-expr : goal.dict_items-returns-then-expr
dict_items-returns-then-expr t c =
    let f = c.args.counted in
    let w = c.args.word.now in
    let d = c.item-item.result in
    let found : true ≡ is_among w (item_frees f d) = sym (item_among w f d ∙ elim c.then-expr.branch [
      | dict_items-then-expr-via-then-expr b ↦ sym (or_then _ c.expr.ensures b.if-expr.true) ∙ b.if-expr.true
      | dict_items-then-expr-via-else-expr+then-expr-2 b ↦ sym (or_else c.expr.ensures b.if-expr.false b.expr-else-expr.ensures) ∙ b.if-expr-2.true
    ]) in
    met (item_frees f) (λ ds. pairs_frees f (pairs_from ds)) (item_first f) w
    c.deref-item-items.result.now c.loop-item.item-index c.item-item.result c.loop-item-test.true c.item-item.is c.loop-item.invariant
    found
    ∙ ap (λ ds. is_among w (pairs_frees f (pairs_from ds))) c.deref-item-items.ensures.value ∙ sym (k.in_dict w f c.args.ds.now)

pub dict_items-loop-item-preserved : goal.dict_items-loop-item-preserved
dict_items-loop-item-preserved t c =
    let f = c.args.counted in
    let w = c.args.word.now in
    passed (item_frees f) (λ ds. pairs_frees f (pairs_from ds)) (item_first f) w
    c.deref-item-items.result.now c.loop-item.item-index c.item-item.result c.loop-item-test.true c.item-item.is c.loop-item.invariant
    (sym (item_among w f c.item-item.result ∙ sym (or_else c.expr.ensures c.if-expr.false c.expr-else-expr.ensures) ∙ c.if-expr-2.false))

pub dict_items-returns : goal.dict_items-returns
dict_items-returns t c =
    let f = c.args.counted in
    let w = c.args.word.now in
    sym (ap (λ ds. is_among w (pairs_frees f (pairs_from ds))) (drop_all c.loop-item.item-index c.deref-item-items.result.now c.loop-item-test.false))
    ∙ c.loop-item.invariant
    ∙ ap (λ ds. is_among w (pairs_frees f (pairs_from ds))) c.deref-item-items.ensures.value ∙ sym (k.in_dict w f c.args.ds.now)

pub expr-returns-in-Template : goal.expr-returns-in-Template
expr-returns-in-Template t c = c.parts.ensures ∙ exp_at c.args.word.now c.args.counted c.in-Template.is (k.in_template c.args.word.now c.args.counted c.in-Template.list)

pub expr-returns-in-Array : goal.expr-returns-in-Array
expr-returns-in-Array t c = c.exprs.ensures ∙ exp_at c.args.word.now c.args.counted c.in-Array.is (k.in_array c.args.word.now c.args.counted c.in-Array.list)

pub expr-returns-then-expr : goal.expr-returns-then-expr
expr-returns-then-expr t c =
    or_then _ (c.expr.ensures ∙ ap (k.exp c.args.word.now c.args.counted) c.deref.ensures) c.if-expr.true
    ∙ exp_at c.args.word.now c.args.counted c.in-Call.is (k.in_call c.args.word.now c.args.counted c.in-Call.callee c.in-Call.args)

pub expr-returns-else-expr : goal.expr-returns-else-expr
expr-returns-else-expr t c =
    or_else (c.expr.ensures ∙ ap (k.exp c.args.word.now c.args.counted) c.deref.ensures) c.if-expr.false c.exprs-else-expr.ensures
    ∙ exp_at c.args.word.now c.args.counted c.in-Call.is (k.in_call c.args.word.now c.args.counted c.in-Call.callee c.in-Call.args)

pub expr-returns-then-not-is_one : goal.expr-returns-then-not-is_one
expr-returns-then-not-is_one t c =
    unless_then c.is_one.ensures c.if-not-is_one.true c.arrow_body.ensures
    ∙ exp_at c.args.word.now c.args.counted c.in-Lambda.is (k.in_lambda c.args.word.now c.args.counted c.in-Lambda.params c.in-Lambda.body)

pub expr-returns-else-not-is_one : goal.expr-returns-else-not-is_one
expr-returns-else-not-is_one t c =
    unless_else _ c.is_one.ensures c.if-not-is_one.false
    ∙ exp_at c.args.word.now c.args.counted c.in-Lambda.is (k.in_lambda c.args.word.now c.args.counted c.in-Lambda.params c.in-Lambda.body)

pub expr-returns-then-expr-2 : goal.expr-returns-then-expr-2
expr-returns-then-expr-2 t c =
    or_then _ (c.expr-in-Binary.ensures ∙ ap (k.exp c.args.word.now c.args.counted) c.deref-in-Binary.ensures) c.if-expr-2.true
    ∙ k.two_operands c.args.word.now c.args.counted c.args.e.now c.in-Binary.x c.in-Binary.y c.in-Binary.is

pub expr-returns-else-expr-2 : goal.expr-returns-else-expr-2
expr-returns-else-expr-2 t c =
    or_else (c.expr-in-Binary.ensures ∙ ap (k.exp c.args.word.now c.args.counted) c.deref-in-Binary.ensures) c.if-expr-2.false
    (c.expr-else-expr-2.ensures ∙ ap (k.exp c.args.word.now c.args.counted) c.deref-else-expr-2.ensures)
    ∙ k.two_operands c.args.word.now c.args.counted c.args.e.now c.in-Binary.x c.in-Binary.y c.in-Binary.is

pub stmt-returns-then-expr : goal.stmt-returns-then-expr
stmt-returns-then-expr t c =
    or_then _ c.expr.ensures c.if-expr.true
    ∙ stm_at c.args.word.now c.args.counted c.in-Assign.is (k.in_assign c.args.word.now c.args.counted c.in-Assign.target c.in-Assign.value)

pub stmt-returns-else-expr : goal.stmt-returns-else-expr
stmt-returns-else-expr t c =
    or_else c.expr.ensures c.if-expr.false c.expr-else-expr.ensures
    ∙ stm_at c.args.word.now c.args.counted c.in-Assign.is (k.in_assign c.args.word.now c.args.counted c.in-Assign.target c.in-Assign.value)

pub stmt-returns-then-expr-2 : goal.stmt-returns-then-expr-2
stmt-returns-then-expr-2 t c =
    or_then _ c.expr-in-If.ensures c.if-expr-2.true
    ∙ stm_at c.args.word.now c.args.counted c.in-If.is (k.in_if c.args.word.now c.args.counted c.in-If.cond c.in-If.then c.in-If.other)

pub stmt-returns-then-stmts : goal.stmt-returns-then-stmts
stmt-returns-then-stmts t c =
    or_else c.expr-in-If.ensures c.if-expr-2.false (or_then _ c.stmts.ensures c.if-stmts.true)
    ∙ stm_at c.args.word.now c.args.counted c.in-If.is (k.in_if c.args.word.now c.args.counted c.in-If.cond c.in-If.then c.in-If.other)

pub stmt-returns-else-stmts : goal.stmt-returns-else-stmts
stmt-returns-else-stmts t c =
    or_else c.expr-in-If.ensures c.if-expr-2.false (or_else c.stmts.ensures c.if-stmts.false c.option_stmts.ensures)
    ∙ stm_at c.args.word.now c.args.counted c.in-If.is (k.in_if c.args.word.now c.args.counted c.in-If.cond c.in-If.then c.in-If.other)

pub stmt-returns-then-expr-3 : goal.stmt-returns-then-expr-3
stmt-returns-then-expr-3 t c =
    or_then _ c.expr-in-While.ensures c.if-expr-3.true
    ∙ stm_at c.args.word.now c.args.counted c.in-While.is (k.in_while c.args.word.now c.args.counted c.in-While.cond c.in-While.body)

pub stmt-returns-else-expr-3 : goal.stmt-returns-else-expr-3
stmt-returns-else-expr-3 t c =
    or_else c.expr-in-While.ensures c.if-expr-3.false c.stmts-else-expr-3.ensures
    ∙ stm_at c.args.word.now c.args.counted c.in-While.is (k.in_while c.args.word.now c.args.counted c.in-While.cond c.in-While.body)

pub stmt-returns-then-option_stmt : goal.stmt-returns-then-option_stmt
stmt-returns-then-option_stmt t c =
    or_then _ c.option_stmt.ensures c.if-option_stmt.true
    ∙ stm_at c.args.word.now c.args.counted c.in-For.is (k.in_for c.args.word.now c.args.counted c.in-For.start c.in-For.cond c.in-For.step c.in-For.body)

pub stmt-returns-then-option_expr : goal.stmt-returns-then-option_expr
stmt-returns-then-option_expr t c =
    or_else c.option_stmt.ensures c.if-option_stmt.false
    (unless_then (c.is_named.ensures ∙ ap (is_name c.args.word.now) c.start_name.ensures) c.if-not-is_named.true (or_then _ c.option_expr.ensures c.if-option_expr.true))
    ∙ stm_at c.args.word.now c.args.counted c.in-For.is (k.in_for c.args.word.now c.args.counted c.in-For.start c.in-For.cond c.in-For.step c.in-For.body)

pub stmt-returns-then-option_stmt-2 : goal.stmt-returns-then-option_stmt-2
stmt-returns-then-option_stmt-2 t c =
    or_else c.option_stmt.ensures c.if-option_stmt.false
    (unless_then (c.is_named.ensures ∙ ap (is_name c.args.word.now) c.start_name.ensures) c.if-not-is_named.true
    (or_else c.option_expr.ensures c.if-option_expr.false (or_then _ c.option_stmt-else-option_expr.ensures c.if-option_stmt-2.true)))
    ∙ stm_at c.args.word.now c.args.counted c.in-For.is (k.in_for c.args.word.now c.args.counted c.in-For.start c.in-For.cond c.in-For.step c.in-For.body)

pub stmt-returns-else-option_stmt-2 : goal.stmt-returns-else-option_stmt-2
stmt-returns-else-option_stmt-2 t c =
    or_else c.option_stmt.ensures c.if-option_stmt.false
    (unless_then (c.is_named.ensures ∙ ap (is_name c.args.word.now) c.start_name.ensures) c.if-not-is_named.true
    (or_else c.option_expr.ensures c.if-option_expr.false (or_else c.option_stmt-else-option_expr.ensures c.if-option_stmt-2.false c.stmts-else-option_stmt-2.ensures)))
    ∙ stm_at c.args.word.now c.args.counted c.in-For.is (k.in_for c.args.word.now c.args.counted c.in-For.start c.in-For.cond c.in-For.step c.in-For.body)

pub stmt-returns-else-not-is_named : goal.stmt-returns-else-not-is_named
stmt-returns-else-not-is_named t c =
    or_else c.option_stmt.ensures c.if-option_stmt.false (unless_else _ (c.is_named.ensures ∙ ap (is_name c.args.word.now) c.start_name.ensures) c.if-not-is_named.false)
    ∙ stm_at c.args.word.now c.args.counted c.in-For.is (k.in_for c.args.word.now c.args.counted c.in-For.start c.in-For.cond c.in-For.step c.in-For.body)

pub stmt-returns-then-expr-4 : goal.stmt-returns-then-expr-4
stmt-returns-then-expr-4 t c =
    or_then _ c.expr-in-ForIn.ensures c.if-expr-4.true
    ∙ stm_at c.args.word.now c.args.counted c.in-ForIn.is (k.in_for_in c.args.word.now c.args.counted c.in-ForIn.key c.in-ForIn.value c.in-ForIn.list c.in-ForIn.body)

pub stmt-returns-then-not-eq : goal.stmt-returns-then-not-eq
stmt-returns-then-not-eq t c =
    or_else c.expr-in-ForIn.ensures c.if-expr-4.false
    (unless_then (c.is_named-else-expr-4.ensures ∙ ap (is_name c.args.word.now) (key_named c.in-ForIn.key c.as_ref.result c.as_ref.ensures.value)) c.if-not-is_named-2.true (unless_then c.eq.ensures c.if-not-eq.true c.stmts-then-not-eq.ensures))
    ∙ stm_at c.args.word.now c.args.counted c.in-ForIn.is (k.in_for_in c.args.word.now c.args.counted c.in-ForIn.key c.in-ForIn.value c.in-ForIn.list c.in-ForIn.body)

pub stmt-returns-else-not-eq : goal.stmt-returns-else-not-eq
stmt-returns-else-not-eq t c =
    or_else c.expr-in-ForIn.ensures c.if-expr-4.false
    (unless_then (c.is_named-else-expr-4.ensures ∙ ap (is_name c.args.word.now) (key_named c.in-ForIn.key c.as_ref.result c.as_ref.ensures.value)) c.if-not-is_named-2.true (unless_else _ c.eq.ensures c.if-not-eq.false))
    ∙ stm_at c.args.word.now c.args.counted c.in-ForIn.is (k.in_for_in c.args.word.now c.args.counted c.in-ForIn.key c.in-ForIn.value c.in-ForIn.list c.in-ForIn.body)

pub stmt-returns-else-not-is_named-2 : goal.stmt-returns-else-not-is_named-2
stmt-returns-else-not-is_named-2 t c =
    or_else c.expr-in-ForIn.ensures c.if-expr-4.false (unless_else _ (c.is_named-else-expr-4.ensures ∙ ap (is_name c.args.word.now) (key_named c.in-ForIn.key c.as_ref.result c.as_ref.ensures.value)) c.if-not-is_named-2.false)
    ∙ stm_at c.args.word.now c.args.counted c.in-ForIn.is (k.in_for_in c.args.word.now c.args.counted c.in-ForIn.key c.in-ForIn.value c.in-ForIn.list c.in-ForIn.body)

pub stmt-returns-then-not-is_one : goal.stmt-returns-then-not-is_one
stmt-returns-then-not-is_one t c =
    unless_then c.eq-in-Fun.ensures c.if-not-eq-2.true (unless_then c.is_one.ensures c.if-not-is_one.true c.stmts-then-not-is_one.ensures)
    ∙ stm_at c.args.word.now c.args.counted c.in-Fun.is (k.in_fun c.args.word.now c.args.counted c.in-Fun.fun)

pub stmt-returns-else-not-is_one : goal.stmt-returns-else-not-is_one
stmt-returns-else-not-is_one t c =
    unless_then c.eq-in-Fun.ensures c.if-not-eq-2.true (unless_else _ c.is_one.ensures c.if-not-is_one.false)
    ∙ stm_at c.args.word.now c.args.counted c.in-Fun.is (k.in_fun c.args.word.now c.args.counted c.in-Fun.fun)

pub stmt-returns-else-not-eq-2 : goal.stmt-returns-else-not-eq-2
stmt-returns-else-not-eq-2 t c =
    unless_else _ c.eq-in-Fun.ensures c.if-not-eq-2.false
    ∙ stm_at c.args.word.now c.args.counted c.in-Fun.is (k.in_fun c.args.word.now c.args.counted c.in-Fun.fun)

pub stmt-returns-then-stmts-2 : goal.stmt-returns-then-stmts-2
stmt-returns-then-stmts-2 t c =
    or_then _ c.stmts-in-Try.ensures c.if-stmts-2.true
    ∙ stm_at c.args.word.now c.args.counted c.in-Try.is (k.in_try c.args.word.now c.args.counted c.in-Try.body c.in-Try.name c.in-Try.handler)

pub stmt-returns-then-not-eq-3 : goal.stmt-returns-then-not-eq-3
stmt-returns-then-not-eq-3 t c =
    or_else c.stmts-in-Try.ensures c.if-stmts-2.false (unless_then c.eq-else-stmts-2.ensures c.if-not-eq-3.true c.stmts-then-not-eq-3.ensures)
    ∙ stm_at c.args.word.now c.args.counted c.in-Try.is (k.in_try c.args.word.now c.args.counted c.in-Try.body c.in-Try.name c.in-Try.handler)

pub stmt-returns-else-not-eq-3 : goal.stmt-returns-else-not-eq-3
stmt-returns-else-not-eq-3 t c =
    or_else c.stmts-in-Try.ensures c.if-stmts-2.false (unless_else _ c.eq-else-stmts-2.ensures c.if-not-eq-3.false)
    ∙ stm_at c.args.word.now c.args.counted c.in-Try.is (k.in_try c.args.word.now c.args.counted c.in-Try.body c.in-Try.name c.in-Try.handler)

pub stmt-returns-in-Block : goal.stmt-returns-in-Block
stmt-returns-in-Block t c =
    c.stmts-in-Block.ensures
    ∙ stm_at c.args.word.now c.args.counted c.in-Block.is (k.in_block c.args.word.now c.args.counted c.in-Block.list)
