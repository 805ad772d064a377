use Rattle.std.proofs.Common.{[], ◌∷◌, refl, ap, sym, ◌∙◌, subst, append-nil, Some, None}
use Rattle.std.specs.List.{flat_map}
use Rattle.std.proofs.lemmas.Result.{on_ok_weaker}
use Rattle.hog_tree.specs.declared.tree.Stmt as s
use Rattle.hog_tree.specs.View.{dict_of}
use Rattle.hog_scope.specs.Words.{Calls, pairs_words}
use Rattle.hog_tree.specs.Names.{dict_names, body_names, exp_names, stm_names}
use Rattle.hog_scope.specs.Events.{AddsEvents, expr_words, item_words, item_names, arrow_words, stmt_words}
use Rattle.hog_scope.proofs.Added.{adds_then, adds_and, adds_scope, adds_at, adds_all}
use Rattle.hog_scope.proofs.Rows.{dict_rows, dict_named}
use Rattle.hog_scope.proofs.Forms as form
use Rattle.hog_scope.proofs.words.+words.Goals as goal

pub arrow_body-returns-in-Block : goal.arrow_body-returns-in-Block
arrow_body-returns-in-Block t c = on_ok_weaker _ (adds_at arrow_words body_names c.in-Block.is (form.body_block_words c.in-Block.list) (form.body_block_names c.in-Block.list)) c.stmts.ensures

pub dict_items-returns : goal.dict_items-returns
dict_items-returns t c =
    adds_at (λ ds. pairs_words (dict_of ds)) dict_names {x = c.args.ds.now} refl (dict_rows c.args.ds.now) (dict_named c.args.ds.now)
    (subst (λ ds. AddsEvents c.args.out.now c.loop-item.out (flat_map item_words ds) (flat_map item_names ds)) c.deref-item-items.ensures.value
    (adds_all (flat_map item_words) (flat_map item_names) c.deref-item-items.result.now c.loop-item.item-index c.loop-item-test.false c.loop-item.invariant))

pub expr-returns-in-Name-deref : goal.expr-returns-in-Name-deref
expr-returns-in-Name-deref t c =
    let is = sym c.deref.ensures ∙ c.in-Name-deref.is in
    on_ok_weaker _ (λ last. adds_at expr_words exp_names c.in-Call.is
    (form.named_call_words c.in-Call.callee c.in-Call.args c.in-Name-deref.name is) (form.named_call_names c.in-Call.callee c.in-Call.args c.in-Name-deref.name is)
    (adds_then (subst (λ n. AddsEvents c.args.out.now c.put-in-Name-deref.new.out (Calls c.in-Name-deref.name.word n ∷ []) (c.in-Name-deref.name ∷ [])) (c.len.ensures ∙ c.in-Call.args.list.ok.0) c.in_ok-put-in-Call.ensures) last)) c.exprs-in-Name-deref.ensures

pub expr-returns-in-Template : goal.expr-returns-in-Template
expr-returns-in-Template t c = on_ok_weaker _ (adds_at expr_words exp_names c.in-Template.is (form.template_words c.in-Template.list) (form.template_names c.in-Template.list)) c.parts.ensures

pub expr-returns-in-Array : goal.expr-returns-in-Array
expr-returns-in-Array t c = on_ok_weaker _ (adds_at expr_words exp_names c.in-Array.is (form.array_words c.in-Array.list) (form.array_names c.in-Array.list)) c.exprs.ensures

pub expr-returns-in_ok-expr-in-Call : goal.expr-returns-in_ok-expr-in-Call
expr-returns-in_ok-expr-in-Call t c =
    on_ok_weaker _ (λ last. adds_at expr_words exp_names c.in-Call.is
    (form.other_call_words c.in-Call.callee c.in-Call.args (λ n is. c.in_default.not-Name n (c.deref.ensures ∙ is))) (form.call_names c.in-Call.callee c.in-Call.args)
    (adds_then (subst (λ x. AddsEvents c.args.out.now c.expr.new.out (expr_words x) (exp_names x)) c.deref-in-Call.ensures c.in_ok-expr-in-Call.ensures) last)) c.exprs-in-Call.ensures

pub stmt-returns-in_ok-expr-in-Assign : goal.stmt-returns-in_ok-expr-in-Assign
stmt-returns-in_ok-expr-in-Assign t c =
    on_ok_weaker _ (λ last. adds_at stmt_words stm_names c.in-Assign.is
    (form.assign_words c.in-Assign.target c.in-Assign.value c.in_default.not-Name) refl
    (adds_then c.in_ok-expr-in-Assign.ensures last)) c.expr-in-Assign-2.ensures

pub stmt-returns-in-Some : goal.stmt-returns-in-Some
stmt-returns-in-Some t c =
    on_ok_weaker _ (λ last. adds_at stmt_words stm_names (c.in-If.is ∙ ap (s.If c.in-If.cond c.in-If.then) c.in-Some.is) (form.if_words c.in-If.cond c.in-If.then (Some c.in-Some.list)) (form.if_names c.in-If.cond c.in-If.then (Some c.in-Some.list))
    (adds_then (adds_then c.in_ok-expr-in-If.ensures c.in_ok-block-in-If.ensures) last)) c.block-in-Some.ensures

pub stmt-returns-in-None : goal.stmt-returns-in-None
stmt-returns-in-None t c =
    adds_at stmt_words stm_names (c.in-If.is ∙ ap (s.If c.in-If.cond c.in-If.then) c.in-None.is)
    (form.if_words c.in-If.cond c.in-If.then None ∙ append-nil _) (form.if_names c.in-If.cond c.in-If.then None ∙ append-nil _)
    (adds_then c.in_ok-expr-in-If.ensures c.in_ok-block-in-If.ensures)

pub stmt-returns-in_ok-expr-in-While : goal.stmt-returns-in_ok-expr-in-While
stmt-returns-in_ok-expr-in-While t c =
    on_ok_weaker _ (λ last. adds_at stmt_words stm_names c.in-While.is (form.while_words c.in-While.cond c.in-While.body) (form.while_names c.in-While.cond c.in-While.body)
    (adds_then c.in_ok-expr-in-While.ensures last)) c.block-in-While.ensures

pub stmt-returns-in_ok-block-in-For : goal.stmt-returns-in_ok-block-in-For
stmt-returns-in_ok-block-in-For t c =
    on_ok_weaker _ (λ last. adds_at stmt_words stm_names c.in-For.is (form.for_words c.in-For.start c.in-For.cond c.in-For.step c.in-For.body) (form.for_names c.in-For.start c.in-For.cond c.in-For.step c.in-For.body)
    (adds_scope c.in_ok-put-in-For.ensures
    (adds_then (adds_then (adds_then c.in_ok-option_stmt-in-For.ensures c.in_ok-option_expr-in-For.ensures) c.in_ok-option_step-in-For.ensures) c.in_ok-block-in-For.ensures)
    last)) c.put-in-For-2.ensures

pub stmt-returns-in_ok-block-in-ForIn : goal.stmt-returns-in_ok-block-in-ForIn
stmt-returns-in_ok-block-in-ForIn t c =
    on_ok_weaker _ (λ last. adds_at stmt_words stm_names c.in-ForIn.is (form.for_in_words c.in-ForIn.key c.in-ForIn.value c.in-ForIn.list c.in-ForIn.body) (form.for_in_names c.in-ForIn.key c.in-ForIn.value c.in-ForIn.list c.in-ForIn.body)
    (adds_scope c.in_ok-put-in-ForIn.ensures
    (adds_then
    (adds_and (adds_then c.in_ok-declares-in-ForIn.ensures (adds_then c.in_ok-put-in-ForIn-2.ensures c.in_ok-expr-in-ForIn.ensures)) c.in_ok-binds-in-ForIn.ensures)
    (adds_then c.in_ok-put-in-ForIn-3.ensures c.in_ok-block-in-ForIn.ensures))
    last)) c.put-in-ForIn-4.ensures

pub stmt-returns-in_ok-stmts-in-Fun : goal.stmt-returns-in_ok-stmts-in-Fun
stmt-returns-in_ok-stmts-in-Fun t c =
    on_ok_weaker _ (λ last. adds_at stmt_words stm_names c.in-Fun.is (form.fun_words c.in-Fun.fun) (form.fun_names c.in-Fun.fun)
    (adds_then c.in_ok-declared-in-Fun.ensures
    (adds_scope c.in_ok-put-in-Fun.ensures (adds_then c.in_ok-params-in-Fun.ensures c.in_ok-stmts-in-Fun.ensures) last))) c.put-in-Fun-2.ensures

pub stmt-returns-in_ok-block-in-Try-2 : goal.stmt-returns-in_ok-block-in-Try-2
stmt-returns-in_ok-block-in-Try-2 t c =
    on_ok_weaker _ (λ last. adds_at stmt_words stm_names c.in-Try.is (form.try_words c.in-Try.body c.in-Try.name c.in-Try.handler) (form.try_names c.in-Try.body c.in-Try.name c.in-Try.handler)
    (adds_then c.in_ok-block-in-Try.ensures
    (adds_scope c.in_ok-put-in-Try.ensures (adds_then c.in_ok-declared-in-Try.ensures c.in_ok-block-in-Try-2.ensures) last))) c.put-in-Try-2.ensures

pub stmt-returns-in-Block : goal.stmt-returns-in-Block
stmt-returns-in-Block t c = on_ok_weaker _ (adds_at stmt_words stm_names c.in-Block.is (form.block_words c.in-Block.list) (form.block_names c.in-Block.list)) c.block-in-Block.ensures
