use Rattle.std.proofs.Common.{◌∷◌, ◌++◌, [], true, refl, subst, ap, sym, ◌∙◌}
use Rattle.std.specs.Prelude.{option_to_list}
use Rattle.std.proofs.lemmas.Result.{on_ok_weaker}
use Rattle.std.proofs.lemmas.List.{take_all}
use Rattle.hog_tree.proofs.Rows.{array_is, call_is, template_is, dict_is, body_is, block_is, while_is, if_is, try_is, for_in_is, for_is, fun_is}
use Rattle.hog_tree.specs.View.{words_of, option_word_of, body_of, exps_from, parts_from, pairs_from, stms_from, option_stm_from}
use Rattle.hog_captures.specs.Frees.{option_name_by, exp_frees, exps_frees, parts_frees, pairs_frees, body_frees, stm_frees, stms_frees}
use Rattle.hog_captures.specs.Finding.{Finds, bind, bind_all, bind_name}
use Rattle.hog_captures.proofs.Taken.{hole_frees, hole_first, item_frees, item_first, key_named}
use Rattle.hog_captures.proofs.Finds.{binds_more}
use Rattle.hog_captures.proofs.Prefixes.{words_more, name_is}
use Rattle.hog_captures.proofs.Walks.{nothing, then_more, at_form, at_two, exp_words, stm_words, within, without_named, bound_named, stms_on, stms_end}
use Rattle.hog_captures.proofs.words.+words.Goals as goal
use Rattle.hog_captures.proofs.words.+words.Goals.{parts-in-Text, parts-in-Hole+in_ok-expr-in-Hole}

pub arrow_body-returns-in-Block : goal.arrow_body-returns-in-Block
arrow_body-returns-in-Block t c = on_ok_weaker _ (at_form (λ b. body_frees (body_of b)) c.in-Block.is (ap body_frees (body_is c.in-Block.list))) c.stmts.ensures

pub expr-returns-in-Template : goal.expr-returns-in-Template
expr-returns-in-Template t c = on_ok_weaker _ (at_form exp_words c.in-Template.is (ap (exp_frees true) (template_is c.in-Template.list))) c.parts.ensures

pub expr-returns-in-Array : goal.expr-returns-in-Array
expr-returns-in-Array t c = on_ok_weaker _ (at_form exp_words c.in-Array.is (ap (exp_frees true) (array_is c.in-Array.list))) c.exprs.ensures

pub expr-returns-in_ok-expr-in-Call : goal.expr-returns-in_ok-expr-in-Call
expr-returns-in_ok-expr-in-Call t c =
    let first = subst (λ x. Finds c.args.finder.now c.expr.new.finder (exp_words x)) c.deref.ensures c.in_ok-expr-in-Call.ensures in
    on_ok_weaker _ (λ last. at_form exp_words c.in-Call.is (ap (exp_frees true) (call_is c.in-Call.callee c.in-Call.args)) (then_more first last)) c.exprs-in-Call.ensures

pub expr-returns-in_ok-arrow_body-in-Lambda : goal.expr-returns-in_ok-arrow_body-in-Lambda
expr-returns-in_ok-arrow_body-in-Lambda t c =
    at_form exp_words c.in-Lambda.is refl
    (within c.args.finder.now (words_of c.in-Lambda.params) c.depth-depth.ensures c.in_ok-bind_all-in-Lambda.ensures c.in_ok-arrow_body-in-Lambda.ensures c.unbind.ensures)

pub expr-returns-in_ok-expr-in-Binary : goal.expr-returns-in_ok-expr-in-Binary
expr-returns-in_ok-expr-in-Binary t c =
    let first = subst (λ x. Finds c.args.finder.now c.expr-in-Binary.new.finder (exp_words x)) c.deref-in-Binary.ensures c.in_ok-expr-in-Binary.ensures in
    on_ok_weaker _ (λ last. at_two c.in-Binary.x c.in-Binary.y c.in-Binary.is
    (then_more first (subst (λ x. Finds c.expr-in-Binary.new.finder c.expr-in-Binary-2.new.finder (exp_words x)) c.deref-in-Binary-2.ensures last))) c.expr-in-Binary-2.ensures

pub exprs-loop-e-preserved : goal.exprs-loop-e-preserved
exprs-loop-e-preserved t c =
    let xs = c.deref-e-items.result.now in
    let i = c.loop-e.e-index in
    let x = c.e-item.result in
    subst (λ ws. Finds c.args.finder.now c.expr.new.finder ws)
    (sym (words_more exp_words (λ ys. exps_frees true (exps_from ys)) refl (λ y ys. refl) xs i x c.loop-e-test.true c.e-item.is))
    (then_more c.loop-e.invariant c.in_ok-expr.ensures)

pub parts-loop-part-preserved : goal.parts-loop-part-preserved
parts-loop-part-preserved t c =
    let xs = c.deref-part-items.result.now in
    let i = c.loop-part.part-index in
    let x = c.part-item.result in
    let own : Finds c.loop-part.finder c.match-part.finder (hole_frees true x) = elim c.match-part.branch [
      | parts-in-Text b ↦ at_form (hole_frees true) b.in-Text.is refl (subst (λ f. Finds c.loop-part.finder f []) (sym b.finder-is) (nothing c.loop-part.finder))
      | parts-in-Hole+in_ok-expr-in-Hole b ↦ at_form (hole_frees true) b.in-Hole.is refl
          (subst (λ f. Finds c.loop-part.finder f (exp_words b.in-Hole.e)) (sym b.finder-is) b.in_ok-expr-in-Hole.ensures)
    ] in
    subst (λ ws. Finds c.args.finder.now c.match-part.finder ws)
    (sym (words_more (hole_frees true) (λ ys. parts_frees true (parts_from ys)) refl (hole_first true) xs i x c.loop-part-test.true c.part-item.is))
    (then_more c.loop-part.invariant own)

pub dict_items-loop-item-preserved : goal.dict_items-loop-item-preserved
dict_items-loop-item-preserved t c =
    let xs = c.deref-item-items.result.now in
    let i = c.loop-item.item-index in
    let x = c.item-item.result in
    subst (λ ws. Finds c.args.finder.now c.expr-in-loop-item.new.finder ws)
    (sym (words_more (item_frees true) (λ ys. pairs_frees true (pairs_from ys)) refl (item_first true) xs i x c.loop-item-test.true c.item-item.is))
    (then_more c.loop-item.invariant (then_more c.in_ok-expr.ensures c.in_ok-expr-2.ensures))

pub dict_items-returns : goal.dict_items-returns
dict_items-returns t c =
    let xs = c.deref-item-items.result.now in
    subst (λ ws. Finds c.args.finder.now c.loop-item.finder ws)
    (ap (λ ys. pairs_frees true (pairs_from ys)) (take_all c.loop-item.item-index xs c.loop-item-test.false ∙ c.deref-item-items.ensures.value)
    ∙ ap (exp_frees true) (sym (dict_is c.args.ds.now)))
    c.loop-item.invariant

pub stmt-returns-in_ok-expr-in-Assign : goal.stmt-returns-in_ok-expr-in-Assign
stmt-returns-in_ok-expr-in-Assign t c = on_ok_weaker _ (λ last. at_form stm_words c.in-Assign.is refl (then_more c.in_ok-expr-in-Assign.ensures last)) c.expr-in-Assign.ensures

pub stmt-returns-in_ok-stmts-in-If : goal.stmt-returns-in_ok-stmts-in-If
stmt-returns-in_ok-stmts-in-If t c =
    on_ok_weaker _ (λ last. at_form stm_words c.in-If.is (ap (stm_frees true) (if_is c.in-If.cond c.in-If.then c.in-If.other))
    (then_more c.in_ok-expr-in-If.ensures (then_more c.in_ok-stmts-in-If.ensures last))) c.option_stmts.ensures

pub stmt-returns-in_ok-expr-in-While : goal.stmt-returns-in_ok-expr-in-While
stmt-returns-in_ok-expr-in-While t c =
    on_ok_weaker _ (λ last. at_form stm_words c.in-While.is (ap (stm_frees true) (while_is c.in-While.cond c.in-While.body)) (then_more c.in_ok-expr-in-While.ensures last)) c.stmts-in-While.ensures

pub stmt-returns-in_ok-stmts-in-For : goal.stmt-returns-in_ok-stmts-in-For
stmt-returns-in_ok-stmts-in-For t c =
    let n = option_name_by (option_stm_from c.in-For.start) in
    let f = c.option_stmt.new.finder in
    at_form stm_words c.in-For.is (ap (stm_frees true) (for_is c.in-For.start c.in-For.cond c.in-For.step c.in-For.body))
    (then_more c.in_ok-option_stmt-in-For.ensures
    (subst (λ ws. Finds f c.unbind.new.self ws) (sym (without_named n _))
    (within f (option_to_list n) c.depth-depth.ensures
    (c.in_ok-bind_name-in-For.ensures ∙ ap (λ m. bind_name m f) c.start_name.ensures ∙ bound_named n f)
    (then_more c.in_ok-option_expr-in-For.ensures (then_more c.in_ok-option_stmt-in-For-2.ensures c.in_ok-stmts-in-For.ensures))
    c.unbind.ensures)))

pub stmt-returns-in_ok-stmts-in-ForIn : goal.stmt-returns-in_ok-stmts-in-ForIn
stmt-returns-in_ok-stmts-in-ForIn t c =
    let k = option_word_of c.in-ForIn.key in
    let v = c.in-ForIn.value.word in
    let f = c.expr-in-ForIn.new.finder in
    let body = stms_frees true (stms_from c.in-ForIn.body.list.items) in
    at_form stm_words c.in-ForIn.is (ap (stm_frees true) (for_in_is c.in-ForIn.key c.in-ForIn.value c.in-ForIn.list c.in-ForIn.body))
    (then_more c.in_ok-expr-in-ForIn.ensures
    (subst (λ ws. Finds f c.unbind-in-ForIn.new.self ws) (sym (name_is k (v ∷ []) body))
    (within f (option_to_list k ++ v ∷ []) c.depth-depth-in-ForIn.ensures
    (c.in_ok-bind-in-ForIn.ensures
    ∙ ap (bind v) (c.in_ok-bind_name-in-ForIn.ensures ∙ ap (λ m. bind_name m f) (key_named c.in-ForIn.key c.as_ref.result c.as_ref.ensures.value) ∙ bound_named k f)
    ∙ sym (binds_more (option_to_list k) v f))
    c.in_ok-stmts-in-ForIn.ensures c.unbind-in-ForIn.ensures)))

pub stmt-returns-in_ok-stmts-in-Fun : goal.stmt-returns-in_ok-stmts-in-Fun
stmt-returns-in_ok-stmts-in-Fun t c =
    let d = c.in-Fun.fun in
    at_form stm_words c.in-Fun.is (ap (stm_frees true) (fun_is d))
    (within c.args.finder.now (d.name.word ∷ words_of d.params) c.depth-depth-in-Fun.ensures
    (c.in_ok-bind_all-in-Fun.ensures ∙ ap (bind_all (words_of d.params)) c.in_ok-bind-in-Fun.ensures)
    c.in_ok-stmts-in-Fun.ensures c.unbind-in-Fun.ensures)

pub stmt-returns-in_ok-stmts-in-Try-2 : goal.stmt-returns-in_ok-stmts-in-Try-2
stmt-returns-in_ok-stmts-in-Try-2 t c =
    at_form stm_words c.in-Try.is (ap (stm_frees true) (try_is c.in-Try.body c.in-Try.name c.in-Try.handler))
    (then_more c.in_ok-stmts-in-Try.ensures
    (within c.stmts-in-Try.new.finder (c.in-Try.name.word ∷ []) c.depth-depth-in-Try.ensures c.in_ok-bind-in-Try.ensures c.in_ok-stmts-in-Try-2.ensures c.unbind-in-Try.ensures))

pub stmt-returns-in-Block : goal.stmt-returns-in-Block
stmt-returns-in-Block t c = on_ok_weaker _ (at_form stm_words c.in-Block.is (ap (stm_frees true) (block_is c.in-Block.list))) c.stmts-in-Block.ensures

pub stmts-loop-s-preserved : goal.stmts-loop-s-preserved
stmts-loop-s-preserved t c = record {
  base = c.loop-s.invariant.base;
  state = stms_on c.args.finder.now c.deref-s-items.result.now c.loop-s.s-index c.s-item.result c.loop-s-test.true c.s-item.is c.loop-s.invariant.state
      c.in_ok-stmt.ensures (c.in_ok-bind_name.ensures ∙ ap (λ m. bind_name m c.stmt.new.finder) c.declared_by.ensures);
}

pub stmts-returns : goal.stmts-returns
stmts-returns t c =
    subst (λ xs. Finds c.args.finder.now c.unbind.new.self (stms_frees true (stms_from xs))) c.deref-s-items.ensures.value
    (stms_end c.args.finder.now c.deref-s-items.result.now c.loop-s.s-index c.loop-s-test.false c.loop-s.invariant.state c.loop-s.invariant.base c.unbind.ensures)
