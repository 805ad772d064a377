use Rattle.std.proofs.Common.{take, sym, ap, ap₂, ◌∙◌, arith, Some, None}
use Rattle.std.proofs.lemmas.Result.{on_ok_weaker}
use Rattle.hog_ops.specs.Plain as o
use Rattle.hog_ops.specs.Plain.{MoreOp, ◌⊕◌}
use Rattle.hog_ops.proofs.Join.{join_none}
use Rattle.hog_tree.specs.Plain.{Assign}
use Rattle.hog_tree.specs.View.{exp_of, exps_from, parts_from, pairs_from, body_of, stm_of, stms_from, option_exp_from, option_stms_from}
use Rattle.hog_value.specs.Natives.{native_named}
use Rattle.hog_tree.specs.declared.tree.ArrowBody.TheViews.{out-DictItems}
use Rattle.hog_tree.specs.Count.{of_exp, of_exps, of_parts, of_pairs, of_body, of_stm, of_stms, of_option_exp, of_option_stms}
use Rattle.hog_tree.proofs.Rows.{template_is, array_is, call_is, body_is, let_is, return_is, if_is, while_is, for_is, for_in_is, fun_is, try_is, block_is}
use Rattle.hog_captures.specs.Frees.{name_by}
use Rattle.hog_captures.specs.Frames.{with_name}
use Rattle.hog_compiler.specs.Pieces.{one, native_code, loop_code}
use Rattle.hog_compiler.specs.Code.{called_native, exp_code, exps_code, parts_code, pairs_code, body_code, stm_code}
use Rattle.hog_tree.specs.Nesting.{exp_nesting, exps_nesting, parts_nesting, pairs_nesting, body_nesting, stm_nesting, stms_nesting, option_exp_nesting, option_stms_nesting}
use Rattle.hog_compiler.proofs.Joins.{adds_then, adds_at}
use Rattle.hog_compiler.proofs.Lists.{adds_more, adds_all, exps_more, parts_more, pairs_more, exps_deep, parts_deep, pairs_deep, stms_deep, exps_counts, parts_counts, pairs_counts, stms_counts}
use Rattle.hog_compiler.proofs.Frames.{grown_none, grown_after, adds_stm, after_one}
use Rattle.hog_compiler.proofs.TreeForms.{dict_listed, template_same, array_same, dict_same, call_same, written, lambda_fine, function_fine}
use Rattle.hog_compiler.proofs.Targets.{other_target}
use Rattle.hog_compiler.proofs.forms.+forms.Goals as goal

-- ---- bodies

pub arrow_body-stmts-requires : goal.arrow_body-stmts-requires
arrow_body-stmts-requires t c =
    let same = ap body_of c.in-Block.is ∙ body_is c.in-Block.list in (omega (arith, c.decreases, ap of_body same), omega (arith, c.requires, ap body_nesting same))

pub arrow_body-returns-in_ok-stmts-in-Block : goal.arrow_body-returns-in_ok-stmts-in-Block
arrow_body-returns-in_ok-stmts-in-Block t c =
    let fr = c.args.frame.now in
    on_ok_weaker _ (λ last. adds_at (sym (ap (body_code fr) (ap body_of c.in-Block.is ∙ body_is c.in-Block.list))) (adds_then c.in_ok-stmts-in-Block.ensures.code last)) c.return_null.ensures

pub lambda-function-requires-clause-operands : goal.lambda-function-requires-clause-operands
lambda-function-requires-clause-operands t c =
    (lambda_fine c.in_ok-inner.inner (body_of c.args.body.now) c.new-code.ensures c.in_ok-arrow_body.ensures c.requires).allowed

pub lambda-function-requires-clause-distances : goal.lambda-function-requires-clause-distances
lambda-function-requires-clause-distances t c =
    (lambda_fine c.in_ok-inner.inner (body_of c.args.body.now) c.new-code.ensures c.in_ok-arrow_body.ensures c.requires).leads

pub lambda-function-requires-clause-nesting : goal.lambda-function-requires-clause-nesting
lambda-function-requires-clause-nesting t c =
    (lambda_fine c.in_ok-inner.inner (body_of c.args.body.now) c.new-code.ensures c.in_ok-arrow_body.ensures c.requires).low

pub function-function-requires-clause-operands : goal.function-function-requires-clause-operands
function-function-requires-clause-operands t c =
    (function_fine c.in_ok-inner.inner (stms_from c.args.fun.now.body.list.items) c.new-code.ensures c.in_ok-stmts.ensures.code c.in_ok-return_null.ensures (omega (arith, c.requires))).allowed

pub function-function-requires-clause-distances : goal.function-function-requires-clause-distances
function-function-requires-clause-distances t c =
    (function_fine c.in_ok-inner.inner (stms_from c.args.fun.now.body.list.items) c.new-code.ensures c.in_ok-stmts.ensures.code c.in_ok-return_null.ensures (omega (arith, c.requires))).leads

pub function-function-requires-clause-nesting : goal.function-function-requires-clause-nesting
function-function-requires-clause-nesting t c =
    (function_fine c.in_ok-inner.inner (stms_from c.args.fun.now.body.list.items) c.new-code.ensures c.in_ok-stmts.ensures.code c.in_ok-return_null.ensures (omega (arith, c.requires))).low

-- ---- assignments

pub assign-expr-requires : goal.assign-expr-requires
assign-expr-requires t c = (omega (arith, c.decreases), omega (arith, c.requires))

pub assign-expr-requires-in-Prop-2 : goal.assign-expr-requires-in-Prop-2
assign-expr-requires-in-Prop-2 t c = (omega (arith, c.decreases), omega (arith, c.requires))

pub assign-expr-requires-in-Index-3 : goal.assign-expr-requires-in-Index-3
assign-expr-requires-in-Index-3 t c = (omega (arith, c.decreases), omega (arith, c.requires))

pub assign-expr-requires-in_default-2 : goal.assign-expr-requires-in_default-2
assign-expr-requires-in_default-2 t c = (omega (arith, c.decreases), omega (arith, c.requires))

pub assign-returns-in_ok-expr-in-Name : goal.assign-returns-in_ok-expr-in-Name
assign-returns-in_ok-expr-in-Name t c =
    let fr = c.args.frame.now in
    let y = exp_of c.args.x.now in
    let target = ap (λ q. stm_code fr (Assign q y)) (ap exp_of c.in-Name.is) in
    on_ok_weaker _ (λ last. adds_at (ap (λ op. exp_code fr y ⊕ one op) c.write.ensures ∙ sym target) (adds_then c.in_ok-expr-in-Name.ensures last)) c.push.ensures

pub assign-returns-in_ok-expr-in-Prop-2 : goal.assign-returns-in_ok-expr-in-Prop-2
assign-returns-in_ok-expr-in-Prop-2 t c =
    let fr = c.args.frame.now in
    let y = exp_of c.args.x.now in
    let base = exp_code fr (exp_of c.in-Prop.base.value) in
    let target = ap (λ q. stm_code fr (Assign q y)) (ap exp_of c.in-Prop.is) in
    let word = ap (λ w. base ⊕ MoreOp (o.Str w) (exp_code fr y ⊕ one o.SetProperty)) c.in_ok-copy-in-Prop.ensures in
    let first = ap (λ x. exp_code fr (exp_of x)) c.deref.ensures in
    on_ok_weaker _ (λ last. adds_at (word ∙ sym target) (adds_then (adds_at first c.in_ok-expr-in-Prop.ensures) (adds_then c.in_ok-push-in-Prop.ensures (adds_then c.in_ok-expr-in-Prop-2.ensures last)))) c.push-in-Prop-2.ensures

pub assign-returns-in_ok-expr-in-Index-3 : goal.assign-returns-in_ok-expr-in-Index-3
assign-returns-in_ok-expr-in-Index-3 t c =
    let fr = c.args.frame.now in
    let y = exp_of c.args.x.now in
    let target = ap (λ q. stm_code fr (Assign q y)) (ap exp_of c.in-Index.is) in
    let first = ap (λ x. exp_code fr (exp_of x)) c.deref-in-Index.ensures in
    let second = ap (λ x. exp_code fr (exp_of x)) c.deref-in-Index-2.ensures in
    on_ok_weaker _ (λ last. adds_at (sym target) (adds_then (adds_at first c.in_ok-expr-in-Index.ensures) (adds_then (adds_at second c.in_ok-expr-in-Index-2.ensures) (adds_then c.in_ok-expr-in-Index-3.ensures last)))) c.push-in-Index.ensures

pub assign-returns-in_ok-push-in_default : goal.assign-returns-in_ok-push-in_default
assign-returns-in_ok-push-in_default t c =
    let fr = c.args.frame.now in
    let same = other_target (exp_of c.args.x.now) fr c.args.target.now c.in_default.not-Name c.in_default.not-Prop c.in_default.not-Index in
    on_ok_weaker _ (λ last. adds_at same (adds_then c.in_ok-expr-in_default.ensures (adds_then c.in_ok-expr-in_default-2.ensures (adds_then c.in_ok-push-in_default.ensures last)))) c.push-in_default-2.ensures

-- ---- what stands in a form is no deeper

pub choice-block-requires : goal.choice-block-requires
choice-block-requires t c = (omega (arith, c.decreases), omega (arith, c.requires))

pub choice-block-requires-in-Some : goal.choice-block-requires-in-Some
choice-block-requires-in-Some t c = (omega (arith, c.decreases, ap (λ b. of_option_stms (option_stms_from b)) c.in-Some.is), omega (arith, c.requires, ap (λ b. option_stms_nesting (option_stms_from b)) c.in-Some.is))

pub counting-value-requires : goal.counting-value-requires
counting-value-requires t c = (omega (arith, c.decreases), omega (arith, c.requires))

pub counting-block-requires : goal.counting-block-requires
counting-block-requires t c = (omega (arith, c.decreases), omega (arith, c.requires))

pub counting-option_stmt-requires-2 : goal.counting-option_stmt-requires-2
counting-option_stmt-requires-2 t c = (omega (arith, c.decreases), omega (arith, c.requires))

pub guarded-block-requires-2 : goal.guarded-block-requires-2
guarded-block-requires-2 t c = (omega (arith, c.decreases), omega (arith, c.requires))

pub over_items-block-requires : goal.over_items-block-requires
over_items-block-requires t c = (omega (arith, c.decreases), omega (arith, c.requires))

pub value-expr-requires : goal.value-expr-requires
value-expr-requires t c = (omega (arith, c.decreases, ap (λ x. of_option_exp (option_exp_from x)) c.in-Some.is), omega (arith, c.requires, ap (λ x. option_exp_nesting (option_exp_from x)) c.in-Some.is))

-- ---- lists

pub dict_items-expr-requires : goal.dict_items-expr-requires
dict_items-expr-requires t c =
    let xs = c.deref-item-items.result.now in
    let deep = pairs_deep xs c.loop-item.item-index c.item-item.result c.loop-item-test.true c.item-item.is in
    let counts = pairs_counts xs c.loop-item.item-index c.item-item.result c.loop-item-test.true c.item-item.is in
    let value = c.deref-item-items.ensures.value in
    let listed = dict_listed c.args.ds.now in
    (omega (arith, c.decreases, counts, ap (λ ys. of_pairs (pairs_from ys)) value, ap of_pairs listed), omega (arith, c.requires, deep, ap (λ ys. pairs_nesting (pairs_from ys)) value, ap pairs_nesting listed))

pub dict_items-expr-requires-in-loop-item : goal.dict_items-expr-requires-in-loop-item
dict_items-expr-requires-in-loop-item t c =
    let xs = c.deref-item-items.result.now in
    let deep = pairs_deep xs c.loop-item.item-index c.item-item.result c.loop-item-test.true c.item-item.is in
    let counts = pairs_counts xs c.loop-item.item-index c.item-item.result c.loop-item-test.true c.item-item.is in
    let value = c.deref-item-items.ensures.value in
    let listed = dict_listed c.args.ds.now in
    (omega (arith, c.decreases, counts, ap (λ ys. of_pairs (pairs_from ys)) value, ap of_pairs listed), omega (arith, c.requires, deep, ap (λ ys. pairs_nesting (pairs_from ys)) value, ap pairs_nesting listed))

pub dict_items-loop-item-preserved : goal.dict_items-loop-item-preserved
dict_items-loop-item-preserved t c =
    let fr = c.args.frame.now in
    let xs = c.deref-item-items.result.now in
    let v = exp_code fr (exp_of c.item-item.result.value) in
    let item = ap (λ q. exp_code fr (exp_of c.item-item.result.key) ⊕ q) (sym (join_none v)) in
    adds_more (λ ys. pairs_code fr (pairs_from ys)) (pairs_more fr) xs c.loop-item.item-index c.item-item.result c.loop-item-test.true c.item-item.is
    c.loop-item.invariant (adds_at item (adds_then c.in_ok-expr.ensures c.in_ok-expr-2.ensures))

pub dict_items-returns : goal.dict_items-returns
dict_items-returns t c =
    let fr = c.args.frame.now in
    adds_at (ap (λ ys. pairs_code fr (pairs_from ys)) c.deref-item-items.ensures.value ∙ sym (ap (pairs_code fr) (dict_listed c.args.ds.now)))
    (adds_all (λ ys. pairs_code fr (pairs_from ys)) c.deref-item-items.result.now c.loop-item.item-index c.loop-item-test.false c.loop-item.invariant)

pub exprs-expr-requires : goal.exprs-expr-requires
exprs-expr-requires t c =
    let xs = c.deref-e-items.result.now in
    let deep = exps_deep xs c.loop-e.e-index c.e-item.result c.loop-e-test.true c.e-item.is in
    let counts = exps_counts xs c.loop-e.e-index c.e-item.result c.loop-e-test.true c.e-item.is in
    let value = c.deref-e-items.ensures.value in
    (omega (arith, c.decreases, counts, ap (λ ys. of_exps (exps_from ys)) value), omega (arith, c.requires, deep, ap (λ ys. exps_nesting (exps_from ys)) value))

pub exprs-loop-e-preserved : goal.exprs-loop-e-preserved
exprs-loop-e-preserved t c =
    let fr = c.args.frame.now in
    adds_more (λ ys. exps_code fr (exps_from ys)) (exps_more fr) c.deref-e-items.result.now c.loop-e.e-index c.e-item.result c.loop-e-test.true c.e-item.is
    c.loop-e.invariant (adds_at (sym (join_none (exp_code fr (exp_of c.e-item.result)))) c.in_ok-expr.ensures)

pub parts-part-requires : goal.parts-part-requires
parts-part-requires t c =
    let xs = c.deref-p-items.result.now in
    let deep = parts_deep xs c.loop-p.p-index c.p-item.result c.loop-p-test.true c.p-item.is in
    let counts = parts_counts xs c.loop-p.p-index c.p-item.result c.loop-p-test.true c.p-item.is in
    let value = c.deref-p-items.ensures.value in
    (omega (arith, c.decreases, counts, ap (λ ys. of_parts (parts_from ys)) value), omega (arith, c.requires, deep, ap (λ ys. parts_nesting (parts_from ys)) value))

pub parts-loop-p-preserved : goal.parts-loop-p-preserved
parts-loop-p-preserved t c =
    let fr = c.args.frame.now in
    adds_more (λ ys. parts_code fr (parts_from ys)) (parts_more fr) c.deref-p-items.result.now c.loop-p.p-index c.p-item.result c.loop-p-test.true c.p-item.is
    c.loop-p.invariant c.in_ok-part.ensures

pub stmts-stmt-requires : goal.stmts-stmt-requires
stmts-stmt-requires t c =
    let xs = c.deref-s-items.result.now in
    let deep = stms_deep xs c.loop-s.s-index c.s-item.result c.loop-s-test.true c.s-item.is in
    let counts = stms_counts xs c.loop-s.s-index c.s-item.result c.loop-s-test.true c.s-item.is in
    let value = c.deref-s-items.ensures.value in
    (omega (arith, c.decreases, counts, ap (λ ys. of_stms (stms_from ys)) value), omega (arith, c.requires, deep, ap (λ ys. stms_nesting (stms_from ys)) value))

pub stmts-loop-s-preserved : goal.stmts-loop-s-preserved
stmts-loop-s-preserved t c =
    let fr = c.args.frame.now in
    let xs = c.deref-s-items.result.now in
    let i = c.loop-s.s-index in
    let s = c.s-item.result in
    let here = ap (λ f. stm_code f (stm_of s)) c.loop-s.invariant.frame in
    record {
      code = adds_stm fr xs i s c.loop-s-test.true c.s-item.is c.loop-s.invariant.code (adds_at here c.in_ok-stmt.ensures.code);
      frame = c.in_ok-declare_by.ensures.ok ∙ ap (with_name (name_by (stm_of s))) (c.in_ok-stmt.ensures.frame ∙ c.loop-s.invariant.frame) ∙ sym (after_one fr xs i s c.loop-s-test.true c.s-item.is);
    }

pub stmts-returns-clause-frame : goal.stmts-returns-clause-frame
stmts-returns-clause-frame t c =
    let fr = c.args.frame.now in
    let grown = grown_after (stms_from (take c.loop-s.s-index c.deref-s-items.result.now)) (grown_none fr) in
    c.leave.ensures.back fr grown.names (c.loop-s.invariant.frame ∙ grown.is) c.len-count.ensures

-- ---- expressions

pub expr-parts-requires : goal.expr-parts-requires
expr-parts-requires t c =
    let same = ap exp_of c.in-Template.is ∙ template_is c.in-Template.list in (omega (arith, c.decreases, ap of_exp same), omega (arith, c.requires, ap exp_nesting same))

pub expr-exprs-requires : goal.expr-exprs-requires
expr-exprs-requires t c =
    let same = ap exp_of c.in-Array.is ∙ array_is c.in-Array.list in (omega (arith, c.decreases, ap of_exp same), omega (arith, c.requires, ap exp_nesting same))

pub expr-exprs-requires-in-Call : goal.expr-exprs-requires-in-Call
expr-exprs-requires-in-Call t c =
    let same = ap exp_of c.in-Call.is ∙ call_is c.in-Call.callee c.in-Call.args in
    (omega (arith, c.decreases, ap of_exp same), omega (arith, c.requires, ap exp_nesting same))

pub expr-returns-in_ok-counted-in-Template : goal.expr-returns-in_ok-counted-in-Template
expr-returns-in_ok-counted-in-Template t c =
    let same = template_same c.args.frame.now c.in-Template.list c.args.e.now c.in_ok-counted-in-Template.field-0 c.in-Template.is (c.in_ok-counted-in-Template.ensures ∙ c.len.ensures ∙ c.in-Template.list.list.ok.0) in
    on_ok_weaker _ (λ last. adds_at same (adds_then c.in_ok-parts-in-Template.ensures last)) c.push-in-Template.ensures

pub expr-returns-in_ok-counted-in-Array : goal.expr-returns-in_ok-counted-in-Array
expr-returns-in_ok-counted-in-Array t c =
    let same = array_same c.args.frame.now c.in-Array.list c.args.e.now c.in_ok-counted-in-Array.field-0 c.in-Array.is (c.in_ok-counted-in-Array.ensures ∙ c.len-in-Array.ensures ∙ c.in-Array.list.list.ok.0) in
    on_ok_weaker _ (λ last. adds_at same (adds_then c.in_ok-exprs-in-Array.ensures last)) c.push-in-Array.ensures

pub expr-returns-in_ok-counted-in-Dict : goal.expr-returns-in_ok-counted-in-Dict
expr-returns-in_ok-counted-in-Dict t c =
    let same = dict_same c.args.frame.now c.in-Dict.list c.args.e.now c.in_ok-counted-in-Dict.field-0 c.in-Dict.is (c.in_ok-counted-in-Dict.ensures ∙ c.len-in-Dict.ensures ∙ (out-DictItems c.in-Dict.list).list.ok.0) in
    on_ok_weaker _ (λ last. adds_at same (adds_then c.in_ok-dict_items-in-Dict.ensures last)) c.push-in-Dict.ensures

pub expr-returns-in-Some : goal.expr-returns-in-Some
expr-returns-in-Some t c =
    let fr = c.args.frame.now in
    let n = c.in_ok-count-in-Call.count in
    let count = c.in_ok-count-in-Call.ensures ∙ c.len-in-Call.ensures ∙ c.in-Call.args.list.ok.0 in
    let native = c.in-Some.ensures ∙ ap (λ x. called_native fr (exp_of x)) c.deref-in-Call.ensures in
    let same = call_same fr c.in-Call.callee c.in-Call.args c.args.e.now n (Some c.in-Some.word.now) c.in-Call.is count native in
    let named = ap (λ f. exps_code fr (exps_from c.in-Call.args.list.items) ⊕ native_code f n) (c.named.ensures.value ∙ ap native_named c.bytes.ensures.value) in
    on_ok_weaker _ (λ last. adds_at (named ∙ same) (adds_then c.in_ok-exprs-in-Call.ensures last)) c.call_native.ensures

pub expr-returns-in_ok-expr-in-Call : goal.expr-returns-in_ok-expr-in-Call
expr-returns-in_ok-expr-in-Call t c =
    let fr = c.args.frame.now in
    let n = c.in_ok-count-in-Call.count in
    let count = c.in_ok-count-in-Call.ensures ∙ c.len-in-Call.ensures ∙ c.in-Call.args.list.ok.0 in
    let native = c.in_default.ensures ∙ ap (λ x. called_native fr (exp_of x)) c.deref-in-Call.ensures in
    let same = call_same fr c.in-Call.callee c.in-Call.args c.args.e.now n None c.in-Call.is count native in
    let callee = adds_at (ap (λ x. exp_code fr (exp_of x)) c.deref-in-Call-2.ensures) c.in_ok-expr-in-Call.ensures in
    on_ok_weaker _ (λ last. adds_at same (adds_then c.in_ok-exprs-in-Call.ensures (adds_then callee last))) c.push-in-Call.ensures

-- ---- statements

pub stmt-value-requires : goal.stmt-value-requires
stmt-value-requires t c =
    let same = ap stm_of c.in-Let.is ∙ let_is c.in-Let.field-0 c.in-Let.x in (omega (arith, c.decreases, ap of_stm same), omega (arith, c.requires, ap stm_nesting same))

pub stmt-value-requires-in-Return : goal.stmt-value-requires-in-Return
stmt-value-requires-in-Return t c =
    let same = ap stm_of c.in-Return.is ∙ return_is c.in-Return.x in (omega (arith, c.decreases, ap of_stm same), omega (arith, c.requires, ap stm_nesting same))

pub stmt-choice-requires : goal.stmt-choice-requires
stmt-choice-requires t c =
    let same = ap stm_of c.in-If.is ∙ if_is c.in-If.condition c.in-If.body c.in-If.other in (omega (arith, c.decreases, ap of_stm same), omega (arith, c.requires, ap stm_nesting same))

pub stmt-block-requires : goal.stmt-block-requires
stmt-block-requires t c =
    let same = ap stm_of c.in-While.is ∙ while_is c.in-While.condition c.in-While.body in
    (omega (arith, c.decreases, ap of_stm same), omega (arith, c.requires, ap stm_nesting same))

pub stmt-counting-requires : goal.stmt-counting-requires
stmt-counting-requires t c =
    let same = ap stm_of c.in-For.is ∙ for_is c.in-For.start c.in-For.condition c.in-For.step c.in-For.body in (omega (arith, c.decreases, ap of_stm same), omega (arith, c.requires, ap stm_nesting same))

pub stmt-over_items-requires : goal.stmt-over_items-requires
stmt-over_items-requires t c =
    let same = ap stm_of c.in-ForIn.is ∙ for_in_is c.in-ForIn.key c.in-ForIn.name c.in-ForIn.list c.in-ForIn.body in (omega (arith, c.decreases, ap of_stm same), omega (arith, c.requires, ap stm_nesting same))

pub stmt-function-requires : goal.stmt-function-requires
stmt-function-requires t c =
    let same = ap stm_of c.in-Fun.is ∙ fun_is c.in-Fun.fun in (omega (arith, c.decreases, ap of_stm same), omega (arith, c.requires, ap stm_nesting same))

pub stmt-guarded-requires : goal.stmt-guarded-requires
stmt-guarded-requires t c =
    let same = ap stm_of c.in-Try.is ∙ try_is c.in-Try.body c.in-Try.name c.in-Try.handler in (omega (arith, c.decreases, ap of_stm same), omega (arith, c.requires, ap stm_nesting same))

pub stmt-block-requires-in-Block : goal.stmt-block-requires-in-Block
stmt-block-requires-in-Block t c =
    let same = ap stm_of c.in-Block.is ∙ block_is c.in-Block.list in (omega (arith, c.decreases, ap of_stm same), omega (arith, c.requires, ap stm_nesting same))

pub stmt-returns-in-If-clause-code : goal.stmt-returns-in-If-clause-code
stmt-returns-in-If-clause-code t c =
    on_ok_weaker _ (adds_at (sym (ap (stm_code c.args.frame.now) (ap stm_of c.in-If.is ∙ if_is c.in-If.condition c.in-If.body c.in-If.other)))) c.choice.ensures.code

pub stmt-returns-in_ok-block-in-While-clause-code : goal.stmt-returns-in_ok-block-in-While-clause-code
stmt-returns-in_ok-block-in-While-clause-code t c =
    let parts = ap₂ loop_code (written c.new-test.ensures c.in_ok-expr-in-While.ensures) (written c.new-turn.ensures c.in_ok-block-in-While.ensures.code) in
    on_ok_weaker _ (adds_at (parts ∙ sym (ap (stm_code c.args.frame.now) (ap stm_of c.in-While.is ∙ while_is c.in-While.condition c.in-While.body)))) c.repeat.ensures

pub stmt-returns-in-For-clause-code : goal.stmt-returns-in-For-clause-code
stmt-returns-in-For-clause-code t c =
    on_ok_weaker _ (adds_at (sym (ap (stm_code c.args.frame.now) (ap stm_of c.in-For.is ∙ for_is c.in-For.start c.in-For.condition c.in-For.step c.in-For.body)))) c.counting.ensures.code

pub stmt-returns-in-ForIn-clause-code : goal.stmt-returns-in-ForIn-clause-code
stmt-returns-in-ForIn-clause-code t c =
    on_ok_weaker _ (adds_at (sym (ap (stm_code c.args.frame.now) (ap stm_of c.in-ForIn.is ∙ for_in_is c.in-ForIn.key c.in-ForIn.name c.in-ForIn.list c.in-ForIn.body)))) c.over_items.ensures.code

pub stmt-returns-in-Fun-clause-code : goal.stmt-returns-in-Fun-clause-code
stmt-returns-in-Fun-clause-code t c =
    on_ok_weaker _ (adds_at (sym (ap (stm_code c.args.frame.now) (ap stm_of c.in-Fun.is ∙ fun_is c.in-Fun.fun)))) c.function.ensures.code

pub stmt-returns-in-Try-clause-code : goal.stmt-returns-in-Try-clause-code
stmt-returns-in-Try-clause-code t c =
    on_ok_weaker _ (adds_at (sym (ap (stm_code c.args.frame.now) (ap stm_of c.in-Try.is ∙ try_is c.in-Try.body c.in-Try.name c.in-Try.handler)))) c.guarded.ensures.code

pub stmt-returns-in-Block-clause-code : goal.stmt-returns-in-Block-clause-code
stmt-returns-in-Block-clause-code t c =
    on_ok_weaker _ (adds_at (sym (ap (stm_code c.args.frame.now) (ap stm_of c.in-Block.is ∙ block_is c.in-Block.list)))) c.block-in-Block.ensures.code
