use Rattle.std.proofs.Common.{◌≡◌, ◌++◌, ◌∷◌, [], List, ℕ, arith, sym, ap, ◌∙◌, subst, Some, None, append-nil}
use Rattle.std.specs.Prelude.{string_bytes, codes}
use Rattle.hog_tree.specs.declared.tree.Stmt as s
use Rattle.hog_tree.specs.declared.tree.Stmts.{Stmts}
use Rattle.hog_tree.specs.View.{words_of, option_word_of, exp_of, exps_from, part_of, parts_from, pairs_from, stm_of, stms_from, option_exp_from, option_stm_from}
use Rattle.hog_tree.specs.Plain as p
use Rattle.hog_grammar.proofs.Utf8.{all_low}
use Rattle.hog_printer.specs.declared.layout.Layout.{Layout}
use Rattle.hog_printer.specs.Print.{held, form_of, is_compound, names, bound, condition, step, items, parts, pairs, line_end, within, lines, statement, braced}
use Rattle.hog_printer.proofs.Added.{two, three, four, five, seven, at_form, one_more, all_added, comma_after, comma_more, expr_text, items_push, parts_push, item_text, pairs_push, lines_push, dict_pairs, on_ok, call_text, if_text, while_text, for_text, for_in_text, fun_text, try_text}
use Rattle.hog_printer.proofs.printer.+printer.Goals as goal

abbrev block_text : Layout → Stmts → List ℕ
block_text at ss = braced at (lines (within at) (stms_from ss.list.items))

pub block-loop-s-preserved : goal.block-loop-s-preserved
block-loop-s-preserved t c =
    let at = c.in_ok-inner.inner in
    one_more (λ ss. lines at (stms_from ss)) (λ ss x. line_end at ++ statement at (stm_of x)) (lines_push at) (string_bytes c.push_str.new.self)
    c.deref-s-items.result.now c.loop-s.s-index c.s-item.result c.loop-s-test.true c.s-item.is c.loop-s.invariant
    (two (string_bytes c.loop-s.out) (line_end at) (statement at (stm_of c.s-item.result)) c.in_ok-end_line.ensures c.in_ok-stmt.ensures)

pub block-returns : goal.block-returns
block-returns t c =
    let at = c.in_ok-inner.inner in
    let old = string_bytes c.args.out.now in
    let all = subst (λ ss. string_bytes c.loop-s.out ≡ string_bytes c.push_str.new.self ++ lines at (stms_from ss)) c.deref-s-items.ensures.value
    (all_added (λ ss. lines at (stms_from ss)) (string_bytes c.push_str.new.self) c.deref-s-items.result.now c.loop-s.s-index c.loop-s-test.false c.loop-s.invariant) in
    four old (codes "{") (lines at (stms_from c.args.list.now.list.items)) (line_end c.args.at) (codes "}") c.in_ok-push_str.ensures.bytes all c.in_ok-end_line-2.ensures c.in_ok-push_str-2.ensures.bytes
    ∙ ap (λ x. old ++ braced c.args.at (lines x (stms_from c.args.list.now.list.items))) c.in_ok-inner.ensures

pub dict-loop-item-preserved : goal.dict-loop-item-preserved
dict-loop-item-preserved t c =
    let xs = c.deref-item-items.result.now in
    record {
      text = one_more (λ ds. pairs (pairs_from ds)) (λ ds d. comma_after ds ++ item_text d) pairs_push (string_bytes c.push_str.new.self) xs c.loop-item.item-index c.item-item.result c.loop-item-test.true c.item-item.is c.loop-item.invariant.text
          (c.in_ok-dict_item.ensures ∙ ap (λ z. string_bytes c.loop-item.out ++ (z ++ item_text c.item-item.result)) c.loop-item.invariant.between);
      between = sym (comma_more xs c.loop-item.item-index c.item-item.result c.loop-item-test.true c.item-item.is);
      utf8 = all_low (44 ∷ 32 ∷ []) (omega arith, (omega arith, tt));
    }

pub dict-returns : goal.dict-returns
dict-returns t c =
    let old = string_bytes c.args.out.now in
    let all = all_added (λ ds. pairs (pairs_from ds)) (string_bytes c.push_str.new.self) c.deref-item-items.result.now c.loop-item.item-index c.loop-item-test.false c.loop-item.invariant.text in
    three old (codes "{") (pairs (pairs_from c.deref-item-items.result.now)) (codes "}") c.in_ok-push_str.ensures.bytes all c.in_ok-push_str-2.ensures.bytes
    ∙ ap (λ z. old ++ 123 ∷ (pairs z ++ 125 ∷ [])) (ap pairs_from c.deref-item-items.ensures.value ∙ sym (dict_pairs c.args.list.now))

pub exprs-loop-e-preserved : goal.exprs-loop-e-preserved
exprs-loop-e-preserved t c =
    let xs = c.deref-e-items.result.now in
    record {
      text = one_more (λ es. items (exps_from es)) (λ es e. comma_after es ++ (expr_text e ++ [])) items_push (string_bytes c.push_str.new.self) xs c.loop-e.e-index c.e-item.result c.loop-e-test.true c.e-item.is c.loop-e.invariant.text
          (c.in_ok-around.ensures ∙ ap (λ z. string_bytes c.loop-e.out ++ (z ++ (expr_text c.e-item.result ++ []))) c.loop-e.invariant.between);
      between = sym (comma_more xs c.loop-e.e-index c.e-item.result c.loop-e-test.true c.e-item.is);
      utf8 = all_low (44 ∷ 32 ∷ []) (omega arith, (omega arith, tt));
    }

pub exprs-returns : goal.exprs-returns
exprs-returns t c =
    let all = subst (λ es. string_bytes c.loop-e.out ≡ string_bytes c.push_str.new.self ++ items (exps_from es)) c.deref-e-items.ensures.value
    (all_added (λ es. items (exps_from es)) (string_bytes c.push_str.new.self) c.deref-e-items.result.now c.loop-e.e-index c.loop-e-test.false c.loop-e.invariant.text) in
    three (string_bytes c.args.out.now) c.args.before.now (items (exps_from c.args.list.now.list.items)) c.args.after.now c.in_ok-push_str.ensures.bytes all c.in_ok-push_str-2.ensures.bytes

pub template-loop-p-preserved : goal.template-loop-p-preserved
template-loop-p-preserved t c =
    one_more (λ ps. parts (parts_from ps)) (λ ps x. parts (part_of x p.NoPart)) parts_push (string_bytes c.push_str.new.self)
    c.deref-p-items.result.now c.loop-p.p-index c.p-item.result c.loop-p-test.true c.p-item.is c.loop-p.invariant c.in_ok-part.ensures

pub template-returns : goal.template-returns
template-returns t c =
    let all = subst (λ ps. string_bytes c.loop-p.out ≡ string_bytes c.push_str.new.self ++ parts (parts_from ps)) c.deref-p-items.ensures.value
    (all_added (λ ps. parts (parts_from ps)) (string_bytes c.push_str.new.self) c.deref-p-items.result.now c.loop-p.p-index c.loop-p-test.false c.loop-p.invariant) in
    three (string_bytes c.args.out.now) (codes "f'") (parts (parts_from c.args.list.now.list.items)) (codes "'") c.in_ok-push_str.ensures.bytes all c.in_ok-push_str-2.ensures.bytes

pub expr-returns-in_ok-prefix-in-Call : goal.expr-returns-in_ok-prefix-in-Call
expr-returns-in_ok-prefix-in-Call t c =
    let old = string_bytes c.args.out.now in
    let f = exp_of c.in-Call.callee.value in
    let callee = subst (λ x. string_bytes c.prefix-in-Call.new.out ≡ old ++ held (is_compound (form_of (exp_of x))) (expr_text x)) c.deref-in-Call.ensures c.in_ok-prefix-in-Call.ensures in
    let args = codes "(" ++ (items (exps_from c.in-Call.list.list.items) ++ codes ")") in
    on_ok c.exprs-in-Call.result (string_bytes c.exprs-in-Call.new.out ≡ string_bytes c.prefix-in-Call.new.out ++ args) (string_bytes c.exprs-in-Call.new.out ≡ old ++ expr_text c.args.e.now)
    (λ last. at_form expr_text old (held (is_compound (form_of f)) (expr_text c.in-Call.callee.value) ++ args) c.in-Call.is (call_text c.in-Call.callee c.in-Call.list)
    (two old (held (is_compound (form_of f)) (expr_text c.in-Call.callee.value)) args callee last)) c.exprs-in-Call.ensures

pub stmt-returns-in_ok-push_str-in-Some : goal.stmt-returns-in_ok-push_str-in-Some
stmt-returns-in_ok-push_str-in-Some t c =
    let old = string_bytes c.args.out.now in
    let head = codes "if (" ++ (expr_text c.in-If.cond ++ codes ") ") in
    let then = block_text c.args.at c.in-If.then in
    let other = block_text c.args.at c.in-Some.list in
    on_ok c.block-in-Some.result (string_bytes c.block-in-Some.new.out ≡ string_bytes c.push_str-in-Some.new.self ++ other) (string_bytes c.block-in-Some.new.out ≡ old ++ statement c.args.at (stm_of c.args.s.now))
    (λ last. at_form (λ x. statement c.args.at (stm_of x)) old (head ++ (then ++ (codes " else " ++ other))) (c.in-If.is ∙ ap (s.If c.in-If.cond c.in-If.then) c.in-Some.is) (if_text c.args.at c.in-If.cond c.in-If.then (Some c.in-Some.list))
    (four old head then (codes " else ") other c.in_ok-around-in-If.ensures c.in_ok-block-in-If.ensures c.in_ok-push_str-in-Some.ensures.bytes last)) c.block-in-Some.ensures

pub stmt-returns-in-None : goal.stmt-returns-in-None
stmt-returns-in-None t c =
    let old = string_bytes c.args.out.now in
    let head = codes "if (" ++ (expr_text c.in-If.cond ++ codes ") ") in
    let then = block_text c.args.at c.in-If.then in
    at_form (λ x. statement c.args.at (stm_of x)) old (head ++ (then ++ [])) (c.in-If.is ∙ ap (s.If c.in-If.cond c.in-If.then) c.in-None.is) (if_text c.args.at c.in-If.cond c.in-If.then None)
    (three old head then [] c.in_ok-around-in-If.ensures c.in_ok-block-in-If.ensures (sym (append-nil (string_bytes c.block.new.out))))

pub stmt-returns-in_ok-around-in-While : goal.stmt-returns-in_ok-around-in-While
stmt-returns-in_ok-around-in-While t c =
    let old = string_bytes c.args.out.now in
    let head = codes "while (" ++ (expr_text c.in-While.cond ++ codes ") ") in
    let block = block_text c.args.at c.in-While.list in
    on_ok c.block-in-While.result (string_bytes c.block-in-While.new.out ≡ string_bytes c.around-in-While.new.out ++ block) (string_bytes c.block-in-While.new.out ≡ old ++ statement c.args.at (stm_of c.args.s.now))
    (λ last. at_form (λ x. statement c.args.at (stm_of x)) old (head ++ block) c.in-While.is (while_text c.args.at c.in-While.cond c.in-While.list) (two old head block c.in_ok-around-in-While.ensures last)) c.block-in-While.ensures

pub stmt-returns-in_ok-push_str-in-For-4 : goal.stmt-returns-in_ok-push_str-in-For-4
stmt-returns-in_ok-push_str-in-For-4 t c =
    let old = string_bytes c.args.out.now in
    let start = step (option_stm_from c.in-For.start) in
    let cond = condition (option_exp_from c.in-For.cond) in
    let next = step (option_stm_from c.in-For.step) in
    let head = codes "for (" ++ (start ++ (codes "; " ++ (cond ++ (codes "; " ++ (next ++ codes ") "))))) in
    let block = block_text c.args.at c.in-For.list in
    on_ok c.block-in-For.result (string_bytes c.block-in-For.new.out ≡ string_bytes c.push_str-in-For-4.new.self ++ block) (string_bytes c.block-in-For.new.out ≡ old ++ statement c.args.at (stm_of c.args.s.now))
    (λ last. at_form (λ x. statement c.args.at (stm_of x)) old (head ++ block) c.in-For.is (for_text c.args.at c.in-For.start c.in-For.cond c.in-For.step c.in-For.list)
    (two old head block
    (seven old (codes "for (") start (codes "; ") cond (codes "; ") next (codes ") ") c.in_ok-push_str-in-For.ensures.bytes c.in_ok-optional-in-For.ensures c.in_ok-push_str-in-For-2.ensures.bytes c.in_ok-condition-in-For.ensures
    c.in_ok-push_str-in-For-3.ensures.bytes c.in_ok-optional-in-For-2.ensures c.in_ok-push_str-in-For-4.ensures.bytes)
    last)) c.block-in-For.ensures

pub stmt-returns-in_ok-around-in-ForIn : goal.stmt-returns-in_ok-around-in-ForIn
stmt-returns-in_ok-around-in-ForIn t c =
    let old = string_bytes c.args.out.now in
    let vars = bound (option_word_of c.in-ForIn.key) c.in-ForIn.value.word in
    let tail = codes " in " ++ (expr_text c.in-ForIn.e ++ codes ") ") in
    let head = codes "for (let " ++ (vars ++ tail) in
    let block = block_text c.args.at c.in-ForIn.list in
    on_ok c.block-in-ForIn.result (string_bytes c.block-in-ForIn.new.out ≡ string_bytes c.around-in-ForIn.new.out ++ block) (string_bytes c.block-in-ForIn.new.out ≡ old ++ statement c.args.at (stm_of c.args.s.now))
    (λ last. at_form (λ x. statement c.args.at (stm_of x)) old (head ++ block) c.in-ForIn.is (for_in_text c.args.at c.in-ForIn.key c.in-ForIn.value c.in-ForIn.e c.in-ForIn.list)
    (two old head block (three old (codes "for (let ") vars tail c.in_ok-push_str-in-ForIn.ensures.bytes c.in_ok-bound-in-ForIn.ensures c.in_ok-around-in-ForIn.ensures) last)) c.block-in-ForIn.ensures

pub stmt-returns-in_ok-push_str-in-Fun-3 : goal.stmt-returns-in_ok-push_str-in-Fun-3
stmt-returns-in_ok-push_str-in-Fun-3 t c =
    let old = string_bytes c.args.out.now in
    let word = c.in-Fun.fun.name.word in
    let params = names (words_of c.in-Fun.fun.params) in
    let head = codes "fun " ++ (word ++ (codes "(" ++ (params ++ codes ") "))) in
    let block = block_text c.args.at c.in-Fun.fun.body in
    on_ok c.block-in-Fun.result (string_bytes c.block-in-Fun.new.out ≡ string_bytes c.push_str-in-Fun-3.new.self ++ block) (string_bytes c.block-in-Fun.new.out ≡ old ++ statement c.args.at (stm_of c.args.s.now))
    (λ last. at_form (λ x. statement c.args.at (stm_of x)) old (head ++ block) c.in-Fun.is (fun_text c.args.at c.in-Fun.fun)
    (two old head block
    (five old (codes "fun ") word (codes "(") params (codes ") ") c.in_ok-push_str-in-Fun.ensures.bytes c.in_ok-word-in-Fun.ensures c.in_ok-push_str-in-Fun-2.ensures.bytes c.in_ok-names-in-Fun.ensures c.in_ok-push_str-in-Fun-3.ensures.bytes)
    last)) c.block-in-Fun.ensures

pub stmt-returns-in_ok-push_str-in-Try-3 : goal.stmt-returns-in_ok-push_str-in-Try-3
stmt-returns-in_ok-push_str-in-Try-3 t c =
    let old = string_bytes c.args.out.now in
    let word = c.in-Try.name.word in
    let first = block_text c.args.at c.in-Try.list in
    let middle = codes " catch (" ++ (word ++ codes ") ") in
    let other = block_text c.args.at c.in-Try.handler in
    on_ok c.block-in-Try-2.result (string_bytes c.block-in-Try-2.new.out ≡ string_bytes c.push_str-in-Try-3.new.self ++ other) (string_bytes c.block-in-Try-2.new.out ≡ old ++ statement c.args.at (stm_of c.args.s.now))
    (λ last. at_form (λ x. statement c.args.at (stm_of x)) old (codes "try " ++ (first ++ (middle ++ other))) c.in-Try.is (try_text c.args.at c.in-Try.list c.in-Try.name c.in-Try.handler)
    (four old (codes "try ") first middle other c.in_ok-push_str-in-Try.ensures.bytes c.in_ok-block-in-Try.ensures
    (three (string_bytes c.block-in-Try.new.out) (codes " catch (") word (codes ") ") c.in_ok-push_str-in-Try-2.ensures.bytes c.in_ok-word-in-Try.ensures c.in_ok-push_str-in-Try-3.ensures.bytes)
    last)) c.block-in-Try-2.ensures
