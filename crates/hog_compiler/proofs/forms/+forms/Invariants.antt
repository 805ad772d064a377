use Rattle.std.proofs.Common.{◌≡◌, ◌+◌, ◌*◌, take}
use Rattle.hog_tree.specs.Plain.{NoPart}
use Rattle.hog_tree.specs.Count.{of_exp, of_exps, of_parts, of_pairs, of_body, of_stm, of_stms, of_option_exp, of_option_stm, of_option_stms}
use Rattle.hog_tree.specs.View.{exp_of, exps_from, part_of, parts_from, pairs_from, dict_of, body_of, stm_of, stms_from, option_exp_from, option_stm_from, option_stms_from}
use Rattle.hog_compiler.specs.AddsCode.{AddsCode}
use Rattle.hog_compiler.specs.Code.{exps_code, parts_code, pairs_code, stms_code}
use Rattle.hog_compiler.proofs.Frames.{after}
use Rattle.hog_compiler.proofs.forms.+forms.Given as goal

abbrev pub invariant-exprs-loop-e : goal.invariant-exprs-loop-e
invariant-exprs-loop-e l = AddsCode l.fn.out l.out (exps_code l.frame (exps_from (take l.e-index l.e-items)))

abbrev pub invariant-parts-loop-p : goal.invariant-parts-loop-p
invariant-parts-loop-p l = AddsCode l.fn.out l.out (parts_code l.frame (parts_from (take l.p-index l.p-items)))

abbrev pub invariant-dict_items-loop-item : goal.invariant-dict_items-loop-item
invariant-dict_items-loop-item l = AddsCode l.fn.out l.out (pairs_code l.frame (pairs_from (take l.item-index l.item-items)))

abbrev pub invariant-stmts-loop-s : goal.invariant-stmts-loop-s
invariant-stmts-loop-s l = record {
  code : AddsCode l.fn.out l.out (stms_code l.fn.frame (stms_from (take l.s-index l.s-items)));
  frame : l.frame ≡ after l.fn.frame (stms_from (take l.s-index l.s-items));
}

-- Four times the number of statements and expressions, and a rank among those who have the same part.

abbrev pub decreases-expr : goal.decreases-expr
decreases-expr l = 4 * of_exp (exp_of l.e.now)

abbrev pub decreases-exprs : goal.decreases-exprs
decreases-exprs l = 4 * of_exps (exps_from l.es.now.list.items) + 1

abbrev pub decreases-part : goal.decreases-part
decreases-part l = 4 * of_parts (part_of l.p.now NoPart) + 1

abbrev pub decreases-parts : goal.decreases-parts
decreases-parts l = 4 * of_parts (parts_from l.ps.now.list.items) + 2

abbrev pub decreases-dict_items : goal.decreases-dict_items
decreases-dict_items l = 4 * of_pairs (dict_of l.ds.now) + 1

abbrev pub decreases-lambda : goal.decreases-lambda
decreases-lambda l = 4 * of_body (body_of l.body.now) + 3

abbrev pub decreases-arrow_body : goal.decreases-arrow_body
decreases-arrow_body l = 4 * of_body (body_of l.body.now) + 2

abbrev pub decreases-value : goal.decreases-value
decreases-value l = 4 * of_option_exp (option_exp_from l.x.now) + 1

abbrev pub decreases-option_stmt : goal.decreases-option_stmt
decreases-option_stmt l = 4 * of_option_stm (option_stm_from l.s.now) + 1

abbrev pub decreases-stmt : goal.decreases-stmt
decreases-stmt l = 4 * of_stm (stm_of l.s.now)

abbrev pub decreases-assign : goal.decreases-assign
decreases-assign l = 4 * (of_exp (exp_of l.target.now) + of_exp (exp_of l.x.now)) + 3

abbrev pub decreases-choice : goal.decreases-choice
decreases-choice l = 4 * (of_exp (exp_of l.condition.now) + of_stms (stms_from l.body.now.list.items) + of_option_stms (option_stms_from l.other.now)) + 3

abbrev pub decreases-counting : goal.decreases-counting
decreases-counting l =
    4 * (of_option_stm (option_stm_from l.start.now) + of_option_exp (option_exp_from l.condition.now) + of_option_stm (option_stm_from l.step.now) + of_stms (stms_from l.body.now.list.items)) + 3

abbrev pub decreases-over_items : goal.decreases-over_items
decreases-over_items l = 4 * (of_exp (exp_of l.list.now) + of_stms (stms_from l.body.now.list.items)) + 3

abbrev pub decreases-function : goal.decreases-function
decreases-function l = 4 * of_stms (stms_from l.fun.now.body.list.items) + 3

abbrev pub decreases-guarded : goal.decreases-guarded
decreases-guarded l = 4 * (of_stms (stms_from l.body.now.list.items) + of_stms (stms_from l.handler.now.list.items)) + 3

abbrev pub decreases-block : goal.decreases-block
decreases-block l = 4 * of_stms (stms_from l.ss.now.list.items) + 2

abbrev pub decreases-stmts : goal.decreases-stmts
decreases-stmts l = 4 * of_stms (stms_from l.ss.now.list.items) + 1
