use Rattle.std.proofs.Common.{◌≡◌, drop}
use Rattle.hog_tree.specs.View.{exps_from, parts_from, pairs_from, stms_from}
use Rattle.hog_captures.specs.Frees.{is_among, exps_frees, parts_frees, pairs_frees, stms_frees}
use Rattle.hog_captures.proofs.takes.+takes.Given as goal

abbrev pub invariant-dict_items-loop-item : goal.invariant-dict_items-loop-item
invariant-dict_items-loop-item l =
    is_among l.word (pairs_frees l.counted (pairs_from (drop l.item-index l.item-items))) ≡ is_among l.word (pairs_frees l.counted (pairs_from l.item-items))

abbrev pub invariant-exprs-loop-e : goal.invariant-exprs-loop-e
invariant-exprs-loop-e l =
    is_among l.word (exps_frees l.counted (exps_from (drop l.e-index l.e-items))) ≡ is_among l.word (exps_frees l.counted (exps_from l.e-items))

abbrev pub invariant-parts-loop-part : goal.invariant-parts-loop-part
invariant-parts-loop-part l =
    is_among l.word (parts_frees l.counted (parts_from (drop l.part-index l.part-items))) ≡ is_among l.word (parts_frees l.counted (parts_from l.part-items))

abbrev pub invariant-stmts-loop-s : goal.invariant-stmts-loop-s
invariant-stmts-loop-s l =
    is_among l.word (stms_frees l.counted (stms_from (drop l.s-index l.s-items))) ≡ is_among l.word (stms_frees l.counted (stms_from l.s-items))
