use Rattle.std.proofs.Common.{◌≡◌, length, take, true}
use Rattle.hog_tree.specs.View.{exps_from, parts_from, pairs_from, stms_from}
use Rattle.hog_captures.specs.Frees.{exps_frees, parts_frees, pairs_frees, stms_frees}
use Rattle.hog_captures.specs.Finding.{Finds, with_words, bind_all}
use Rattle.hog_captures.proofs.Prefixes.{names_in}
use Rattle.hog_captures.proofs.words.+words.Given as goal

abbrev pub invariant-exprs-loop-e : goal.invariant-exprs-loop-e
invariant-exprs-loop-e l = Finds l.fn.finder l.finder (exps_frees true (exps_from (take l.e-index l.e-items)))

abbrev pub invariant-parts-loop-part : goal.invariant-parts-loop-part
invariant-parts-loop-part l = Finds l.fn.finder l.finder (parts_frees true (parts_from (take l.part-index l.part-items)))

abbrev pub invariant-dict_items-loop-item : goal.invariant-dict_items-loop-item
invariant-dict_items-loop-item l = Finds l.fn.finder l.finder (pairs_frees true (pairs_from (take l.item-index l.item-items)))

abbrev pub invariant-stmts-loop-s : goal.invariant-stmts-loop-s
invariant-stmts-loop-s l = record {
  base : l.depth ≡ length l.fn.finder.bound;
  state : l.finder ≡ bind_all (names_in (take l.s-index l.s-items)) (with_words (stms_frees true (stms_from (take l.s-index l.s-items))) l.fn.finder);
}
