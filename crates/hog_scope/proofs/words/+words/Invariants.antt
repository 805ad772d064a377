use Rattle.std.proofs.Common.{take}
use Rattle.std.specs.List.{flat_map}
use Rattle.hog_tree.specs.Names.{exp_names, part_names, stm_names}
use Rattle.hog_scope.specs.Events.{AddsEvents, expr_words, part_words, item_words, item_names, stmt_words}
use Rattle.hog_scope.proofs.words.+words.Given as goal

abbrev pub invariant-exprs-loop-e : goal.invariant-exprs-loop-e
invariant-exprs-loop-e l = AddsEvents l.fn.out l.out (flat_map expr_words (take l.e-index l.e-items)) (flat_map exp_names (take l.e-index l.e-items))

abbrev pub invariant-parts-loop-part : goal.invariant-parts-loop-part
invariant-parts-loop-part l = AddsEvents l.fn.out l.out (flat_map part_words (take l.part-index l.part-items)) (flat_map part_names (take l.part-index l.part-items))

abbrev pub invariant-dict_items-loop-item : goal.invariant-dict_items-loop-item
invariant-dict_items-loop-item l = AddsEvents l.fn.out l.out (flat_map item_words (take l.item-index l.item-items)) (flat_map item_names (take l.item-index l.item-items))

abbrev pub invariant-stmts-loop-s : goal.invariant-stmts-loop-s
invariant-stmts-loop-s l = AddsEvents l.fn.out l.out (flat_map stmt_words (take l.s-index l.s-items)) (flat_map stm_names (take l.s-index l.s-items))
