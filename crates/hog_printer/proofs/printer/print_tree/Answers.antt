use Rattle.std.proofs.Common.{[], ◌∷◌, ◌++◌}
use Rattle.std.specs.Prelude.{string_bytes}
use Rattle.hog_tree.specs.View.{stm_of, stms_from}
use Rattle.hog_printer.specs.declared.layout.Layout.TheVariants.{Lines}
use Rattle.hog_printer.specs.Print.{statement, printed}
use Rattle.hog_printer.proofs.Added.{two, one_more, printed_push}
use Rattle.hog_printer.proofs.printer.print_tree.Goals as goal

pub loop-s-preserved : goal.loop-s-preserved
loop-s-preserved c =
    one_more (λ ss. printed (stms_from ss)) (λ ss x. statement (Lines 0) (stm_of x) ++ 10 ∷ []) printed_push []
    c.deref-s-items.result.now c.loop-s.s-index c.s-item.result c.loop-s-test.true c.s-item.is c.loop-s.invariant
    (two (string_bytes c.loop-s.out) (statement (Lines 0) (stm_of c.s-item.result)) (10 ∷ []) c.in_ok-stmt.ensures c.in_ok-push_str.ensures.bytes)
