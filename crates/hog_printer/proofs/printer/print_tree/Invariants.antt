use Rattle.std.proofs.Common.{◌≡◌, take}
use Rattle.std.specs.Prelude.{string_bytes}
use Rattle.hog_tree.specs.View.{stms_from}
use Rattle.hog_printer.specs.Print.{printed}
use Rattle.hog_printer.proofs.printer.print_tree.Given as goal

abbrev pub invariant-loop-s : goal.invariant-loop-s
invariant-loop-s l = string_bytes l.out ≡ printed (stms_from (take l.s-index l.s-items))
