use Rattle.std.proofs.Common.{◌++◌, sym, ap, ◌∙◌}
use Rattle.std.specs.Prelude.{string_bytes, codes}
use Rattle.hog_printer.specs.Print.{indentation}
use Rattle.hog_printer.proofs.Added.{two, indentation_push}
use Rattle.hog_printer.proofs.layout.indent.Goals as goal

pub loop-preserved : goal.loop-preserved
loop-preserved c = two (string_bytes c.args.out.now) (indentation c.loop.counter) (codes "    ") c.loop.invariant c.in_ok-push_str.ensures.bytes ∙ ap (λ z. string_bytes c.args.out.now ++ z) (sym (indentation_push c.loop.counter))
