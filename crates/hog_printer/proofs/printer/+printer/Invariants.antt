use Rattle.std.proofs.Common.{◌≡◌, ◌++◌, take}
use denote.Shadow.{shadow}
use denote.Text.{Utf8}
use Rattle.std.specs.Prelude.{string_bytes}
use Rattle.hog_tree.specs.View.{exps_from, parts_from, pairs_from, stms_from}
use Rattle.hog_printer.specs.Print.{items, parts, pairs, lines}
use Rattle.hog_printer.proofs.Added.{comma_after}
use Rattle.hog_printer.proofs.printer.+printer.Given as goal

abbrev pub invariant-block-loop-s : goal.invariant-block-loop-s
invariant-block-loop-s l = string_bytes l.out ≡ string_bytes l.initial.out ++ lines l.inner (stms_from (take l.s-index l.s-items))

abbrev pub invariant-dict-loop-item : goal.invariant-dict-loop-item
invariant-dict-loop-item l = record {
  text : string_bytes l.out ≡ string_bytes l.initial.out ++ pairs (pairs_from (take l.item-index l.item-items));
  between : l.comma ≡ comma_after (take l.item-index l.item-items);
  utf8 : shadow (Utf8 l.comma);
}

abbrev pub invariant-exprs-loop-e : goal.invariant-exprs-loop-e
invariant-exprs-loop-e l = record {
  text : string_bytes l.out ≡ string_bytes l.initial.out ++ items (exps_from (take l.e-index l.e-items));
  between : l.comma ≡ comma_after (take l.e-index l.e-items);
  utf8 : shadow (Utf8 l.comma);
}

abbrev pub invariant-template-loop-p : goal.invariant-template-loop-p
invariant-template-loop-p l = string_bytes l.out ≡ string_bytes l.initial.out ++ parts (parts_from (take l.p-index l.p-items))
