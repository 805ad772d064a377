use Rattle.std.proofs.Common.{◌≡◌, ◌++◌, take}
use denote.Shadow.{shadow}
use denote.Text.{Utf8}
use Rattle.std.specs.Prelude.{string_bytes}
use Rattle.hog_tree.specs.View.{words_of}
use Rattle.hog_printer.specs.Print.{names}
use Rattle.hog_printer.proofs.Added.{comma_after}
use Rattle.hog_printer.proofs.words.names.Given as goal

abbrev pub invariant-loop-name : goal.invariant-loop-name
invariant-loop-name l = record {
  text : string_bytes l.out ≡ string_bytes l.initial.out ++ names (words_of (take l.name-index l.name-items));
  between : l.comma ≡ comma_after (take l.name-index l.name-items);
  utf8 : shadow (Utf8 l.comma);
}
