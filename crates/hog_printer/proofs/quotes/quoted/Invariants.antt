use Rattle.std.proofs.Common.{◌≡◌, ◌++◌}
use Rattle.std.specs.Prelude.{string_bytes, encode_utf8_all}
use Rattle.hog_printer.specs.Print.{quoted}
use Rattle.hog_printer.specs.View.{quotes_of}
use Rattle.hog_printer.proofs.quotes.quoted.Given as goal

abbrev pub invariant-loop-c : goal.invariant-loop-c
invariant-loop-c l = string_bytes l.out ≡ string_bytes l.initial.out ++ quoted (quotes_of l.quotes) (encode_utf8_all l.yielded)
