use Rattle.std.proofs.Common.{◌≡◌, ◌++◌, drop}
use Rattle.hog_grammar.specs.Terminal.{meant}
use Rattle.hog_terms.proofs.Values.{meant_by}
use Rattle.hog_terms.proofs.literals.meaning.Given as goal

abbrev pub invariant-bytes : goal.invariant-bytes
invariant-bytes l = l.meaning.items ++ meant_by l.after_backslash (drop l.byte-index l.bytes) ≡ meant l.bytes
