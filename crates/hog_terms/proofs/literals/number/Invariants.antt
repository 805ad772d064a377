use Rattle.std.proofs.Common.{◌≡◌, ◌≤◌, drop}
use Rattle.hog_grammar.specs.Bytes.{value_from, greatest}
use Rattle.hog_terms.proofs.literals.number.Given as goal

abbrev pub invariant-digits : goal.invariant-digits
invariant-digits l = record {
  small : value_from l.value (drop l.digit-index l.digits) ≤ greatest;
  same : value_from l.value (drop l.digit-index l.digits) ≡ value_from 0 l.digits;
}
