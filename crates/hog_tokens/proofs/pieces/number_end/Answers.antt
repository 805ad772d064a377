use Rattle.std.proofs.Common.{◌≡◌, ◌-◌, ◌/◌, ◌<◌, sym, ap, ◌∙◌, arith, false, nat_lt}
use Rattle.std.proofs.lemmas.Grind.{common_steps}
use Rattle.std.specs.Prelude.{◌||◌}
use Rattle.hog_grammar.specs.Bytes.{class, Digit, is_digit, value_from, greatest}
use Rattle.hog_tokens.specs.Reading.{during}
use Rattle.hog_tokens.proofs.Number.{passes, goes}
use Rattle.hog_tokens.proofs.pieces.number_end.Goals as goal

pub loop-c-preserved-then-value-digit : goal.loop-c-preserved-then-value-digit
loop-c-preserved-then-value-digit c =
    let b = c.in-Some.c.now in
    let q : class b ≡ Digit = sym c.in-Digit.ensures in
    let is = c.in-Some.ensures.cases.0 in
    let off : c.loop-c.large ≡ false = grind (arith, common_steps) in
    let big : (greatest - (b - 48)) / 10 < c.loop-c.value = grind (arith, common_steps) in
    record {
      small = c.loop-c.invariant.small;
      rest = goes b c.loop-c.rest.now c.in-Some.tail.now q is ∙ c.loop-c.invariant.rest;
      same = passes c.loop-c.value b c.loop-c.rest.now c.in-Some.tail.now _ q is big (ap (λ x. x || nat_lt greatest (value_from c.loop-c.value (during is_digit c.loop-c.rest.now))) (sym off) ∙ c.loop-c.invariant.same);
    }
