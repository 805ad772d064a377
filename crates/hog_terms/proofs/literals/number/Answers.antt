use Rattle.std.proofs.Common.{◌≡◌, ◌+◌, ◌-◌, ◌*◌, ◌≤◌, get_or, arith}
use Rattle.std.proofs.lemmas.Grind.{common_steps}
use Rattle.hog_grammar.specs.Bytes.{greatest}
use Rattle.hog_terms.proofs.Values.{value_within}
use Rattle.hog_terms.proofs.literals.number.Goals as goal

pub overflow_mul-value : goal.overflow_mul-value
overflow_mul-value c =
    let w : 10 * c.digits.value + (get_or c.args.digits.now c.digits.digit-index 0 - 48) ≤ greatest = value_within c.digits.value c.args.digits.now c.digits.digit-index greatest (omega arith) c.digits.invariant.small in
    omega (arith, w)

pub overflow_add-value : goal.overflow_add-value
overflow_add-value c =
    let w : 10 * c.digits.value + (get_or c.args.digits.now c.digits.digit-index 0 - 48) ≤ greatest = value_within c.digits.value c.args.digits.now c.digits.digit-index greatest (omega arith) c.digits.invariant.small in
    let s : c.saturating_sub.result ≡ get_or c.args.digits.now c.digits.digit-index 0 - 48 = grind (arith, common_steps) in
    omega (arith, w, s)
