use Rattle.std.proofs.Common.{get_or, arith, sym, ◌∙◌}
use Rattle.hog_library.proofs.Blanks.{digit_at_most}
use Rattle.hog_runner.proofs.WordLemmas.{digit_fits}
use Rattle.hog_runner.proofs.words.made_number.Goals as goal

pub overflow_mul-n : goal.overflow_mul-n
overflow_mul-n c = omega (arith, digit_fits _ _ c.loop-digit.invariant.bound (omega arith))

pub overflow_add-n : goal.overflow_add-n
overflow_add-n c =
    let most = digit_at_most (get_or c.bytes-digits.result.now c.loop-digit.digit-index 0) (sym c.is_ascii_digit.ensures.value ∙ c.if-not-is_ascii_digit.false) in
    omega (arith, most, c.from.ensures, digit_fits _ _ c.loop-digit.invariant.bound (omega arith))
