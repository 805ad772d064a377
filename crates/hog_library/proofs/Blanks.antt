-- Counting blanks at the front of what is left of a text, and sizes of numbers of a few digits.
use Rattle.std.proofs.Common.{◌≡◌, ◌<◌, ◌≤◌, ◌+◌, ◌-◌, ◌*◌, ◌^◌, ℕ, List, length, drop, get_or, true, arith, refl, add-one}
use Rattle.std.proofs.Math.Seq.{drop-cons}
use Rattle.std.proofs.Math.Nat.{pow-le-pow_right}
use Rattle.std.specs.List.{prefix_len}
use Rattle.std.specs.Char.{is_ascii_digit}
use Rattle.std.proofs.lemmas.Bool.Decides.{nat_tests}
use Rattle.hog_library.specs.Texts.{is_blank}

-- one more blank
pub blanks_more : (t : List ℕ) (i n : ℕ) → i < length t → is_blank (get_or t i 0) ≡ true
    → n ≡ i + prefix_len is_blank (drop i t) → n ≡ i + 1 + prefix_len is_blank (drop (i + 1) t)
blanks_more t i n within blank counted =
    let one : prefix_len is_blank (drop i t) ≡ 1 + prefix_len is_blank (drop (i + 1) t) = rw (add-one, drop-cons t i 0, blank) refl in
    omega (arith, one, counted)

-- a blank is one byte of ASCII
pub blank_is_ascii : (b : ℕ) → is_blank b ≡ true → b < 128
blank_is_ascii b blank = grind (arith, nat_tests)

-- a digit is at most 9
pub digit_at_most : (b : ℕ) → is_ascii_digit b ≡ true → b - 48 ≤ 9
digit_at_most b digit = grind (arith, nat_tests)

-- a number of at most 18 digits has room for one more
pub digit_fits : (n i : ℕ) → n < 10 ^ i → i < 19 → 10 * n + 9 < 2 ^ 64
digit_fits n i below few =
    let most : 10 ^ i ≤ 10 ^ 18 = pow-le-pow_right {n = 10} (omega arith) {i = i} {j = 18} (omega arith) in
    omega (arith, most, below)
