-- The text of a date reads back as its day.
use Rattle.std.proofs.Common.{◌≡◌, ◌<◌, ◌+◌, ◌-◌, ◌*◌, ◌/◌, ◌%◌, ℕ, pos, true, Some, arith, refl, ap}
use Rattle.std.proofs.lemmas.Bool.Decides.{nat_tests}
use Rattle.std.specs.Char.{is_ascii_digit}
use Rattle.jiff_core.specs.Calendar.{days_from_civil, IsCivilDate}
use Rattle.jiff_core.proofs.SignedLemmas.{signed_arith}
use Rattle.jiff_core.proofs.CalendarLemmas.{days_in_month_bounds}
use Rattle.hog_extras.specs.Dates.{two_digits, four_digits, date_parts, date_day, text_of_date}
use Rattle.hog_extras.proofs.Calendar.{civil_day-civil}

two_digits-digits : (n : ℕ) → n < 100 → two_digits (48 + n / 10) (48 + n % 10) ≡ Some n
two_digits-digits n small =
    let tens : is_ascii_digit (48 + n / 10) ≡ true = grind (arith, nat_tests) in
    let ones : is_ascii_digit (48 + n % 10) ≡ true = grind (arith, nat_tests) in
    let same : 10 * (48 + n / 10 - 48) + (48 + n % 10 - 48) ≡ n = omega arith in
    rw (tens, ones) (ap Some same)

four_digits-digits : (n : ℕ) → n < 10000 → four_digits (48 + n / 100 / 10) (48 + n / 100 % 10) (48 + n % 100 / 10) (48 + n % 100 % 10) ≡ Some n
four_digits-digits n small =
    let same : 100 * (n / 100) + n % 100 ≡ n = omega arith in
    let front : two_digits (48 + n / 100 / 10) (48 + n / 100 % 10) ≡ Some (n / 100) = two_digits-digits (n / 100) (omega arith) in
    let back : two_digits (48 + n % 100 / 10) (48 + n % 100 % 10) ≡ Some (n % 100) = two_digits-digits (n % 100) (omega arith) in
    rw (front, back) (ap Some same)

date_parts-text : (year month day : ℕ) → year < 10000 → month < 100 → day < 100 → date_parts (text_of_date year month day) ≡ Some (year, month, day)
unfolding date_parts
date_parts-text year month day y m d = rw (four_digits-digits year y, two_digits-digits month m, two_digits-digits day d) refl

pub date_day-text : (year month day : ℕ) → IsCivilDate (pos year) month day → date_day (text_of_date year month day) ≡ Some (days_from_civil (pos year) month day)
unfolding date_day
date_day-text year month day civil =
    let most = days_in_month_bounds (pos year) month in
    let y : year < 10000 = omega (arith, signed_arith, civil.0) in
    let m : month < 100 = omega (arith, civil.1) in
    let d : day < 100 = omega (arith, civil.2) in
    rw (date_parts-text year month day y m d) (civil_day-civil year month day civil.1 civil.2)
