-- Counting off years and months leads to the date that has the day.
use Rattle.std.proofs.Common.{◌≡◌, ◌≤◌, ◌<◌, ◌+◌, ◌-◌, ℕ, zero, suc, ℤ, pos, ◌≤ℤ◌, ◌-ℤ◌, true, false, Some, None, arith, refl, ap, ap₂, sym, ◌∙◌, subst, unsigned_abs}
use Rattle.std.specs.Prelude.{nat_lt}
use Rattle.std.proofs.lemmas.Bool.Decides.{nat_tests}
use Rattle.jiff_core.specs.declared.civil.date.Date.{Date}
use Rattle.jiff_core.specs.Calendar.{days_in_year, days_in_month, days_of_months, day_count, day_of_year, IsCivilDate}
use Rattle.jiff_core.specs.Date.{epoch_day}
use Rattle.jiff_core.proofs.SignedLemmas.{signed_arith, one_part}
use Rattle.jiff_core.proofs.CalendarLemmas.{days_from_civil-day_count, day_count-day_of_year, day_count-next_year, day_count-later_year, day_of_year_bound, days_of_months-zero, days_of_months_more, days_of_months_mono}
use Rattle.jiff_core.proofs.DateLemmas.{civil}
use Rattle.hog_extras.specs.Dates.{is_day, first_day, year_after, month_after, text_of_date, text_after, day_text}
use Rattle.hog_extras.proofs.Calendar.{is_day-date, first_day-le}

-- the days reach past each year before the one that has the day
pub year_after-is : (k most y to r n : ℕ) → to ≡ k + y → k < most → r < days_in_year (pos to)
    → n + day_count (pos y) 1 1 ≡ day_count (pos to) 1 1 + r → year_after most y n ≡ (to, r)
unfolding year_after
year_after-is k zero y to r n at bound within days = absurd (omega arith)
year_after-is zero (suc most) y to r n at bound within days =
    let here : to ≡ y = omega arith in
    let left : n ≡ r = omega (arith, ap (λ z. day_count (pos z) 1 1) here) in
    let fits : nat_lt n (days_in_year (pos y)) ≡ true = grind (arith, nat_tests, ap (λ z. days_in_year (pos z)) here) in
    rw fits (ap₂ (λ a b. (a, b)) (sym here) left)
year_after-is (suc k) (suc most) y to r n at bound within days =
    let later = day_count-later_year (pos y) (pos to) (omega (arith, signed_arith)) (omega (arith, signed_arith)) in
    let next = day_count-next_year (pos y) (pos (suc y)) (omega (arith, signed_arith)) (omega (arith, signed_arith)) in
    let past : nat_lt n (days_in_year (pos y)) ≡ false = grind (arith, nat_tests) in
    rw past (year_after-is k most (suc y) to r (n - days_in_year (pos y)) (omega arith) (omega arith) within (omega arith))

-- and past each month before its month
pub month_after-is : (k most y m to r n : ℕ) → to ≡ k + m → k < most → 1 ≤ m → r < days_in_month (pos y) to
    → n + days_of_months (pos y) (m - 1) ≡ days_of_months (pos y) (to - 1) + r → month_after most y m n ≡ (to, r)
unfolding month_after
month_after-is k zero y m to r n at bound from within days = absurd (omega arith)
month_after-is zero (suc most) y m to r n at bound from within days =
    let here : to ≡ m = omega arith in
    let left : n ≡ r = omega (arith, ap (λ z. days_of_months (pos y) (z - 1)) here) in
    let fits : nat_lt n (days_in_month (pos y) m) ≡ true = grind (arith, nat_tests, ap (days_in_month (pos y)) here) in
    rw fits (ap₂ (λ a b. (a, b)) (sym here) left)
month_after-is (suc k) (suc most) y m to r n at bound from within days =
    let more = days_of_months_more (pos y) m from in
    let later = days_of_months_mono (pos y) m (to - 1) (omega arith) in
    let past : nat_lt n (days_in_month (pos y) m) ≡ false = grind (arith, nat_tests) in
    let back : suc m - 1 ≡ m = omega arith in
    let rest : n - days_in_month (pos y) m + days_of_months (pos y) (suc m - 1) ≡ days_of_months (pos y) (to - 1) + r =
    omega (arith, ap (days_of_months (pos y)) back) in
    rw past (month_after-is k most y (suc m) to r (n - days_in_month (pos y) m) (omega arith) (omega arith) (omega arith) within rest)

-- the text of the day of a date of a year from 0 on
pub text_after-civil : (year month day : ℕ) → IsCivilDate (pos year) month day → (n : ℕ)
    → n + day_count (pos 0) 1 1 ≡ day_count (pos year) month day → text_after n ≡ text_of_date year month day
unfolding text_after
text_after-civil year month day civil n days =
    let count = day_count-day_of_year (pos year) month day civil.2.0 in
    let bound = day_of_year_bound (pos year) month day civil in
    let years : year_after 10000 0 n ≡ (year, day_of_year (pos year) month day - 1) =
    year_after-is year 10000 0 year _ n (omega arith) (omega (arith, signed_arith, civil.0)) (omega (arith, civil.2.0)) (omega (arith, civil.2.0)) in
    let months : month_after 12 year 1 (day_of_year (pos year) month day - 1) ≡ (month, day - 1) =
    month_after-is (month - 1) 12 year 1 month _ _ (omega (arith, civil.1)) (omega (arith, civil.1)) (omega arith) (omega (arith, civil.2)) (omega (arith, civil.2, days_of_months-zero (pos year))) in
    let last : day - 1 + 1 ≡ day = omega (arith, civil.2) in
    ap (λ (y : ℕ × ℕ). let m = month_after 12 y.0 1 y.1 in text_of_date y.0 m.0 (m.1 + 1)) years
    ∙ ap (λ (m : ℕ × ℕ). text_of_date year m.0 (m.1 + 1)) months
    ∙ ap (text_of_date year month) last

-- how many days the date lies after 1 January of the year 0
pub days_after : (d : Date) (year : ℕ) → d.year ≡ pos year → unsigned_abs (epoch_day d -ℤ first_day) + day_count (pos 0) 1 1 ≡ day_count (pos year) d.month d.day
days_after d year is =
    let from : first_day ≤ℤ epoch_day d = first_day-le d (omega (arith, signed_arith)) in
    let count : day_count d.year d.month d.day ≡ day_count (pos year) d.month d.day = ap (λ y. day_count y d.month d.day) is in
    omega (arith, signed_arith, days_from_civil-day_count, one_part (epoch_day d -ℤ first_day))

-- the text of the day of a date of a year from 0 on
pub day_text-date : (d : Date) (year : ℕ) → d.year ≡ pos year → day_text (epoch_day d) ≡ Some (text_of_date year d.month d.day)
unfolding day_text
day_text-date d year is =
    let civil : IsCivilDate (pos year) d.month d.day = subst (λ y. IsCivilDate y d.month d.day) is (civil d) in
    rw (is_day-date d (omega (arith, signed_arith))) (ap Some (text_after-civil year d.month d.day civil _ (days_after d year is)))

-- a day outside the years has no text
pub day_text-outside : (day : ℤ) → is_day day ≡ false → day_text day ≡ None
unfolding day_text
day_text-outside day outside = rw outside refl
