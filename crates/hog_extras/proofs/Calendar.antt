-- The dates of jiff's calendar as those of the definitions.
use Rattle.std.proofs.Common.{◌≡◌, ◌≤◌, ◌<◌, ℕ, ℤ, pos, neg_ℤ, ◌≤ℤ◌, ◌<ℤ◌, Bool, true, false, Some, arith, refl, sym, ◌∙◌, subst, FitsSigned, w32, w64, to_z, of_z}
use Rattle.std.specs.Prelude.{int_le, ◌&&◌, All, [], ◌∷◌}
use Rattle.std.proofs.lemmas.List.Elements.{All-from_recursion}
use Rattle.std.specs.Int.{IsInRange}
use Rattle.std.proofs.lemmas.Bool.Decides.{nat_tests}
use Rattle.std.proofs.lemmas.Int.{by_lt_z, to_z-of_z}
use Rattle.jiff_core.specs.declared.civil.date.Date.{Date}
use Rattle.jiff_core.specs.Calendar.{days_in_month, days_from_civil, day_count, IsCivilDate, IsEpochDay}
use Rattle.jiff_core.specs.Date.{epoch_day}
use Rattle.jiff_core.proofs.SignedLemmas.{signed_arith}
use Rattle.jiff_core.proofs.CalendarLemmas.{days_from_civil-day_count, day_count-day_of_year, day_count-lt_year, day_count_bounds}
use Rattle.jiff_core.proofs.DateLemmas.{civil, epoch_day_range, days_from_civil-max}
use Rattle.hog_extras.specs.Dates.{is_date, civil_day, is_day, first_day, last_day}

-- a date that the calendar has
pub is_date-civil : (year month day : ℕ) → IsInRange 1 12 month → IsInRange 1 (days_in_month (pos year) month) day → is_date year month day ≡ true
is_date-civil year month day m d = grind (arith, nat_tests)

pub civil_day-civil : (year month day : ℕ) → IsInRange 1 12 month → IsInRange 1 (days_in_month (pos year) month) day
    → civil_day year month day ≡ Some (days_from_civil (pos year) month day)
civil_day-civil year month day m d = rw (is_date-civil year month day m d) refl

-- a test of two whole numbers, from the fact
pub int_le-true : (a b : ℤ) → a ≤ℤ b → int_le a b ≡ true
int_le-true a b le = by (int_le a b) refl
  where
    by : (r : Bool) → int_le a b ≡ r → r ≡ true
    by true is = refl
    by false is = absurd (omega (arith, signed_arith))

pub int_le-false : (a b : ℤ) → b <ℤ a → int_le a b ≡ false
int_le-false a b lt = by (int_le a b) refl
  where
    by : (r : Bool) → int_le a b ≡ r → r ≡ false
    by true is = absurd (omega (arith, signed_arith))
    by false is = refl

-- 1 January of the year 0 is a date
first_civil : IsCivilDate (pos 0) 1 1
first_civil = ((omega (arith, signed_arith), omega (arith, signed_arith)), (omega arith, omega arith), (omega arith, omega arith))

-- it comes before each date of a year from 0 on
pub first_day-le : (d : Date) → pos 0 ≤ℤ d.year → first_day ≤ℤ epoch_day d
first_day-le d from =
    by_lt_z (pos 0) d.year
    (λ later. omega (arith, signed_arith, days_from_civil-day_count, day_count-lt_year (pos 0) 1 1 d.year d.month d.day first_civil d.day_in.0 later))
    (λ not_later.
    let year : d.year ≡ pos 0 = omega (arith, signed_arith) in
    let count = day_count-day_of_year d.year d.month d.day d.day_in.0 in
    let least : day_count d.year 1 1 ≤ day_count d.year d.month d.day = omega (arith, d.day_in.0) in
    subst (λ y. days_from_civil y 1 1 ≤ℤ epoch_day d) year (omega (arith, signed_arith, days_from_civil-day_count, least)))

-- and after each date of an earlier year
pub lt-first_day : (d : Date) → d.year <ℤ pos 0 → epoch_day d <ℤ first_day
lt-first_day d before =
    omega (arith, signed_arith, days_from_civil-day_count, day_count-lt_year d.year d.month d.day (pos 0) 1 1 (civil d) (omega arith) before)

-- a date of a year from 0 on
pub is_day-date : (d : Date) → pos 0 ≤ℤ d.year → is_day (epoch_day d) ≡ true
is_day-date d from =
    let last : epoch_day d ≤ℤ last_day = omega (arith, signed_arith, epoch_day_range d, days_from_civil-max) in
    rw (int_le-true first_day (epoch_day d) (first_day-le d from), int_le-true (epoch_day d) last_day last) refl

-- one of an earlier year
pub is_day-early : (d : Date) → d.year <ℤ pos 0 → is_day (epoch_day d) ≡ false
is_day-early d before = rw (int_le-false first_day (epoch_day d) (lt-first_day d before)) refl

-- a day that no date of jiff's has
pub is_day-outside : (day : ℤ) → (IsEpochDay day → false ≡ true) → is_day day ≡ false
is_day-outside day outside = by (int_le first_day day) (int_le day last_day) refl refl
  where
    least : neg_ℤ (pos 4371587) ≤ℤ first_day
    least = omega (arith, signed_arith, days_from_civil-day_count, day_count_bounds (pos 0) 1 1 first_civil)

    by : (b c : Bool) → int_le first_day day ≡ b → int_le day last_day ≡ c → (b && c) ≡ false
    by true true from to =
        sym
        (outside (
          omega (arith, signed_arith, least),
          omega (arith, signed_arith, days_from_civil-max),
        ))
    by true false from to = refl
    by false c from to = refl

-- a day of 32 bits that was widened to 64
pub widened : (day wide : ℤ) → FitsSigned w32 day → wide ≡ to_z w32 (of_z w32 day) → to_z w64 (of_z w64 wide) ≡ day
widened day wide fits is =
    let same : wide ≡ day = is ∙ to_z-of_z w32 day fits in
    let more : FitsSigned w64 day = omega (arith, signed_arith) in
    to_z-of_z w64 wide (subst (FitsSigned w64) (sym same) more) ∙ same

-- the bytes of a date's text are ASCII
pub ascii_text : (a b c d e f g h : ℕ) → (a < 128) × (b < 128) → (c < 128) × (d < 128) → (e < 128) × (f < 128) → (g < 128) × (h < 128)
    → All (λ byte. byte < 128) (a ∷ b ∷ c ∷ d ∷ 45 ∷ e ∷ f ∷ 45 ∷ g ∷ h ∷ [])
ascii_text a b c d e f g h p q r s =
    All-from_recursion (λ byte. byte < 128) (a ∷ b ∷ c ∷ d ∷ 45 ∷ e ∷ f ∷ 45 ∷ g ∷ h ∷ [])
    (p.0, (p.1, (q.0, (q.1, (omega arith, (r.0, (r.1, (omega arith, (s.0, (s.1, tt))))))))))
