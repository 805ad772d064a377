-- Days that no date has.
use Rattle.std.proofs.Common.{◌≡◌, ℤ, pos, neg_ℤ, ◌≤ℤ◌, Bool, true, false, None, arith, refl, ap, ap₂, sym, subst, ◌∙◌, FitsSigned, w32, w64, to_z, of_z}
use Rattle.std.specs.Int.{w128}
use Rattle.std.proofs.lemmas.Int.{to_z-of_z}
use Rattle.std.specs.Prelude.{int_le, ◌&&◌, ◌+ℤ◌}
use Rattle.jiff_core.specs.Calendar.{IsCivilDate, IsEpochDay}
use Rattle.jiff_core.proofs.SignedLemmas.{signed_arith}
use Rattle.jiff_core.proofs.CalendarLemmas.{days_from_civil-day_count, day_count_bounds}
use Rattle.jiff_core.proofs.DateLemmas.{days_from_civil-max}
use Rattle.hog_extras.specs.Dates.{first_day, last_day, day_text}

-- 1 January of the year 0 is a date
first_civil : IsCivilDate (pos 0) 1 1
first_civil = ((omega (arith, signed_arith), omega (arith, signed_arith)), (omega arith, omega arith), (omega arith, omega arith))

-- a day of the years 0000 to 9999 is none of those far before or far after
day_near : (day : ℤ) (b c : Bool) → int_le first_day day ≡ b → int_le day last_day ≡ c → (IsEpochDay day → ⊥) → (b && c) ≡ false
day_near day true true from to far =
    let least : neg_ℤ (pos 4371587) ≤ℤ first_day = omega (arith, signed_arith, days_from_civil-day_count, day_count_bounds (pos 0) 1 1 first_civil) in
    absurd (far (omega (arith, signed_arith, least), omega (arith, signed_arith, days_from_civil-max)))
day_near day true false from to far = refl
day_near day false c from to far = refl

pub day_text-far : (day : ℤ) → (IsEpochDay day → ⊥) → day_text day ≡ None
unfolding day_text
day_text-far day far = rw (day_near day (int_le first_day day) (int_le day last_day) refl refl far) refl

-- where a day of 32 bits and days of 64 don't add up to a day of 32 bits, there is no date
pub sum_far : (x y day days : ℤ) → x ≡ to_z w32 (of_z w32 day) → y ≡ to_z w64 (of_z w64 days) → FitsSigned w32 day → FitsSigned w64 days
    → (FitsSigned w32 (to_z w128 (of_z w128 (to_z w128 (of_z w128 x) +ℤ to_z w128 (of_z w128 y)))) → ⊥) → day_text (day +ℤ days) ≡ None
sum_far x y day days x_is y_is day_fits days_fit far =
    let one : x ≡ day = x_is ∙ to_z-of_z w32 day day_fits in
    let two : y ≡ days = y_is ∙ to_z-of_z w64 days days_fit in
    let day_wide : FitsSigned w128 day = omega (arith, signed_arith) in
    let days_wide : FitsSigned w128 days = omega (arith, signed_arith) in
    let sum_wide : FitsSigned w128 (day +ℤ days) = omega (arith, signed_arith) in
    let whole : to_z w128 (of_z w128 (to_z w128 (of_z w128 x) +ℤ to_z w128 (of_z w128 y))) ≡ day +ℤ days =
    ap₂ (λ a b. to_z w128 (of_z w128 (a +ℤ b)))
    (ap (λ z. to_z w128 (of_z w128 z)) one ∙ to_z-of_z w128 day day_wide)
    (ap (λ z. to_z w128 (of_z w128 z)) two ∙ to_z-of_z w128 days days_wide)
    ∙ to_z-of_z w128 (day +ℤ days) sum_wide in
    day_text-far (day +ℤ days) (λ near.
    let fits : FitsSigned w32 (day +ℤ days) = omega (arith, signed_arith) in
    far (subst (FitsSigned w32) (sym whole) fits))
