use Rattle.std.proofs.Common.{◌≡◌, ◌+◌, ℤ, pos, true, false, Some, None, refl, w8, w32, to_z, of_z, FitsSigned, arith, ap, sym, ◌∙◌, unsigned_abs}
use Rattle.std.proofs.lemmas.Int.{to_z-of_z}
use Rattle.jiff_core.specs.Calendar.{weekday_number}
use Rattle.jiff_core.specs.Date.{epoch_day}
use Rattle.jiff_core.proofs.SignedLemmas.{signed_arith}
use Rattle.hog_extras.specs.Dates.{is_day, day_of_week}
use Rattle.hog_extras.proofs.Calendar.{is_day-date}
use Rattle.hog_extras.proofs.dates.weekday.Goals as goal

-- inside and outside the years
inside : (day : ℤ) → is_day day ≡ true → day_of_week day ≡ Some (weekday_number day + 1)
unfolding day_of_week
inside day is = rw is refl

outside : (day : ℤ) → is_day day ≡ false → day_of_week day ≡ None
unfolding day_of_week
outside day is = rw is refl

pub returns-in_err-date : goal.returns-in_err-date
returns-in_err-date c =
    let same : to_z w32 (of_z w32 c.args.day) ≡ c.args.day = to_z-of_z w32 c.args.day c.ranges.day in
    let none = ap is_day (sym same) ∙ c.in_err-date.ensures.none.0 refl in
    c.from_residual.ensures ∙ sym (outside c.args.day none)

pub returns : goal.returns
returns c =
    let date = c.in_ok-date.date in
    let day : epoch_day date ≡ c.args.day = c.in_ok-date.ensures.day ∙ to_z-of_z w32 c.args.day c.ranges.day in
    let within : is_day c.args.day ≡ true = ap is_day (sym day) ∙ is_day-date date c.in_ok-date.ensures.year in
    let number : c.to_monday_one_offset.result ≡ pos (weekday_number c.args.day + 1) =
    c.to_monday_one_offset.ensures.value ∙ ap (λ n. pos (n + 1)) (c.weekday.ensures ∙ ap weekday_number day) in
    let bound = c.to_monday_one_offset.ensures.bound in
    let fits : FitsSigned w8 c.to_monday_one_offset.result = omega (arith, signed_arith) in
    ap Some (ap unsigned_abs (to_z-of_z w8 c.to_monday_one_offset.result fits ∙ number)) ∙ sym (inside c.args.day within)
