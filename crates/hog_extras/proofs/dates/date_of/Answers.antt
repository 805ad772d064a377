use Rattle.std.proofs.Common.{◌≡◌, pos, ◌≤ℤ◌, ◌<ℤ◌, true, false, w16, to_z, of_z, FitsSigned, arith, refl, ap, sym, ◌∙◌}
use Rattle.std.proofs.lemmas.Int.{to_z-of_z}
use Rattle.jiff_core.proofs.SignedLemmas.{signed_arith}
use Rattle.hog_extras.specs.Dates.{is_day}
use Rattle.hog_extras.proofs.Calendar.{is_day-date, is_day-early, is_day-outside, widened}
use Rattle.hog_extras.proofs.dates.date_of.Goals as goal

pub returns-in-Ok-clause-none : goal.returns-in-Ok-clause-none
returns-in-Ok-clause-none c =
    let date = c.in-Ok.date in
    let day = c.in-Ok.ensures.value ∙ widened c.args.day c.from.result c.ranges.day c.from.ensures in
    let fits : FitsSigned w16 date.year = omega (arith, signed_arith, date.year_in) in
    let year : to_z w16 (of_z w16 date.year) ≡ date.year = to_z-of_z w16 date.year fits in
    let from : pos 0 ≤ℤ date.year = omega (arith, signed_arith) in
    let within : is_day c.args.day ≡ true = ap is_day (sym day) ∙ is_day-date date from in
    (λ none. absurd cc, λ outside. sym within ∙ outside)

pub returns-in_default-clause-none : goal.returns-in_default-clause-none
returns-in_default-clause-none c =
    let date = c.in-Ok.date in
    let day = c.in-Ok.ensures.value ∙ widened c.args.day c.from.result c.ranges.day c.from.ensures in
    let fits : FitsSigned w16 date.year = omega (arith, signed_arith, date.year_in) in
    let year : to_z w16 (of_z w16 date.year) ≡ date.year = to_z-of_z w16 date.year fits in
    let before : date.year <ℤ pos 0 = omega (arith, signed_arith) in
    let outside : is_day c.args.day ≡ false = ap is_day (sym day) ∙ is_day-early date before in
    (λ none. outside, λ _. refl)

pub returns-in_default-2-clause-none : goal.returns-in_default-2-clause-none
returns-in_default-2-clause-none c =
    let day = widened c.args.day c.from.result c.ranges.day c.from.ensures in
    let succeeds = rw day at c.in_default.ensures.succeeds in
    let outside = is_day-outside c.args.day succeeds.1 in
    (λ none. outside, λ _. refl)
