use Rattle.std.proofs.Common.{◌≡◌, pos, Some, arith, ap, ap₂, sym, ◌∙◌, w8, w16, w32, FitsSigned, subst}
use Rattle.std.proofs.lemmas.Int.{to_z_pos, to_z-of_z, ints}
use Rattle.std.specs.Int.{IsInRange}
use Rattle.jiff_core.specs.Calendar.{days_from_civil, days_in_month}
use Rattle.hog_extras.proofs.Calendar.{civil_day-civil}
use Rattle.hog_extras.proofs.dates.civil_day_of.Goals as goal

pub returns-in-Ok : goal.returns-in-Ok
returns-in-Ok c =
    let date = c.in-Ok.date in
    let parts = c.in-Ok.ensures.value in
    let year : date.year ≡ pos c.args.year = parts.0 ∙ to_z_pos w16 c.args.year (omega arith) in
    let pos_month : pos date.month ≡ pos c.args.month = parts.1 ∙ to_z_pos w8 c.args.month (omega arith) in
    let pos_day : pos date.day ≡ pos c.args.day = parts.2 ∙ to_z_pos w8 c.args.day (omega arith) in
    let month : date.month ≡ c.args.month = cc in
    let day : date.day ≡ c.args.day = cc in
    let month_in : IsInRange 1 12 c.args.month = subst (IsInRange 1 12) month date.month_in in
    let same_day : days_from_civil date.year date.month date.day ≡ days_from_civil (pos c.args.year) c.args.month c.args.day = cc in
    let fits : FitsSigned w32 c.to_unix_epoch_day.result = omega (arith, ints) in
    let day_in : IsInRange 1 (days_in_month (pos c.args.year) c.args.month) c.args.day =
    subst
    (λ d. IsInRange 1 (days_in_month (pos c.args.year) c.args.month) d)
    day
    (subst (λ n. IsInRange 1 n date.day) (ap₂ days_in_month year month) date.day_in) in
    ap Some (to_z-of_z w32 c.to_unix_epoch_day.result fits ∙ c.to_unix_epoch_day.ensures.value ∙ same_day)
    ∙ sym (civil_day-civil c.args.year c.args.month c.args.day month_in day_in)
