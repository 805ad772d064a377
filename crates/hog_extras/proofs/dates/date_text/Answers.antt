use Rattle.std.proofs.Common.{◌≡◌, pos, Some, Err, refl, ap, sym, ◌∙◌, subst, w32, to_z, of_z}
use Rattle.std.proofs.lemmas.Int.{to_z-of_z}
use Rattle.std.proofs.lemmas.Str.{IsUtf8-from_ascii}
use Rattle.std.proofs.lemmas.Str.Ascii.{IsAscii-from_all}
use Rattle.jiff_core.specs.Calendar.{days_from_civil, IsCivilDate}
use Rattle.jiff_core.specs.Date.{epoch_day}
use Rattle.jiff_core.proofs.DateLemmas.{civil}
use Rattle.hog_extras.specs.Dates.{is_day, date_day, day_text}
use Rattle.hog_extras.proofs.Walks.{day_text-date, day_text-outside}
use Rattle.hog_extras.proofs.ReadBack.{date_day-text}
use Rattle.hog_extras.proofs.dates.date_text.Goals as goal

pub returns-in_default-clause-value : goal.returns-in_default-clause-value
returns-in_default-clause-value c =
    let same : to_z w32 (of_z w32 c.args.day) ≡ c.args.day = to_z-of_z w32 c.args.day c.ranges.day in
    sym (day_text-outside c.args.day (ap is_day (sym same) ∙ c.in_default.ensures.none.0 refl))

pub unreachable-requires : goal.unreachable-requires
unreachable-requires c =
    c.in-Err-NotUtf8.ensures.not_utf8
    c.in-Err-NotUtf8.field-0-0
    (ap Err c.in-Err-NotUtf8.field-0-is)
    (IsUtf8-from_ascii _ (IsAscii-from_all _ c.text_bytes-bytes.ensures.ascii))

pub returns-in-Ok-clause-value : goal.returns-in-Ok-clause-value
returns-in-Ok-clause-value c =
    let date = c.in-Some.date in
    let day : epoch_day date ≡ c.args.day = c.in-Some.ensures.day ∙ to_z-of_z w32 c.args.day c.ranges.day in
    ap Some (c.in-Ok.ensures.value ∙ c.text_bytes-bytes.ensures.text)
    ∙ sym (day_text-date date c.year_of.result c.year_of.ensures.year)
    ∙ ap day_text day

pub returns-in-Ok-clause-reads_back : goal.returns-in-Ok-clause-reads_back
returns-in-Ok-clause-reads_back c =
    let date = c.in-Some.date in
    let year = c.year_of.ensures.year in
    let day : epoch_day date ≡ c.args.day = c.in-Some.ensures.day ∙ to_z-of_z w32 c.args.day c.ranges.day in
    let is : IsCivilDate (pos c.year_of.result) date.month date.day = subst (λ y. IsCivilDate y date.month date.day) year (civil date) in
    let civil_day : days_from_civil date.year date.month date.day ≡ days_from_civil (pos c.year_of.result) date.month date.day =
    ap (λ y. days_from_civil y date.month date.day) year in
    ap date_day (c.in-Ok.ensures.value ∙ c.text_bytes-bytes.ensures.text)
    ∙ date_day-text c.year_of.result date.month date.day is
    ∙ ap Some (sym civil_day ∙ day)
