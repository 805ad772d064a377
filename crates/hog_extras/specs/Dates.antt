-- Dates of the years 0000 to 9999 in the proleptic Gregorian calendar, and their day numbers: 1970-01-01 is 0.
use Rattle.std.specs.Prelude.{ℕ, zero, suc, ◌+◌, ◌-◌, ◌*◌, ◌/◌, ◌%◌, ℤ, pos, ◌-ℤ◌, int_le, unsigned_abs, Bool, ◌&&◌, List, [], ◌∷◌, ◌++◌, length, Option, Some, None, option_and_then, option_map, nat_lt, nat_le, ◌==◌, slice_index, if◌then◌else◌}
use Rattle.std.specs.Char.{is_ascii_digit}
use Rattle.jiff_core.specs.Calendar.{days_in_year, days_in_month, days_from_civil, weekday_number}

-- the first day of these years
abbrev pub first_day : ℤ
first_day = days_from_civil (pos 0) 1 1

-- the last day of these years
abbrev pub last_day : ℤ
last_day = days_from_civil (pos 9999) 12 31

-- whether the day lies in these years
abbrev pub is_day : ℤ → Bool
is_day day = int_le first_day day && int_le day last_day

-- the calendar has this date
abbrev pub is_date : ℕ → ℕ → ℕ → Bool
is_date year month day =
    nat_le 1 month && nat_le month 12 && (nat_le 1 day && nat_le day (days_in_month (pos year) month))

-- the byte '-'
abbrev pub hyphen : ℕ
hyphen = 45

-- the number that two digits spell
abbrev pub two_digits : ℕ → ℕ → Option ℕ
two_digits tens ones = if is_ascii_digit tens && is_ascii_digit ones then Some (10 * (tens - 48) + (ones - 48)) else None

-- the day of a date that the calendar has
abbrev pub civil_day : ℕ → ℕ → ℕ → Option ℤ
civil_day year month day = if is_date year month day then Some (days_from_civil (pos year) month day) else None

-- the number that four digits spell
abbrev pub four_digits : ℕ → ℕ → ℕ → ℕ → Option ℕ
four_digits a b c d =
    option_and_then (λ century. option_map (λ year. 100 * century + year) (two_digits c d)) (two_digits a b)

-- the three numbers, where each is there
abbrev pub all_parts : Option ℕ → Option ℕ → Option ℕ → Option (ℕ × ℕ × ℕ)
all_parts None month day = None
all_parts (Some year) None day = None
all_parts (Some year) (Some month) None = None
all_parts (Some year) (Some month) (Some day) = Some (year, month, day)

-- the year, the month and the day that a text `dddd-dd-dd` spells
unfoldable pub date_parts : List ℕ → Option (ℕ × ℕ × ℕ)
date_parts t =
    let year = four_digits (slice_index t 0) (slice_index t 1) (slice_index t 2) (slice_index t 3) in
    let month = two_digits (slice_index t 5) (slice_index t 6) in
    let day = two_digits (slice_index t 8) (slice_index t 9) in
    let is_shape = (length t == 10) && ((slice_index t 4 == hyphen) && (slice_index t 7 == hyphen)) in
    if is_shape then all_parts year month day else None

-- the day of a date text, and None where the text is none
unfoldable pub date_day : List ℕ → Option ℤ
date_day t = option_and_then (λ p. civil_day p.0 p.1 p.2) (date_parts t)

-- counts off whole years from the year on, at most so many, and gives the year reached and the days that are left
unfoldable pub year_after : ℕ → ℕ → ℕ → ℕ × ℕ
year_after zero year days = (year, days)
year_after (suc most) year days =
    if nat_lt days (days_in_year (pos year)) then (year, days) else year_after most (suc year) (days - days_in_year (pos year))

-- counts off whole months of the year from the month on, likewise
unfoldable pub month_after : ℕ → ℕ → ℕ → ℕ → ℕ × ℕ
month_after zero year month days = (month, days)
month_after (suc most) year month days =
    if nat_lt days (days_in_month (pos year) month) then (month, days)
    else month_after most year (suc month) (days - days_in_month (pos year) month)

-- two digits
abbrev pub digits_of : ℕ → List ℕ
digits_of n = (48 + n / 10) ∷ (48 + n % 10) ∷ []

-- the text of a date
abbrev pub text_of_date : ℕ → ℕ → ℕ → List ℕ
text_of_date year month day =
    digits_of (year / 100) ++ digits_of (year % 100) ++ hyphen ∷ digits_of month ++ hyphen ∷ digits_of day

-- the text of the date that is so many days after 1 January of the year 0
unfoldable pub text_after : ℕ → List ℕ
text_after days =
    let y = year_after 10000 0 days in
    let m = month_after 12 y.0 1 y.1 in
    text_of_date y.0 m.0 (m.1 + 1)

-- the date text of a day, and None where the day lies outside these years
unfoldable pub day_text : ℤ → Option (List ℕ)
day_text day = if is_day day then Some (text_after (unsigned_abs (day -ℤ first_day))) else None

-- the day of the week from 1 for Monday to 7 for Sunday, likewise
unfoldable pub day_of_week : ℤ → Option ℕ
day_of_week day = if is_day day then Some (weekday_number day + 1) else None
