-- Moments: the strings behind TIMESTAMP in a statement, in milliseconds since the start of 1970, UTC. The texts are the
-- extended forms of ISO 8601 dates and times; which of them are taken is this project's own.
use Rattle.std.specs.Prelude.{ℕ, ◌+◌, ◌-◌, ◌*◌, ℤ, pos, negsuc, ◌+ℤ◌, ◌*ℤ◌, Bool, ◌&&◌, ◌||◌, List, [], ◌∷◌, length, Option, Some, None, nat_lt, nat_le, ◌==◌, if◌then◌else◌, option_and_then}
use Rattle.std.specs.List.{list_all}
use Rattle.std.specs.Char.{is_ascii_digit}
use Rattle.jiff_core.specs.Calendar.{days_in_month, days_from_civil}

-- the number of two decimal digits
abbrev pub two_digits : ℕ → ℕ → Option ℕ
two_digits tens ones = if is_ascii_digit tens && is_ascii_digit ones then Some ((tens - 48) * 10 + (ones - 48)) else None

-- the thousandths of a second in one to six decimal digits; those past the third are dropped
unfoldable pub thousandths : List ℕ → Option ℕ
thousandths (a ∷ []) = if is_ascii_digit a then Some ((a - 48) * 100) else None
thousandths (a ∷ b ∷ []) = if is_ascii_digit a && is_ascii_digit b then Some ((a - 48) * 100 + (b - 48) * 10) else None
thousandths (a ∷ b ∷ c ∷ more) = if is_ascii_digit a && is_ascii_digit b && is_ascii_digit c && nat_le (length more) 3 && list_all is_ascii_digit more then Some ((a - 48) * 100 + (b - 48) * 10 + (c - 48)) else None
thousandths [] = None

-- nothing, or a dot and digits
unfoldable pub fraction_of : List ℕ → Option ℕ
fraction_of [] = Some 0
fraction_of (dot ∷ digits) = if dot == 46 then thousandths digits else None

-- the milliseconds of the day at a time of day: hours to 23, minutes and seconds to 59
abbrev pub time_at : ℕ → ℕ → ℕ → ℕ → Option ℕ
time_at hour minute second ms = if nat_lt hour 24 && nat_lt minute 60 && nat_lt second 60 then Some (((hour * 60 + minute) * 60 + second) * 1000 + ms) else None

-- what stands behind a date: nothing, which is midnight, or a blank or `T`, `HH:MM:SS` and a fraction
unfoldable pub time_of : List ℕ → Option ℕ
time_of [] = Some 0
time_of (gap ∷ h1 ∷ h2 ∷ colon ∷ m1 ∷ m2 ∷ second ∷ s1 ∷ s2 ∷ rest) =
    if (gap == 32 || gap == 84) && colon == 58 && second == 58
    then option_and_then (λ h. option_and_then (λ m. option_and_then (λ s. option_and_then (λ ms. time_at h m s ms) (fraction_of rest)) (two_digits s1 s2)) (two_digits m1 m2)) (two_digits h1 h2)
    else None
time_of _ = None

-- a date at the front of a text, and what stands behind it
pub record DatedText : Type 0 where
  pub year : ℕ
  pub month : ℕ
  pub day : ℕ
  pub rest : List ℕ

-- `YYYY-MM-DD`, and what stands behind it
unfoldable pub date_in : List ℕ → Option DatedText
date_in (y1 ∷ y2 ∷ y3 ∷ y4 ∷ dash ∷ m1 ∷ m2 ∷ second ∷ d1 ∷ d2 ∷ rest) =
    if dash == 45 && second == 45
    then option_and_then (λ c. option_and_then (λ y. option_and_then (λ m. option_and_then (λ d. Some (record { year = c * 100 + y; month = m; day = d; rest = rest })) (two_digits d1 d2)) (two_digits m1 m2)) (two_digits y3 y4)) (two_digits y1 y2)
    else None
date_in _ = None

-- the calendar has this day
abbrev pub is_date : ℕ → ℕ → ℕ → Bool
is_date year month day = nat_le 1 month && nat_le month 12 && nat_le 1 day && nat_le day (days_in_month (pos year) month)

-- a moment before 1970 counts as 0
abbrev pub from_1970 : ℤ → ℕ
from_1970 (pos n) = n
from_1970 (negsuc n) = 0

-- the milliseconds since 1970 behind so many days and so many milliseconds more
abbrev pub since_1970 : ℤ → ℕ → ℕ
since_1970 days ms = from_1970 ((days *ℤ pos 86_400_000) +ℤ pos ms)

-- a date that the calendar has, at a time of day
abbrev pub moment_at : DatedText → ℕ → Option ℕ
moment_at d ms = if is_date d.year d.month d.day then Some (since_1970 (days_from_civil (pos d.year) d.month d.day) ms) else None

-- the moment that a text stands for
abbrev pub moment_of : List ℕ → Option ℕ
moment_of text = option_and_then (λ d. option_and_then (moment_at d) (time_of d.rest)) (date_in text)
