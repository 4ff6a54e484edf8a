-- "Stamp: a season letter, then YYMMDDhhmmss" (document 01, "One group").
use Rattle.std.specs.Prelude.{Bool, true, false, ◌&&◌, ◌||◌, List, ℕ, ◌+◌, ◌-◌, ◌*◌, ◌%◌, eqb, length, drop, get_or}
use Rattle.characters.specs.Answers.{every, pick}
use Rattle.characters.specs.Wire.{SP}
use Rattle.groups.specs.Kinds.{within, of_kind}
use Rattle.groups.specs.declared.table.Kind.TheVariants.{Digits}
use Rattle.groups.specs.declared.table.Mark.{Mark}
use Rattle.groups.specs.declared.table.Mark.TheVariants.{Unstamped, Letter, Space}

-- the number that the digits at two places write
abbrev pub two_digits : List ℕ → ℕ → ℕ
two_digits s i = (get_or s i 0 - 0x30) * 10 + (get_or s (i + 1) 0 - 0x30)

-- "YYMMDDhhmmss", behind the season
abbrev pub year_of : List ℕ → ℕ
year_of s = two_digits s 1

abbrev pub month_of : List ℕ → ℕ
month_of s = two_digits s 3

abbrev pub day_of : List ℕ → ℕ
day_of s = two_digits s 5

abbrev pub hour_of : List ℕ → ℕ
hour_of s = two_digits s 7

abbrev pub minute_of : List ℕ → ℕ
minute_of s = two_digits s 9

abbrev pub second_of : List ℕ → ℕ
second_of s = two_digits s 11

-- "Month 01 to 12"
abbrev pub month_right : ℕ → Bool
month_right month = within 1 12 month

-- "day within that month, February having 29 days when YY divides by 4"
unfoldable pub days_in : ℕ → ℕ → ℕ
days_in year month =
    pick (eqb month 2) (pick (eqb (year % 4) 0) 29 28)
    (pick (eqb month 4 || eqb month 6 || eqb month 9 || eqb month 11) 30 31)

abbrev pub day_right : ℕ → ℕ → ℕ → Bool
day_right year month day = within 1 (days_in year month) day

-- "hour 00 to 23"
abbrev pub hour_right : ℕ → Bool
hour_right hour = within 0 23 hour

-- "minute and second 00 to 59"
abbrev pub minute_right : ℕ → Bool
minute_right minute = within 0 59 minute

abbrev pub second_right : ℕ → Bool
second_right second = within 0 59 second

-- the twelve characters behind the season are digits, and write a day and a time
unfoldable pub date_right : List ℕ → Bool
date_right s =
    every (of_kind Digits) (drop 1 s)
    && month_right (month_of s)
    && day_right (year_of s) (month_of s) (day_of s)
    && hour_right (hour_of s)
    && minute_right (minute_of s)
    && second_right (second_of s)

-- "The season is H or E; for DPM1 to DPM3 and FPM1 to FPM3 it is SP and nothing else" (H is 0x48, E is 0x45); h and e "are
-- right wherever H and E are right .. and stay wrong for DPM and FPM" (document 02, M-101; h is 0x68, e is 0x65)
abbrev pub season_right : Mark → ℕ → Bool
season_right Unstamped c = false
season_right Letter c = eqb c 0x48 || eqb c 0x45 || eqb c 0x68 || eqb c 0x65
season_right Space c = eqb c SP

-- "Marked * is stamped"
abbrev pub is_stamped : Mark → Bool
is_stamped Unstamped = false
is_stamped Letter = true
is_stamped Space = true

-- the stamp of a label that is not stamped is empty; that of a stamped one has "13 characters", season and date
unfoldable pub stamp_as : Bool → Mark → List ℕ → Bool
stamp_as false mark s = eqb (length s) 0
stamp_as true mark s = eqb (length s) 13 && (season_right mark (get_or s 0 0) && date_right s)

abbrev pub stamp_right : Mark → List ℕ → Bool
stamp_right mark s = stamp_as (is_stamped mark) mark s
