-- What a right stamp is: how it is written, "a season letter, then YYMMDDhhmmss" (document 01, "One group"). Nothing here
-- takes a stamp apart.
use Rattle.std.specs.Prelude.{◌≡◌, Bool, true, false, List, [], ◌∷◌, ◌++◌, ℕ, ◌-◌, ◌/◌, ◌%◌, ◌≤◌, ◌<◌, T, eqb, get_or}
use Rattle.groups.specs.Table.{codes}
use Rattle.groups.specs.Spelled.{among}
use Rattle.groups.specs.declared.table.Mark.{Mark}
use Rattle.groups.specs.declared.table.Mark.TheVariants.{Unstamped, Letter, Space}

-- a number below 100 in two decimal digits
unfoldable pub two : ℕ → List ℕ
two n = get_or (codes "0123456789") (n / 10) 0 ∷ get_or (codes "0123456789") (n % 10) 0 ∷ []

-- the twelve months of a year that divides by 4, "February having 29 days", and of another
abbrev pub months : Bool → List ℕ
months true = 31 ∷ 29 ∷ 31 ∷ 30 ∷ 31 ∷ 30 ∷ 31 ∷ 31 ∷ 30 ∷ 31 ∷ 30 ∷ 31 ∷ []
months false = 31 ∷ 28 ∷ 31 ∷ 30 ∷ 31 ∷ 30 ∷ 31 ∷ 31 ∷ 30 ∷ 31 ∷ 30 ∷ 31 ∷ []

abbrev pub last_day : ℕ → ℕ → ℕ
last_day year month = get_or (months (eqb (year % 4) 0)) (month - 1) 0

-- a season out of these, and a day and time: "Month 01 to 12; day within that month ..; hour 00 to 23; minute and second
-- 00 to 59"
pub record Dated (seasons stamp : List ℕ) : Type 0 where
  pub season : ℕ
  pub year : ℕ
  pub month : ℕ
  pub day : ℕ
  pub hour : ℕ
  pub minute : ℕ
  pub second : ℕ
  pub in_season : T (among seasons season)
  pub in_century : year < 100
  pub in_year : (1 ≤ month) × (month ≤ 12)
  pub in_month : (1 ≤ day) × (day ≤ last_day year month)
  pub in_day : hour < 24
  pub in_hour : minute < 60
  pub in_minute : second < 60
  pub written : stamp ≡ season ∷ two year ++ two month ++ two day ++ two hour ++ two minute ++ two second

-- "The season is H or E; for DPM1 to DPM3 and FPM1 to FPM3 it is SP and nothing else"; h and e "are right wherever H and E
-- are right" (document 02, M-101); "An absent stamp is an empty stretch"
abbrev pub RightStamp : Mark → List ℕ → Type 0
RightStamp Unstamped stamp = stamp ≡ []
RightStamp Letter stamp = Dated (codes "HEhe") stamp
RightStamp Space stamp = Dated (codes " ") stamp
