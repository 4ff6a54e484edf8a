-- The station, as the definitions and the contracts speak of it. It lies in four lent arrays (`Memory.antt`).
use Rattle.std.specs.Prelude.{List, ℕ, Result}
use Rattle.line.specs.declared.LineState.{LineState}
use Rattle.line.specs.declared.Heard.{Heard}
use Rattle.station.specs.declared.Refusal.{Refusal}

-- a line: 0 in `opened` is a closed one, and `count` bytes wait in the inbox, from place `first` on
pub record StationLine : Type 0 where
  pub opened : ℕ
  pub state : LineState
  pub first : ℕ
  pub count : ℕ
  pub content : List ℕ
  pub inbox : List ℕ

pub record Station : Type 0 where
  pub lines : List StationLine

-- the station after an opening or a delivery, and what is told of the call
pub record Called : Type 0 where
  pub station : Station
  pub reply : Result (Unit {0}) Refusal

-- the station after a round, and what is told of it: how many bytes each line's turn took, or why it is refused
pub record Rounded : Type 0 where
  pub station : Station
  pub told : Result (List ℕ) Refusal

-- what a turn did: the line afterwards, how many bytes it took, and what was heard at the last of them
pub record Turned : Type 0 where
  pub line : StationLine
  pub count : ℕ
  pub heard : Heard
