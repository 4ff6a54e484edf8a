-- What the contracts of the station's three calls say, of the memory before, the memory after, and what is returned.
use Rattle.std.specs.Prelude.{◌≡◌, List, ℕ, Result}
use Rattle.station.specs.Records.{Station, Called}
use Rattle.station.specs.Memory.{Memory, station_in}
use Rattle.station.specs.Stations.{called, opening, delivering}
use Rattle.station.specs.Rounds.{Round, round}
use Rattle.station.specs.declared.Refusal.{Refusal}

abbrev pub called_as : Station → Result (Unit {0}) Refusal → Called
called_as s reply = record { station = s; reply = reply }

-- of `open`
abbrev pub Opens : Memory → ℕ → ℕ → Result (Unit {0}) Refusal → Memory → Type 0
Opens m line mode reply n =
    called_as (station_in n) reply ≡ called (station_in m) (opening (station_in m) line mode)

-- of `deliver`
abbrev pub Delivers : Memory → ℕ → List ℕ → Result (Unit {0}) Refusal → Memory → Type 0
Delivers m line bytes reply n =
    called_as (station_in n) reply ≡ called (station_in m) (delivering (station_in m) line bytes)

-- of `round`: the lent sheet before and after, too
abbrev pub Serves : Memory → List ℕ → Result (List ℕ) Refusal → Memory → List ℕ → Type 0
Serves m sheet told n sheet' =
    Round (round (station_in m) sheet) (record { station = station_in n; told = told }) sheet'
