-- Document 01's numbers ("Numbers") for what the station's calls tell.
use Rattle.std.specs.Prelude.{ℕ, Result, Ok, Err}
use Rattle.station.specs.declared.Refusal.{Refusal}
use Rattle.station.specs.declared.Refusal.TheVariants.{NoRoom, LineUnknown, LineClosed, SheetShort, ModeUnknown}

abbrev pub number_of_refusal : Refusal → ℕ
number_of_refusal NoRoom = 15
number_of_refusal LineUnknown = 16
number_of_refusal LineClosed = 17
number_of_refusal SheetShort = 18
number_of_refusal ModeUnknown = 19

-- "0: an opening, delivery .. or round that is not refused"
abbrev pub number_of : {A : Type 0} → Result A Refusal → ℕ
number_of (Ok given) = 0
number_of (Err refusal) = number_of_refusal refusal
