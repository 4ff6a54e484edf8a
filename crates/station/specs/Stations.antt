-- The station's openings and deliveries (document 01, "The station"): the next station, or a refusal, which changes
-- nothing.
use Rattle.std.specs.Prelude.{List, [], ℕ, ltb, get_or, set, replicate, Ok, Err, Option, Some, None}
use Rattle.characters.specs.Answers.{Answer, refused, given, need}
use Rattle.line.specs.declared.LineState.{LineState}
use Rattle.line.specs.State.{opening_of}
use Rattle.station.specs.Lines.{opened_as, filling}
use Rattle.station.specs.Records.{StationLine, Station, Called}
use Rattle.station.specs.declared.Refusal.{Refusal}
use Rattle.station.specs.declared.Refusal.TheVariants.{LineUnknown, ModeUnknown}

-- a line of zeros, with the bytes that it keeps
abbrev pub zero_line : List ℕ → List ℕ → StationLine
zero_line content inbox =
    record {
      opened = 0;
      state = record { mode = 0; phase = 0; flaw = 0; damaged = 0; overlong = 0; length = 0; frame = 0 };
      first = 0;
      count = 0;
      content = content;
      inbox = inbox;
    }

-- "Eight lines, 0 to 7, all closed at first": every byte of it is zero
unfoldable pub all_closed : Station
all_closed = record { lines = replicate 8 (zero_line (replicate 128 0) (replicate 256 0)) }

-- line i; there are eight, so nothing stands for a ninth
abbrev pub line_at : Station → ℕ → StationLine
line_at s i = get_or s.lines i (zero_line [] [])

abbrev pub with_line : Station → ℕ → StationLine → Station
with_line s i l = record { lines = set s.lines i l }

-- what a call hands back: the next station, or the station as it was and why
abbrev pub called : Station → Answer Refusal Station → Called
called s (given next) = record { station = next; reply = Ok tt }
called s (refused refusal) = record { station = s; reply = Err refusal }

-- the opening of line i, by what the line itself makes of the mode
abbrev pub opening_by : Station → ℕ → Option LineState → Answer Refusal Station
opening_by s i (Some state) = given (with_line s i (opened_as (line_at s i) state))
opening_by s i None = refused ModeUnknown

-- "Opening: 16, 19."
unfoldable pub opening : Station → ℕ → ℕ → Answer Refusal Station
opening s i mode = need (ltb i 8) LineUnknown (opening_by s i (opening_of mode))

abbrev pub filled_at : Station → ℕ → Answer Refusal StationLine → Answer Refusal Station
filled_at s i (given l) = given (with_line s i l)
filled_at s i (refused refusal) = refused refusal

-- "Delivery: 16, 17, 15."
unfoldable pub delivering : Station → ℕ → List ℕ → Answer Refusal Station
delivering s i bytes = need (ltb i 8) LineUnknown (filled_at s i (filling (line_at s i) bytes))
