-- One line by itself, in document 01's terms: what its own openings, deliveries and turns make of it, and what is seen
-- of them. Nothing here knows of other lines or of bytes in arrays. `Laws/Calls.antt` says that this is what the calls
-- of the code do to a line of the station.
use Rattle.std.proofs.Math.Option.{none}
use Rattle.std.specs.Prelude.{List, [], ◌∷◌, ◌++◌, map, ℕ, ◌+◌, leb, length, take, drop}
use Rattle.characters.specs.Answers.{pick}
use Rattle.groups.specs.Modes.{is_mode}
use Rattle.line.specs.Lines.{State, until_answer}
use Rattle.line.specs.Entries.{Framed, first_entry}
use Rattle.line.specs.FrameNumbers.{begun, framed_after, framed_answers}
use Rattle.line.specs.Numbers.{shown_framed}
use Rattle.station.specs.Lines.{most_in_turn}
use Rattle.station.specs.Sheets.{Told}
use Rattle.station.specs.History.{Event, opening_in, delivery_of, turn, Sight, was, got, took}

-- a line is closed, or open: its mode, where it is with the number of its frame, and the bytes that wait
pub data Line : Type 0 where
  closed : Line
  opened : (mode : ℕ) (state : Framed State) (inbox : List ℕ) → Line

-- how many bytes a turn takes: "its oldest bytes, at most 64", and none after one that gives an answer
abbrev pub quota : ℕ → Framed State → List ℕ → ℕ
quota mode s inbox = until_answer mode s.what (take most_in_turn inbox)

unfoldable pub line_after : Line → Event → Line
line_after l (opening_in mode) = pick (is_mode mode) (opened mode begun []) l
line_after closed (delivery_of bytes) = closed
line_after (opened mode s inbox) (delivery_of bytes) =
    pick (leb (length inbox + length bytes) 256) (opened mode s (inbox ++ bytes)) (opened mode s inbox)
line_after closed turn = closed
line_after (opened mode s inbox) turn =
    opened mode (framed_after mode s (take (quota mode s inbox) inbox)) (drop (quota mode s inbox) inbox)

-- a turn gives at most one answer
unfoldable pub turn_told : Line → Told
turn_told closed = record { count = 0; entry = none }
turn_told (opened mode s inbox) =
    record {
      count = quota mode s inbox;
      entry = first_entry (map shown_framed (framed_answers mode s (take (quota mode s inbox) inbox)));
    }

-- 17, 15 or 0
unfoldable pub delivery_number : Line → List ℕ → ℕ
delivery_number closed bytes = 17
delivery_number (opened mode s inbox) bytes = pick (leb (length inbox + length bytes) 256) 0 15

unfoldable pub line_sight : Line → Event → Sight
line_sight l (opening_in mode) = was mode (pick (is_mode mode) 0 19)
line_sight l (delivery_of bytes) = got bytes (delivery_number l bytes)
line_sight l turn = took (turn_told l)

abbrev pub line_run : Line → List Event → Line
line_run l [] = l
line_run l (e ∷ es) = line_run (line_after l e) es

abbrev pub line_seen : Line → List Event → List Sight
line_seen l [] = []
line_seen l (e ∷ es) = line_sight l e ∷ line_seen (line_after l e) es
