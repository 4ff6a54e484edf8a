-- One line of the station (document 01, "The station"): its inbox, an opening, a delivery, a turn. The definitions are
-- on the code's own record, for every value of it, and they are what the code's contracts cite.
use Rattle.std.specs.Prelude.{Bool, not, List, ◌++◌, ℕ, ◌+◌, ◌-◌, eqb, ltb, leb, length, take, drop}
use Rattle.characters.specs.Answers.{Answer, given, need, pick}
use Rattle.line.specs.Steps.{FedTo, fed}
use Rattle.line.specs.declared.LineState.{LineState}
use Rattle.line.specs.declared.Heard.TheVariants.{Nothing}
use Rattle.station.specs.Records.{StationLine, Turned}
use Rattle.station.specs.declared.Refusal.{Refusal}
use Rattle.station.specs.declared.Refusal.TheVariants.{NoRoom, LineClosed}

-- "all closed at first": 0 is closed, any other number is open
abbrev pub is_open : StationLine → Bool
is_open l = not (eqb l.opened 0)

-- the bytes that wait in the inbox, the oldest first
unfoldable pub waiting : StationLine → List ℕ
waiting l = take l.count (drop l.first l.inbox)

-- "Opening a line with a mode empties its inbox and puts it outside, whether it was open or not."; its frame number is "0
-- when opened" (document 02, M-108)
abbrev pub opened_as : StationLine → LineState → StationLine
opened_as l state =
    record { opened = 1; state = state; first = 0; count = 0; content = l.content; inbox = l.inbox }

-- bytes laid over the first of others
abbrev pub over : List ℕ → List ℕ → List ℕ
over front all = front ++ drop (length front) all

-- what waits is moved to the front and the bytes are laid behind it: "room freed by a round is used again"
abbrev pub added : StationLine → List ℕ → StationLine
added l bytes =
    record {
      opened = l.opened;
      state = l.state;
      first = 0;
      count = length (waiting l) + length bytes;
      content = l.content;
      inbox = over (waiting l ++ bytes) l.inbox;
    }

-- "A delivery adds bytes to the inbox of an open line, all of them or none; the inbox holds 256": 17, then 15
unfoldable pub filling : StationLine → List ℕ → Answer Refusal StationLine
filling l bytes =
    need (is_open l) LineClosed
    (need (leb (length (waiting l) + length bytes) 256) NoRoom
    (given (added l bytes)))

-- where the oldest byte lies; no call makes a place past the end
unfoldable pub oldest : StationLine → ℕ
oldest l = pick (ltb 256 l.first) 256 l.first

-- the line after the bytes that were fed to it; they leave the inbox
abbrev pub turned : StationLine → FedTo → Turned
turned l f =
    record {
      line = record {
        opened = l.opened;
        state = f.result.line;
        first = oldest l + f.result.count;
        count = length (waiting l) - f.result.count;
        content = f.content;
        inbox = l.inbox;
      };
      count = f.result.count;
      heard = f.result.heard;
    }

-- "at most 64"
abbrev pub most_in_turn : ℕ
most_in_turn = 64

-- "Each open line's turn takes its oldest bytes, at most 64, and ends early after a byte that gives an answer."
unfoldable pub turning : StationLine → Turned
turning l =
    pick (is_open l)
    (turned l (fed 0 l.state l.content (take most_in_turn (waiting l))))
    (record { line = l; count = 0; heard = Nothing })
