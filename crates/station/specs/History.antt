-- Calls one after the other, from the station with all lines closed, and what the callers saw of a line: the numbers
-- returned, and the bytes of the sheets that they lent. What a call does is what the code's contracts say of it.
use Rattle.std.specs.Prelude.{Bool, true, false, List, [], ◌∷◌, ◌++◌, ℕ, suc, ◌+◌, eqb, leb, ltb, length, take, drop}
use Rattle.std.proofs.Math.Option.{Option, none}
use Rattle.characters.specs.Answers.{pick}
use Rattle.groups.specs.Modes.{mode_of, is_mode}
use Rattle.groups.specs.declared.Mode.{Mode}
use Rattle.line.specs.Entries.{Entry, Framed, entry_list}
use Rattle.station.specs.Numbers.{number_of}
use Rattle.station.specs.Stations.{all_closed, called, opening, delivering}
use Rattle.station.specs.Sheets.{Told}
use Rattle.station.specs.Rounds.{round, counts_of}
use Rattle.station.specs.Reading.{read_turn}
use Rattle.station.specs.Records.{Station}

-- ---- Calls

pub data Call : Type 0 where
  opens : (line mode : ℕ) → Call
  delivers : (line : ℕ) (bytes : List ℕ) → Call
  serves : (sheet : List ℕ) → Call

-- what the caller has of a call: its number, the counts of a round, and the lent bytes afterwards (those of a delivery
-- are lent to be read only)
pub record Got : Type 0 where
  pub number : ℕ
  pub counts : List ℕ
  pub lent : List ℕ

-- the station after a call
unfoldable pub next : Station → Call → Station
next s (opens i mode) = (called s (opening s i mode)).station
next s (delivers i bytes) = (called s (delivering s i bytes)).station
next s (serves sheet) = (round s sheet).result.station

unfoldable pub gets : Station → Call → Got
gets s (opens i mode) = record { number = number_of (called s (opening s i mode)).reply; counts = []; lent = [] }
gets s (delivers i bytes) =
    record { number = number_of (called s (delivering s i bytes)).reply; counts = []; lent = bytes }
gets s (serves sheet) =
    record {
      number = number_of (round s sheet).result.told;
      counts = counts_of (round s sheet).result.told;
      lent = (round s sheet).sheet;
    }

abbrev pub run : Station → List Call → Station
run s [] = s
run s (c ∷ cs) = run (next s c) cs

-- what the callers have of calls one after the other
abbrev pub gots_of : Station → List Call → List Got
gots_of s [] = []
gots_of s (c ∷ cs) = gets s c ∷ gots_of (next s c) cs

-- ---- One line

-- what a call is to a line: its own opening or delivery, refused or not, or an accepted round
pub data Event : Type 0 where
  opening_in : (mode : ℕ) → Event
  delivery_of : (bytes : List ℕ) → Event
  turn : Event

unfoldable pub hears : ℕ → Call → List Event
hears i (opens j mode) = pick (eqb j i) (opening_in mode ∷ []) []
hears i (delivers j bytes) = pick (eqb j i) (delivery_of bytes ∷ []) []
hears i (serves sheet) = pick (leb 1096 (length sheet)) (turn ∷ []) []

abbrev pub events : ℕ → List Call → List Event
events i [] = []
events i (c ∷ cs) = hears i c ++ events i cs

-- what the callers saw of a line: its openings and deliveries with their numbers, and its turns as the sheets tell them
pub data Sight : Type 0 where
  was : (mode number : ℕ) → Sight
  got : (bytes : List ℕ) (number : ℕ) → Sight
  took : Told → Sight

unfoldable pub seen_of : ℕ → Call → Got → List Sight
seen_of i (opens j mode) g = pick (eqb j i) (was mode g.number ∷ []) []
seen_of i (delivers j bytes) g = pick (eqb j i) (got bytes g.number ∷ []) []
seen_of i (serves sheet) g = pick (eqb g.number 0) (took (read_turn g.lent i) ∷ []) []

-- from what the callers have
abbrev pub seen_by : ℕ → List Call → List Got → List Sight
seen_by i [] gots = []
seen_by i (c ∷ cs) [] = []
seen_by i (c ∷ cs) (g ∷ gots) = seen_of i c g ++ seen_by i cs gots

abbrev pub seen : ℕ → Station → List Call → List Sight
seen i s cs = seen_by i cs (gots_of s cs)

-- ---- The account of a line since its last opening, from what the callers saw

-- the mode it was opened in, if it was opened; the bytes accepted for it; how many of these were taken; and the answers
-- that the sheets showed, with the numbers of their frames
pub record Account : Type 0 where
  pub mode : Option Mode
  pub accepted : List ℕ
  pub taken : ℕ
  pub answered : List (Framed Entry)

abbrev pub afresh : Option Mode → Account
afresh mode = record { mode = mode; accepted = []; taken = 0; answered = [] }

abbrev pub never : Account
never = afresh none

unfoldable pub entered : Account → Sight → Account
entered a (was mode number) = pick (eqb number 0) (afresh (mode_of mode)) a
entered a (got bytes number) =
    record {
      mode = a.mode;
      accepted = a.accepted ++ pick (eqb number 0) bytes [];
      taken = a.taken;
      answered = a.answered;
    }
entered a (took t) =
    record {
      mode = a.mode;
      accepted = a.accepted;
      taken = a.taken + t.count;
      answered = a.answered ++ entry_list t.entry;
    }

abbrev pub account : Account → List Sight → Account
account a [] = a
account a (x ∷ xs) = account (entered a x) xs

-- what the callers know of line i after these calls, by what they have of them
abbrev pub account_by : ℕ → List Call → List Got → Account
account_by i cs gots = account never (seen_by i cs gots)

abbrev pub account_of : ℕ → List Call → Account
account_of i cs = account_by i cs (gots_of all_closed cs)

-- of the bytes accepted, those that were taken, and those that wait
abbrev pub bytes_taken : Account → List ℕ
bytes_taken a = take a.taken a.accepted

abbrev pub bytes_waiting : Account → List ℕ
bytes_waiting a = drop a.taken a.accepted

-- ---- The answers to a line's bytes behind its first k, since its last opening (document 02, M-113)

-- those that were shown, with one sight more; `a` is the account with it. The answer of a turn is that of the last byte that it
-- took, and so of a byte behind the first k where more than k are taken then
unfoldable pub shown_behind : ℕ → Account → List (Framed Entry) → Sight → List (Framed Entry)
shown_behind k a before (was mode number) = pick (eqb number 0) [] before
shown_behind k a before (got bytes number) = before
shown_behind k a before (took t) = before ++ pick (ltb k a.taken) (entry_list t.entry) []

abbrev pub gathered : ℕ → Account → List (Framed Entry) → List Sight → List (Framed Entry)
gathered k a before [] = before
gathered k a before (x ∷ xs) = gathered k (entered a x) (shown_behind k (entered a x) before x) xs

-- gathered over the rounds, from what the callers have
abbrev pub answers_behind_by : ℕ → ℕ → List Call → List Got → List (Framed Entry)
answers_behind_by k i cs gots = gathered k never [] (seen_by i cs gots)

abbrev pub answers_behind : ℕ → ℕ → List Call → List (Framed Entry)
answers_behind k i cs = answers_behind_by k i cs (gots_of all_closed cs)

-- ---- What the bound counts

-- the accepted rounds among a line's events
abbrev pub turns_among : List Event → ℕ
turns_among [] = 0
turns_among (opening_in mode ∷ es) = turns_among es
turns_among (delivery_of bytes ∷ es) = turns_among es
turns_among (turn ∷ es) = suc (turns_among es)

-- no opening that is accepted is among them
abbrev pub stays_open : List Event → Bool
stays_open [] = true
stays_open (opening_in mode ∷ es) = pick (is_mode mode) false (stays_open es)
stays_open (delivery_of bytes ∷ es) = stays_open es
stays_open (turn ∷ es) = stays_open es

-- the bytes that were taken, by the counts that were seen
abbrev pub taken_in : List Sight → ℕ
taken_in [] = 0
taken_in (was mode number ∷ xs) = taken_in xs
taken_in (got bytes number ∷ xs) = taken_in xs
taken_in (took t ∷ xs) = t.count + taken_in xs
