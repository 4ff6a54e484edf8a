-- What the parts of the code hand to each other, by the station's own definitions.
use Rattle.std.specs.Prelude.{◌≡◌, List, [], ◌∷◌, ◌++◌, map, ℕ, ◌+◌, ◌%◌, ◌≤◌, length, take, Option, Some, None, Result, Ok, Err}
use Rattle.std.proofs.Math.Seq.{paste}
use Rattle.characters.specs.Answers.{Answer, refused, given, pick}
use Rattle.line.specs.Entries.{framed_if}
use Rattle.line.specs.Steps.{heard_answer}
use Rattle.line.specs.Views.{FieldsInside}
use Rattle.line.specs.Numbers.{shown_if}
use Rattle.line.specs.declared.Heard.{Heard}
use Rattle.line.specs.declared.Heard.TheVariants.{Nothing, Accepted, Told}
use Rattle.station.specs.Lines.{is_open, over, filling, turning}
use Rattle.station.specs.Sheets.{Told as TurnTold, entry_of, two_bytes, offsets, joined, entries, sheet_of}
use Rattle.station.specs.Rounds.{tells}
use Rattle.station.specs.Memory.{line_from}
use Rattle.station.specs.Records.{StationLine, Turned}
use Rattle.station.specs.declared.Refusal.{Refusal}
use Rattle.station.specs.declared.row.Row.{Row}
use Rattle.station.specs.declared.turn.Took.{Took}

-- ---- Inboxes

-- the numbers of the line that lies in these rows
abbrev pub row_of : List ℕ → List ℕ → Row
row_of marks places =
    let l = line_from marks places [] [] in
    record { opened = l.opened; state = l.state; first = l.first; count = l.count }

-- what is told of a call for one line
abbrev pub reply_to : Answer Refusal StationLine → Result (Unit {0}) Refusal
reply_to (given l) = Ok tt
reply_to (refused refusal) = Err refusal

-- the line after a call for it, which a refusal leaves as it was
abbrev pub line_left : StationLine → Answer Refusal StationLine → StationLine
line_left l (given next) = next
line_left l (refused refusal) = l

-- a delivery to a line: the reply, and the line afterwards
pub record Fills (l : StationLine) (bytes : List ℕ) (reply : Result (Unit {0}) Refusal) (after : StationLine) : Type 0 where
  pub reply_is : reply ≡ reply_to (filling l bytes)
  pub line_is : after ≡ line_left l (filling l bytes)

-- ---- Turns

-- what is told of a turn: nothing of a closed line, and else the count, what was heard, and the number of the frame
abbrev pub took_by : StationLine → Turned → Option Took
took_by l t =
    pick (is_open l) (Some (record { count = t.count; heard = t.heard; frame = t.line.state.frame })) None

-- a turn of a line: the line afterwards, and what is told of it. Its content and its inbox have the lengths of their types
pub record Turns (l after : StationLine) (told : Option Took) : Type 0 where
  pub line_is : after ≡ (turning l).line
  pub told_is : told ≡ took_by l (turning l)
  pub content_long : length l.content ≡ 128
  pub inbox_long : length l.inbox ≡ 256

-- ---- Entries

-- the entry of what was heard in the frame with this number, none where there was no answer
unfoldable pub entry_heard : Heard → ℕ → List ℕ → List ℕ
entry_heard heard frame content = entry_of (framed_if (frame % 65536) (shown_if (heard_answer heard content)))

-- the entry of an accepted group with these fields, with the two bytes of its frame's number
abbrev pub group_entry : (label stamp text : List ℕ) → ℕ → ℕ → List ℕ
group_entry label stamp text low high =
    1 ∷ length label ∷ length stamp ∷ length text ∷ low ∷ high ∷ (label ++ (stamp ++ text))

-- the offset of an entry that would stand at a place
abbrev pub offset_heard : Heard → ℕ → ℕ
offset_heard Nothing at = 0
offset_heard (Accepted fields) at = at
offset_heard (Told notice) at = at

-- there is room for the longest entry, and the fields of a group lie inside its content
pub record Fits (heard : Heard) (at room : ℕ) : Type 0 where
  pub inside : FieldsInside heard
  pub enough : (at + 134 ≤ 1096) × (1096 ≤ room)

-- an entry that is put on a sheet at a place: the place behind it, and the sheet with it
abbrev pub Put : ℕ → List ℕ → List ℕ → ℕ → List ℕ → Type 0
Put at sheet entry place after = (place ≡ at + length entry) × (after ≡ paste sheet at entry (length entry))

-- and the place is no further than the longest entry reaches
abbrev pub PutShort : ℕ → List ℕ → List ℕ → ℕ → List ℕ → Type 0
PutShort at sheet entry place after = Put at sheet entry place after × (place ≤ at + 134)

-- ---- The turns of a round

-- what the turns of these lines tell
abbrev pub told_by : List StationLine → List TurnTold
told_by ls = map tells (map turning ls)

-- the lines after their turns, the counts, the offsets, and the sheet with the entries from byte 24 on
pub record TakesTurns (ls : List StationLine) (sheet : List ℕ) (ls' : List StationLine) (counts offsets' after : List ℕ)
    : Type 0 where
  pub lines_are : ls' ≡ map (λ (t : Turned). t.line) (map turning ls)
  pub counts_are : counts ≡ map (λ (t : Turned). t.count) (map turning ls)
  pub offsets_are : offsets' ≡ joined two_bytes (offsets 24 (told_by ls))
  pub sheet_is : after ≡ over (take 24 sheet ++ entries (told_by ls)) sheet

-- the lines after their turns, the counts, and the sheet that tells of them
pub record ServesLines (ls : List StationLine) (sheet : List ℕ) (ls' : List StationLine) (counts after : List ℕ)
    : Type 0 where
  pub lines_are : ls' ≡ map (λ (t : Turned). t.line) (map turning ls)
  pub counts_are : counts ≡ map (λ (t : Turned). t.count) (map turning ls)
  pub sheet_is : after ≡ over (sheet_of (told_by ls)) sheet
