-- How a caller reads the sheet of a round: what it tells of each line's turn.
use Rattle.std.proofs.Math.Option.{Option, none, some}
use Rattle.std.specs.Prelude.{List, [], ◌∷◌, map, ℕ, ◌+◌, ◌*◌, eqb, get_or, take, drop}
use Rattle.characters.specs.Answers.{pick}
use Rattle.groups.specs.Groups.{group_of}
use Rattle.line.specs.Entries.{Entry, accepted, refused_at, Framed, framed}
use Rattle.station.specs.Sheets.{Told}

-- an answer by the four bytes in front and the text: 1 has lengths and the three texts, all others a place
abbrev pub entry_by : ℕ → ℕ → ℕ → ℕ → List ℕ → Entry
entry_by n a b c text =
    pick (eqb n 1)
    (accepted (group_of (take a text) (take b (drop a text)) (take c (drop b (drop a text)))))
    (refused_at n c)

-- the entry that stands at the front of these bytes: the number of its frame is behind the four, low byte first
unfoldable pub read_entry : List ℕ → Option (Framed Entry)
read_entry [] = none
read_entry (n ∷ []) = none
read_entry (n ∷ a ∷ []) = none
read_entry (n ∷ a ∷ b ∷ []) = none
read_entry (n ∷ a ∷ b ∷ c ∷ []) = none
read_entry (n ∷ a ∷ b ∷ c ∷ low ∷ []) = none
read_entry (n ∷ a ∷ b ∷ c ∷ low ∷ high ∷ text) = some (framed (low + 256 * high) (entry_by n a b c text))

-- the entry at an offset; "0 where a line has no answer"
unfoldable pub entry_at : List ℕ → ℕ → Option (Framed Entry)
entry_at sheet offset = pick (eqb offset 0) none (read_entry (drop offset sheet))

-- what a sheet tells of line i's turn: byte i is the count, bytes 8 + 2i and 9 + 2i are the offset
unfoldable pub read_turn : List ℕ → ℕ → Told
read_turn sheet i =
    record {
      count = get_or sheet i 0;
      entry = entry_at sheet (get_or sheet (8 + 2 * i) 0 + 256 * get_or sheet (9 + 2 * i) 0);
    }

-- what it tells of the turns of lines 0 to 7
abbrev pub turns_read : List ℕ → List Told
turns_read sheet = map (read_turn sheet) (0 ∷ 1 ∷ 2 ∷ 3 ∷ 4 ∷ 5 ∷ 6 ∷ 7 ∷ [])
