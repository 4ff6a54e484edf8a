-- A worked sheet, byte by byte from document 01's sentences, and document 02's M-104 and M-108: an accepted group with a stamp, a
-- line without an answer, two entries without text, two long ones, behind which an offset needs its second byte, and a refused
-- group with its place; with frame numbers of one byte and of two, the last one and 0. And what callers got of a line, written
-- by hand, and what they know of it then.
use Rattle.std.specs.Prelude.{◌≡◌, refl, List, [], ◌∷◌, ◌++◌, ℕ, replicate}
use Rattle.std.proofs.Math.Option.{none, some}
use Rattle.characters.specs.Answers.{pick}
use Rattle.groups.specs.Modes.{mode_of}
use Rattle.groups.specs.Table.{codes}
use Rattle.groups.specs.Groups.{group_of}
use Rattle.line.specs.Entries.{Entry, accepted, refused_at, only, framed}
use Rattle.station.specs.Sheets.{Told, idle, entry_bytes, two_bytes, sheet_of}
use Rattle.station.specs.Reading.{read_entry, entry_at, read_turn}
use Rattle.station.specs.History.{
  Call,
  opens,
  delivers,
  serves,
  Got,
  seen_of,
  entered,
  account_by,
  shown_behind,
  answers_behind_by,
}

abbrev profile : Entry
profile = accepted (group_of (codes "PJOURF+1") [] (replicate 98 0x20))

-- what eight turns told, in frames with numbers of one byte and of two
abbrev pub worked : List Told
worked =
    record {
      count = 27;
      entry = some (framed 3 (accepted (group_of (codes "SMAXSN") (codes "H081225223518") (codes "01200"))));
    }
    ∷ record { count = 64; entry = none }
    ∷ record { count = 1; entry = some (framed 258 (only 5)) }
    ∷ record { count = 64; entry = some (framed 65535 profile) }
    ∷ record { count = 50; entry = some (framed 0 profile) }
    ∷ record { count = 3; entry = some (framed 256 (only 2)) }
    ∷ record { count = 17; entry = some (framed 4660 (refused_at 14 8)) }
    ∷ idle
    ∷ []

-- "bytes 0 to 7 are those eight counts; bytes 8 to 23 are eight offsets, 16 bits, low byte first, 0 where a line has no
-- answer; entries follow from byte 24 in line order, without gaps. An entry is answer number, label length, stamp length,
-- data length, then label, stamp and data." and the frame number "two bytes, low byte first, before the text". The entries take
-- 30, 6, 112, 112, 6 and 6 bytes, and 28 + 256 is 24 + 260. 258 is 2 + 256, and 4660 is 52 + 18 times 256.
pub sheet_figure : sheet_of worked
    ≡ (27 ∷ 64 ∷ 1 ∷ 64 ∷ 50 ∷ 3 ∷ 17 ∷ 0 ∷ [])
    ++ (24 ∷ 0 ∷ 0 ∷ 0 ∷ 54 ∷ 0 ∷ 60 ∷ 0 ∷ 172 ∷ 0 ∷ 28 ∷ 1 ∷ 34 ∷ 1 ∷ 0 ∷ 0 ∷ [])
    ++ (1 ∷ 6 ∷ 13 ∷ 5 ∷ 3 ∷ 0 ∷ codes "SMAXSNH08122522351801200")
    ++ (5 ∷ 0 ∷ 0 ∷ 0 ∷ 2 ∷ 1 ∷ [])
    ++ (1 ∷ 8 ∷ 0 ∷ 98 ∷ 255 ∷ 255 ∷ codes "PJOURF+1")
    ++ replicate 98 0x20
    ++ (1 ∷ 8 ∷ 0 ∷ 98 ∷ 0 ∷ 0 ∷ codes "PJOURF+1")
    ++ replicate 98 0x20
    ++ (2 ∷ 0 ∷ 0 ∷ 0 ∷ 0 ∷ 1 ∷ [])
    ++ (14 ∷ 0 ∷ 0 ∷ 8 ∷ 52 ∷ 18 ∷ [])
unfolding sheet_of entry_bytes two_bytes pick
sheet_figure = refl

-- ---- What callers know

-- a sheet that tells of line 0 alone: so many bytes taken, and this answer in this frame
abbrev told : ℕ → ℕ → ℕ → List ℕ
told count answer frame =
    (count ∷ replicate 7 0) ++ (24 ∷ replicate 15 0) ++ (answer ∷ 0 ∷ 0 ∷ 0 ∷ frame ∷ 0 ∷ [])

-- what came of calls that are none of line 0's, or refused, is left out
abbrev pub calls : List Call
calls =
    opens 0 1
    ∷ delivers 0 (10 ∷ 11 ∷ 12 ∷ [])
    ∷ delivers 1 (99 ∷ [])
    ∷ delivers 0 (98 ∷ [])
    ∷ serves []
    ∷ opens 0 7
    ∷ serves []
    ∷ serves []
    ∷ []

abbrev came : ℕ → List ℕ → Got
came number lent = record { number = number; counts = []; lent = lent }

abbrev pub gots : List Got
gots =
    came 0 []
    ∷ came 0 []
    ∷ came 0 []
    ∷ came 15 []
    ∷ came 18 (told 9 9 9)
    ∷ came 19 []
    ∷ came 0 (told 2 5 7)
    ∷ came 0 (told 1 2 8)
    ∷ []

-- the account, and the answers to its bytes behind the first and behind the second, go by what came and by nothing else
pub account_figure :
    (account_by 0 calls gots
    ≡ record {
      mode = mode_of 1;
      accepted = 10 ∷ 11 ∷ 12 ∷ [];
      taken = 3;
      answered = framed 7 (only 5) ∷ framed 8 (only 2) ∷ [];
    })
    × (answers_behind_by 1 0 calls gots ≡ framed 7 (only 5) ∷ framed 8 (only 2) ∷ [])
    × (answers_behind_by 2 0 calls gots ≡ framed 8 (only 2) ∷ [])
unfolding seen_of entered shown_behind read_turn entry_at read_entry pick
account_figure = (refl, refl, refl)
