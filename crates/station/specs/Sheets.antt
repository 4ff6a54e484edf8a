-- The sheet of a round (document 01, "The station"): eight counts, eight offsets, and the entries.
use Rattle.std.proofs.Math.Option.{Option, none, some}
use Rattle.std.specs.Prelude.{List, [], ◌∷◌, ◌++◌, map, ℕ, ◌+◌, ◌%◌, ◌/◌, eqb, length}
use Rattle.characters.specs.Answers.{pick}
use Rattle.line.specs.Entries.{Entry, Framed}

-- what a round tells of one line's turn: how many bytes it took, and its answer, if it gave one
pub record Told : Type 0 where
  pub count : ℕ
  pub entry : Option (Framed Entry)

-- the turn of a line that is closed, or on which nothing waits
abbrev pub idle : Told
idle = record { count = 0; entry = none }

-- "In a sheet entry for a refusal the fourth byte holds this place instead of zero" (document 02, M-104)
abbrev pub fourth_byte : Entry → ℕ
fourth_byte e = pick (eqb e.number 1) (length e.«data») e.place

-- "16 bits, low byte first"
unfoldable pub two_bytes : ℕ → List ℕ
two_bytes n = n % 256 ∷ n / 256 % 256 ∷ []

-- "An entry is answer number, label length, stamp length, data length, then label, stamp and data."; and the frame number
-- "two bytes, low byte first, before the text" (document 02, M-108)
abbrev pub head_of : Entry → List ℕ
head_of e = e.number ∷ length e.label ∷ length e.stamp ∷ fourth_byte e ∷ []

abbrev pub text_of : Entry → List ℕ
text_of e = e.label ++ (e.stamp ++ e.«data»)

unfoldable pub entry_bytes : Framed Entry → List ℕ
entry_bytes e = head_of e.what ++ (two_bytes e.frame ++ text_of e.what)

abbrev pub entry_of : Option (Framed Entry) → List ℕ
entry_of none = []
entry_of (some e) = entry_bytes e

-- "The lent sheet must have at least" 1,080 bytes in document 01: "The smallest sheet, and so 18, is now at 1,096 bytes."
abbrev pub smallest_sheet : ℕ
smallest_sheet = 1096

-- "0 where a line has no answer"
abbrev pub offset_of : Option (Framed Entry) → ℕ → ℕ
offset_of none at = 0
offset_of (some e) at = at

-- the offsets of turns whose entries follow from a place on, "in line order, without gaps"
abbrev pub offsets : ℕ → List Told → List ℕ
offsets at [] = []
offsets at (t ∷ ts) = offset_of t.entry at ∷ offsets (at + length (entry_of t.entry)) ts

module _ {A : Type 0} where
  -- one behind the other
  abbrev pub joined : (A → List ℕ) → List A → List ℕ
  joined f [] = []
  joined f (x ∷ xs) = f x ++ joined f xs

abbrev pub counts : List Told → List ℕ
counts ts = map (λ (t : Told). t.count) ts

abbrev pub entries : List Told → List ℕ
entries ts = joined (λ (t : Told). entry_of t.entry) ts

-- "bytes 0 to 7 are those eight counts; bytes 8 to 23 are eight offsets .. entries follow from byte 24"
unfoldable pub sheet_of : List Told → List ℕ
sheet_of ts = counts ts ++ (joined two_bytes (offsets 24 ts) ++ entries ts)
