-- Calls that are refused on every station, whatever its lines are: 16, 19 and 18; and what a call leaves and tells is
-- what the contracts of the code say of it.
use Rattle.std.specs.Prelude.{◌≡◌, refl, List, [], ℕ, ◌≤◌, ◌<◌, length}
use Rattle.std.proofs.Common.{lt-ltb, le-ltb}
use Rattle.std.proofs.lemmas.Bool.{lt-leb}
use Rattle.characters.specs.Answers.{refused, need}
use Rattle.groups.proofs.Laws.Unknown.{not_mode}
use Rattle.line.proofs.Laws.Openings.{opening_unknown}
use Rattle.station.specs.Numbers.{number_of}
use Rattle.station.specs.Stations.{called, opening, delivering}
use Rattle.station.specs.Sheets.{smallest_sheet}
use Rattle.station.specs.Rounds.{turns, round, counts_of}
use Rattle.station.specs.History.{opens, delivers, serves, next, gets}
use Rattle.station.specs.Records.{Station}
use Rattle.station.specs.declared.Refusal.TheVariants.{LineUnknown, SheetShort, ModeUnknown}

-- ---- Refusals

module _ (s : Station) (line mode : ℕ) where
  -- "16: line number 8 or more", whatever the mode
  pub opening_no_line : 8 ≤ line → opening s line mode ≡ refused LineUnknown
  unfolding opening need
  opening_no_line h = rw (le-ltb line 8 h)

  -- "19: a mode not 0 to 2"
  pub opening_no_mode : line < 8 → 3 ≤ mode → opening s line mode ≡ refused ModeUnknown
  unfolding opening need
  opening_no_mode h k = rw (lt-ltb line 8 h, opening_unknown mode (not_mode mode k))

-- 16 again
pub delivering_no_line : (s : Station) (line : ℕ) (bytes : List ℕ) → 8 ≤ line
    → delivering s line bytes ≡ refused LineUnknown
unfolding delivering need
delivering_no_line s line bytes h = rw (le-ltb line 8 h)

-- "18: sheet under 1,096 bytes"
pub turns_no_sheet : (s : Station) (sheet : List ℕ) → length sheet < smallest_sheet → turns s sheet ≡ refused SheetShort
unfolding turns need
turns_no_sheet s sheet h = rw (lt-leb smallest_sheet (length sheet) h)

-- ---- Calls

module _ (s : Station) (line : ℕ) where
  pub opens_called : (mode : ℕ)
      → (next s (opens line mode) ≡ (called s (opening s line mode)).station)
      × ((gets s (opens line mode)).number ≡ number_of (called s (opening s line mode)).reply)
  unfolding next gets
  opens_called mode = (refl, refl)

  -- all that its caller has of an opening is its number
  pub opens_got : (mode number : ℕ) → number ≡ (gets s (opens line mode)).number
      → record { number = number; counts = []; lent = [] } ≡ gets s (opens line mode)
  unfolding gets
  opens_got mode number e = rw e

  pub delivers_called : (bytes : List ℕ)
      → (next s (delivers line bytes) ≡ (called s (delivering s line bytes)).station)
      × ((gets s (delivers line bytes)).number ≡ number_of (called s (delivering s line bytes)).reply)
  unfolding next gets
  delivers_called bytes = (refl, refl)

  -- and of a delivery its number and the bytes that were lent
  pub delivers_got : (bytes : List ℕ) (number : ℕ) → number ≡ (gets s (delivers line bytes)).number
      → record { number = number; counts = []; lent = bytes } ≡ gets s (delivers line bytes)
  unfolding gets
  delivers_got bytes number e = rw e

pub serves_round : (s : Station) (sheet : List ℕ)
    → (next s (serves sheet) ≡ (round s sheet).result.station)
    × ((gets s (serves sheet)).number ≡ number_of (round s sheet).result.told)
    × ((gets s (serves sheet)).lent ≡ (round s sheet).sheet)
    × ((gets s (serves sheet)).counts ≡ counts_of (round s sheet).result.told)
unfolding next gets
serves_round s sheet = (refl, refl, refl, refl)
