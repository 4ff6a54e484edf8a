-- What the contracts of the functions that take bytes in a row cite: what is left then leads to the same result. No row has
-- an STX, so a line keeps its frame number. No promise rests on a reader's belief in these.
use Rattle.std.specs.Prelude.{◌≡◌, Bool, true, false, ◌&&◌, ◌||◌, List, ◌++◌, map, ℕ, ◌+◌, ◌≤◌, ◌<◌, eqb, leb, length, get_or, take, drop}
use Rattle.characters.specs.Wire.{is_sound, character_of, HT, SP}
use Rattle.line.specs.Symbols.{symbol_of}
use Rattle.line.specs.State.{state_of, written}
use Rattle.line.specs.Steps.{fed}
use Rattle.line.specs.declared.rules.Symbol.{Symbol}
use Rattle.line.specs.declared.rules.Symbol.TheVariants.{Stx, Etx, Eot, Lf, Cr, Damaged, Text}
use Rattle.line.specs.declared.rules.Phase.{Phase}
use Rattle.line.specs.declared.rows.Run.{Run}
use Rattle.line.specs.declared.state.Line.{Line}

-- ---- The characters of a group

-- a sound byte of a character that is no control character, or of HT
unfoldable pub is_plain_byte : ℕ → Bool
is_plain_byte byte = is_sound byte && (leb SP (character_of byte) || eqb byte HT)

-- so many bytes at the front are characters, and each is laid at its place
pub record Lays (old bytes : List ℕ) (count : ℕ) (new : List ℕ) : Type 0 where
  pub most : count ≤ length bytes
  pub room : count ≤ length old
  pub texts : (k : ℕ) → k < count → symbol_of (get_or bytes k 0) ≡ Text (character_of (get_or bytes k 0))
  pub laid : new ≡ map character_of (take count bytes) ++ drop count old

-- the same from a place on: where so many were laid before, more are then
abbrev pub LaysOn : List ℕ → ℕ → List ℕ → ℕ → List ℕ → Type 0
LaysOn bytes i g j left = (old : List ℕ) → Lays old bytes i g → Lays old bytes j left

-- ---- Bytes outside of groups

-- in a frame and no group, what gives no answer and opens no group
abbrev pub goes_on : Symbol → Bool
goes_on Stx = false
goes_on Etx = false
goes_on Eot = false
goes_on Lf = false
goes_on Cr = true
goes_on Damaged = true
goes_on (Text c) = true

-- so many bytes at the front, which lead a line without content from one phase to another
pub record Passes (p : Phase) (bytes : List ℕ) (q : Phase) (count : ℕ) : Type 0 where
  pub most : count ≤ length bytes
  pub goes : (mode frame n : ℕ) (content : List ℕ)
      → fed n (state_of mode frame p 0) content bytes
      ≡ fed (n + count) (state_of mode frame q 0) content (drop count bytes)

-- ---- A line that takes them

-- the bytes at the front that were taken, on a line with this content
pub record Runs (l : Line) (content bytes : List ℕ) (r : Run) (left : List ℕ) : Type 0 where
  pub most : r.count ≤ length bytes
  pub goes : (n : ℕ) → fed n (written l) content bytes ≡ fed (n + r.count) (written r.line) left (drop r.count bytes)
