-- What is promised of the letters: only the statements need to be read.
use Rattle.std.specs.Prelude.{◌≡◌, [], ◌∷◌, map, ℕ, Some, None}
use Rattle.groups.specs.Table.{codes}
use Rattle.line.specs.declared.LineState.{LineState}
use Rattle.capture.specs.Letters.{Fresh, mode_by, opening_in}
use Rattle.capture.proofs.Laws.{letters_known, letter_unknown, opened_fresh}

-- "`H` or `S`", and "`P` begins such a capture" (M-100): these letters begin captures of modes 0, 1 and 2.
pub letters_exactly : map mode_by (codes "HSP") ≡ Some 0 ∷ Some 1 ∷ Some 2 ∷ []
letters_exactly = letters_known

-- No other byte begins a capture.
pub no_other_letter : (letter : ℕ) → (letter ≡ 0x48 → ⊥) → (letter ≡ 0x53 → ⊥) → (letter ≡ 0x50 → ⊥) → mode_by letter ≡ None
no_other_letter = letter_unknown

-- A line that a letter opens is of the letter's mode, and has heard nothing yet.
pub opened_by_letter : (letter : ℕ) (l : LineState) → opening_in (mode_by letter) ≡ Some l
    → (mode : ℕ) × (mode_by letter ≡ Some mode) × Fresh mode l
opened_by_letter = opened_fresh
