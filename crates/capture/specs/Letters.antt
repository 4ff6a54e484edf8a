-- The letter that a capture begins with (document 01, "The listing"), and the line that it opens.
use Rattle.std.specs.Prelude.{◌≡◌, List, [], ◌∷◌, ℕ, eqb, Option, Some, None}
use Rattle.characters.specs.Answers.{pick}
use Rattle.line.specs.Lines.{outside}
use Rattle.line.specs.State.{line_of, opening_of}
use Rattle.line.specs.declared.LineState.{LineState}

-- "`H` or `S`", as they stand: mode 0 is historic, mode 1 is standard; "`P` begins" a capture of mode 2 (M-100)
unfoldable pub mode_by : ℕ → Option ℕ
mode_by letter = pick (eqb letter 0x48) (Some 0) (pick (eqb letter 0x53) (Some 1) (pick (eqb letter 0x50) (Some 2) None))

-- the line of the mode that a letter stands for
abbrev pub opening_in : Option ℕ → Option LineState
opening_in None = None
opening_in (Some mode) = opening_of mode

-- the line that a capture opens, by what it begins with: none, where it is empty
abbrev pub opening_by : List ℕ → Option LineState
opening_by [] = None
opening_by (letter ∷ bytes) = opening_in (mode_by letter)

-- a line of this mode that has heard nothing yet
pub record Fresh (mode : ℕ) (l : LineState) : Type 0 where
  pub in_mode : l.mode ≡ mode
  pub is_outside : (content : List ℕ) → line_of l content ≡ outside
