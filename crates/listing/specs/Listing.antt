-- The listing of a capture (document 01, "The listing").
use Rattle.std.specs.Prelude.{◌||◌, List, [], ◌∷◌, ◌++◌, ℕ, ◌+◌, ◌/◌, ◌%◌, eqb, ltb, Option, Some, None}
use Rattle.capture.specs.Letters.{mode_by}
use Rattle.characters.specs.Answers.{refused, given, pick}
use Rattle.characters.specs.Wire.{LF, SP}
use Rattle.groups.specs.Groups.{Group}
use Rattle.line.specs.Lines.{LineAnswer, State, after, answers, outside}
use Rattle.line.specs.Numbers.{number_of_notice, place_of_notice, number_of_answer}

-- "the number", in digits: no number in document 01 has more than two, and no place, which fits a byte, more than three
unfoldable pub digits : ℕ → List ℕ
digits n =
    pick (ltb n 10) ((0x30 + n) ∷ [])
    (pick (ltb n 100) ((0x30 + n / 10) ∷ (0x30 + n % 10) ∷ [])
    ((0x30 + n / 100) ∷ (0x30 + n / 10 % 10) ∷ (0x30 + n % 10) ∷ []))

-- "stamp or `-`": an absent stamp is empty
abbrev pub stamp_or_dash : List ℕ → List ℕ
stamp_or_dash [] = 0x2D ∷ []
stamp_or_dash (x ∷ xs) = x ∷ xs

-- "a space, label, space, stamp or `-`, space, data"
unfoldable pub fields_shown : Group → List ℕ
fields_shown g = SP ∷ (g.label ++ SP ∷ (stamp_or_dash g.stamp ++ SP ∷ g.«data»))

-- "The listing prints a space and the place after 12 and 14" (document 02, M-104)
unfoldable pub place_shown : ℕ → ℕ → List ℕ
place_shown n place = pick (eqb n 12 || eqb n 14) (SP ∷ digits place) []

-- "for 1 also .."
abbrev pub also : LineAnswer → List ℕ
also (refused notice) = place_shown (number_of_notice notice) (place_of_notice notice)
also (given g) = fields_shown g

-- "a line per answer": the line of one answer, and those of several
unfoldable pub line_for : LineAnswer → List ℕ
line_for a = digits (number_of_answer a) ++ (also a ++ LF ∷ [])

unfoldable pub lines_for : List LineAnswer → List ℕ
lines_for [] = []
lines_for (a ∷ more) = line_for a ++ lines_for more

-- "Bad capture: `20`"
abbrev pub bad : List ℕ
bad = digits 20 ++ LF ∷ []

abbrev pub listing_in : Option ℕ → List ℕ → List ℕ
listing_in None bytes = bad
listing_in (Some mode) bytes = lines_for (answers mode outside bytes)

-- all that is written for all that is read; bad is a "capture empty or not begun by H, S or P"
unfoldable pub listing : List ℕ → List ℕ
listing [] = bad
listing (letter ∷ bytes) = listing_in (mode_by letter) bytes

-- ---- A capture that comes in pieces

abbrev pub joined : List (List ℕ) → List ℕ
joined [] = []
joined (piece ∷ more) = piece ++ joined more

-- for each piece the lines of its answers, on the line as the pieces before it leave it
unfoldable pub lines_by_piece : ℕ → State → List (List ℕ) → List ℕ
lines_by_piece mode s [] = []
lines_by_piece mode s (piece ∷ more) = lines_for (answers mode s piece) ++ lines_by_piece mode (after mode s piece) more
