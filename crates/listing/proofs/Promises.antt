-- What is promised of the listing: only the statements need to be read. That the program writes the text that
-- `list_next` lays, and nothing else, is no statement: no contract can speak of what is read or written.
use Rattle.std.specs.Prelude.{◌≡◌, List, [], ◌∷◌, ◌++◌, map, ◌||◌, ℕ, ◌≤◌, ◌<◌, T, eqb, ltb, length, get_or, Some}
use Rattle.characters.specs.Answers.{every}
use Rattle.groups.specs.Kinds.{within}
use Rattle.groups.specs.Table.{codes}
use Rattle.line.specs.Lines.{outside}
use Rattle.listing.specs.Listing.{digits, line_for, listing, joined, lines_by_piece}
use Rattle.listing.specs.Shown.{value_from, placed_answers, placed_lines}
use Rattle.capture.specs.Letters.{mode_by}
use Rattle.listing.proofs.Laws.{digits_valued, lines_placed, listing_by_piece, listing_begins, listing_alone}

-- The digits of a number are decimal digits that make it again, and do not begin with a needless zero.
pub digits_exactly : (n : ℕ) → n < 1000
    → T (every (within 0x30 0x39) (digits n)) × (value_from 0 (digits n) ≡ n) × T (eqb (length (digits n)) 1 || ltb 0x30 (get_or (digits n) 0 0))
digits_exactly = digits_valued

-- Document 02, M-104: "a space and the place after 12 and 14", and after no other refusal, as worked lines have it.
pub places_listed : map line_for placed_answers ≡ map codes placed_lines
places_listed = lines_placed

-- However a capture is cut into pieces, the lines of the pieces, one behind the other, are its listing.
pub cut_anywhere : (letter mode : ℕ) → mode_by letter ≡ Some mode → (pieces : List (List ℕ))
    → listing (letter ∷ joined pieces) ≡ lines_by_piece mode outside pieces
cut_anywhere = listing_by_piece

-- A capture that was cut short has a beginning of the whole one's listing.
pub cut_short : (a b : List ℕ) → 1 ≤ length a → (more : List ℕ) × (listing (a ++ b) ≡ listing a ++ more)
cut_short = listing_begins

-- The letter alone has no line at all.
pub letter_alone : (letter mode : ℕ) → mode_by letter ≡ Some mode → listing (letter ∷ []) ≡ []
letter_alone = listing_alone
