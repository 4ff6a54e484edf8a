-- The laws behind the promises. Nobody has to believe them: they are checked.
use Rattle.std.specs.Prelude.{◌≡◌, refl, true, ◌&&◌, ◌||◌, List, [], ◌∷◌, ◌++◌, map, ℕ, ◌+◌, ◌/◌, ◌%◌, ◌≤◌, ◌<◌, T, eqb, leb, ltb, length, get_or, Option, Some, None}
use Rattle.std.proofs.Common.{sym, ap, ◌∙◌, append_assoc, append-nil, arith, le→leb, lt→ltb, ltb→lt, nltb→le}
use Rattle.std.proofs.Math.Facts.{yes_and}
use Rattle.characters.specs.Answers.{every, pick, by_pick}
use Rattle.groups.specs.Kinds.{within}
use Rattle.groups.specs.Table.{codes}
use Rattle.line.specs.Lines.{LineAnswer, State, after, answers, outside}
use Rattle.line.proofs.Laws.Bytes.{answers_append}
use Rattle.line.proofs.Laws.Until.{answers_none}
use Rattle.capture.specs.Letters.{mode_by}
use Rattle.listing.specs.Listing.{digits, place_shown, line_for, lines_for, listing_in, listing, joined, lines_by_piece}
use Rattle.listing.specs.Shown.{value_from, placed_answers, placed_lines}

-- the lines of answers behind each other
lines_append : (a b : List LineAnswer) → lines_for (a ++ b) ≡ lines_for a ++ lines_for b
unfolding lines_for
lines_append [] b = refl
lines_append (x ∷ a) b =
    ap (λ (text : List ℕ). line_for x ++ text) (lines_append a b)
    ∙ sym (append_assoc (line_for x) (lines_for a) (lines_for b))

-- the lines of bytes behind each other
lines_of_both : (mode : ℕ) (s : State) (a b : List ℕ)
    → lines_for (answers mode s (a ++ b)) ≡ lines_for (answers mode s a) ++ lines_for (answers mode (after mode s a) b)
lines_of_both mode s a b = ap lines_for (answers_append mode s a b) ∙ lines_append _ _

-- no bytes have no lines
lines_none : (mode : ℕ) (s : State) → lines_for (answers mode s []) ≡ []
unfolding lines_for
lines_none mode s = ap lines_for (answers_none mode s)

-- pieces have the lines of the whole
pub pieces_join : (mode : ℕ) (s : State) (pieces : List (List ℕ))
    → lines_for (answers mode s (joined pieces)) ≡ lines_by_piece mode s pieces
unfolding lines_by_piece
pieces_join mode s [] = lines_none mode s
pieces_join mode s (piece ∷ more) =
    lines_of_both mode s piece (joined more)
    ∙ ap (λ (text : List ℕ). lines_for (answers mode s piece) ++ text) (pieces_join mode (after mode s piece) more)

-- so has a capture behind its letter
pub listing_by_piece : (letter mode : ℕ) → mode_by letter ≡ Some mode → (pieces : List (List ℕ))
    → listing (letter ∷ joined pieces) ≡ lines_by_piece mode outside pieces
unfolding listing
listing_by_piece letter mode e pieces = rw e (pieces_join mode outside pieces)

-- and a letter alone has none
pub listing_alone : (letter mode : ℕ) → mode_by letter ≡ Some mode → listing (letter ∷ []) ≡ []
unfolding listing
listing_alone letter mode e = rw e (lines_none mode outside)

-- what begins a capture prints what begins its listing
begins_in : (o : Option ℕ) (a b : List ℕ) → (more : List ℕ) × (listing_in o (a ++ b) ≡ listing_in o a ++ more)
begins_in None a b = ([], sym (append-nil _))
begins_in (Some mode) a b = (_, lines_of_both mode outside a b)

pub listing_begins : (a b : List ℕ) → 1 ≤ length a → (more : List ℕ) × (listing (a ++ b) ≡ listing a ++ more)
unfolding listing
listing_begins [] b h = absurd (omega arith)
listing_begins (letter ∷ a) b h = begins_in (mode_by letter) a b

-- ---- Numbers and places

-- a property of digits, for each count of them
by_digits : (P : List ℕ → Type 0) (n : ℕ) → (n < 10 → P ((0x30 + n) ∷ []))
    → (10 ≤ n → n < 100 → P ((0x30 + n / 10) ∷ (0x30 + n % 10) ∷ []))
    → (100 ≤ n → P ((0x30 + n / 100) ∷ (0x30 + n / 10 % 10) ∷ (0x30 + n % 10) ∷ [])) → P (digits n)
unfolding digits
by_digits P n one two three =
    by_pick P (ltb n 10) _ _ (λ t. one (ltb→lt n 10 t))
    (λ t. by_pick P (ltb n 100) _ _ (λ u. two (nltb→le n 10 t) (ltb→lt n 100 u)) (λ u. three (nltb→le n 100 u)))

is_digit : (k : ℕ) → k < 10 → T (within 0x30 0x39 (0x30 + k))
is_digit k h = yes_and (leb 0x30 (0x30 + k)) (leb (0x30 + k) 0x39) (le→leb 0x30 (0x30 + k) (omega arith)) (le→leb (0x30 + k) 0x39 (omega arith))

pub digits_valued : (n : ℕ) → n < 1000
    → T (every (within 0x30 0x39) (digits n)) × (value_from 0 (digits n) ≡ n) × T (eqb (length (digits n)) 1 || ltb 0x30 (get_or (digits n) 0 0))
digits_valued n h =
    by_digits
    (λ (ds : List ℕ). T (every (within 0x30 0x39) ds) × (value_from 0 ds ≡ n) × T (eqb (length ds) 1 || ltb 0x30 (get_or ds 0 0))) n
    (λ k. (yes_and (within 0x30 0x39 (0x30 + n)) true (is_digit n k) tt, omega arith, tt))
    (λ k j. (
      yes_and (within 0x30 0x39 (0x30 + n / 10)) (within 0x30 0x39 (0x30 + n % 10) && true) (is_digit (n / 10) (omega arith))
          (yes_and (within 0x30 0x39 (0x30 + n % 10)) true (is_digit (n % 10) (omega arith)) tt),
      omega arith,
      lt→ltb 0x30 (0x30 + n / 10) (omega arith),
    ))
    (λ k. (
      yes_and (within 0x30 0x39 (0x30 + n / 100)) (within 0x30 0x39 (0x30 + n / 10 % 10) && (within 0x30 0x39 (0x30 + n % 10) && true))
          (is_digit (n / 100) (omega arith))
          (yes_and (within 0x30 0x39 (0x30 + n / 10 % 10)) (within 0x30 0x39 (0x30 + n % 10) && true) (is_digit (n / 10 % 10) (omega arith))
          (yes_and (within 0x30 0x39 (0x30 + n % 10)) true (is_digit (n % 10) (omega arith)) tt)),
      omega arith,
      lt→ltb 0x30 (0x30 + n / 100) (omega arith),
    ))

pub lines_placed : map line_for placed_answers ≡ map codes placed_lines
unfolding line_for place_shown digits pick
lines_placed = refl
