-- How long the parts of a line are.
use Rattle.std.proofs.Common.{◌≡◌, refl, List, [], ◌∷◌, ℕ, ◌+◌, ◌≤◌, length, arith}
use Rattle.std.specs.Prelude.{ltb}
use Rattle.characters.specs.Answers.{pick, by_pick}
use Rattle.listing.specs.Listing.{digits, stamp_or_dash, place_shown}

-- what is shown of a stamp has one byte at least
pub dash_length : (stamp : List ℕ) → length (stamp_or_dash stamp) ≤ 1 + length stamp
dash_length [] = omega arith
dash_length (x ∷ xs) = omega arith

-- the number 1 is one byte
pub one_short : length (digits 1) ≡ 1
unfolding digits pick
one_short = refl

-- no number has more than three digits
pub digits_short : (n : ℕ) → length (digits n) ≤ 3
unfolding digits
digits_short n =
    by_pick (λ (text : List ℕ). length text ≤ 3) (ltb n 10) _ _ (λ t. omega arith)
    (λ t. by_pick (λ (text : List ℕ). length text ≤ 3) (ltb n 100) _ _ (λ t. omega arith) (λ t. omega arith))

-- and no place more than those and a space
pub place_short : (n place : ℕ) → length (place_shown n place) ≤ 4
unfolding place_shown
place_short n place =
    by_pick (λ (text : List ℕ). length text ≤ 4) _ _ _ (λ t. omega (arith, digits_short place)) (λ t. omega arith)
