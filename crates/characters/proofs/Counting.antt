-- The language's own count of ones is the sum of the eight binary digits, for every byte.
use mathlib.Core.Path.{◌≡◌}
use Prim.Native.Nat.{ℕ, ◌<◌}
use lib.Count.{ones, ones_in}
use lib.Dec.{eqb, eqb→eq}
use Rattle.characters.specs.Answers.{below_at}
use Rattle.characters.specs.Wire.{count_of_ones}

pub ones_counted : (byte : ℕ) → byte < 256 → ones byte ≡ count_of_ones byte
unfolding ones ones_in count_of_ones
ones_counted byte h = eqb→eq _ _ (below_at (λ k. eqb (ones k) (count_of_ones k)) 256 tt byte h)
