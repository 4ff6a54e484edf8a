-- A byte with one of its bits changed.
use Rattle.std.specs.Prelude.{ℕ, ◌+◌, ◌-◌, ◌/◌, ◌%◌, ◌^◌, eqb}
use Rattle.characters.specs.Answers.{pick}

-- a one becomes a zero, and a zero a one
unfoldable pub damaged : ℕ → ℕ → ℕ
damaged bit wire = pick (eqb (wire / 2 ^ bit % 2) 1) (wire - 2 ^ bit) (wire + 2 ^ bit)
