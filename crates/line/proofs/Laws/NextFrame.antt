-- The number behind a number, case by case.
use Rattle.std.specs.Prelude.{◌≡◌, ℕ, ◌+◌}
use Rattle.std.proofs.Common.{eq-eqb, ne_eqb}
use native.Mathlib.Omega.{arith}
use Rattle.characters.specs.Answers.{pick}
use Rattle.line.specs.FrameNumbers.{next_frame}

-- the last number, and every other
pub next_last : (n : ℕ) → n ≡ 65535 → next_frame n ≡ 0
unfolding next_frame pick
next_last n e = rw (eq-eqb n 65535 e)

pub next_other : (n : ℕ) → (n ≡ 65535 → ⊥) → next_frame n ≡ n + 1
unfolding next_frame pick
next_other n h = rw (ne_eqb n 65535 h) (omega arith)
