-- Elements that pass a test, from one place up to another: what a loop has seen of a list when no test stopped it.
use Rattle.std.specs.Prelude.{◌≡◌, refl, Bool, true, false, ◌&&◌, List, ℕ, ◌+◌, ◌≤◌, ◌<◌, eqb, get_or}
use Rattle.std.proofs.Common.{arith, eqb-true}
use Rattle.std.proofs.lemmas.Bool.{eqb-false}
use Rattle.characters.specs.Answers.{from_true}

abbrev pub Pass : (ℕ → Bool) → List ℕ → ℕ → ℕ → Type 0
Pass f c from to = (i : ℕ) → from ≤ i → i < to → f (get_or c i 0) ≡ true

-- of none, none fails
pub pass_none : (f : ℕ → Bool) (c : List ℕ) (from : ℕ) → Pass f c from from
pass_none f c from i h k = absurd (omega arith)

-- one more, where the tests so far came out as `so_far`
pub pass_on : (f : ℕ → Bool) (c : List ℕ) (from i : ℕ) (so_far : Bool) → (so_far ≡ true → Pass f c from i)
    → (so_far && f (get_or c i 0)) ≡ true → Pass f c from (i + 1)
pass_on f c from i false before e k h l = absurd (from_true e)
pass_on f c from i true before e k h l = go (eqb k i) refl
  where
    go : (t : Bool) → eqb k i ≡ t → f (get_or c k 0) ≡ true
    go true q = rw (eqb-true k i q) e
    go false q = let other = eqb-false k i q in before refl k h (omega arith)
