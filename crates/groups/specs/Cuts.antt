-- A text cut at the first character of a code, and a text without its last two.
use Rattle.std.proofs.Math.Option.{Option, none, some}
use Rattle.std.specs.Prelude.{List, [], ◌∷◌, ℕ, eqb}
use Rattle.characters.specs.Answers.{pick}

pub record Cut : Type 0 where
  pub before : List ℕ
  pub after : List ℕ

abbrev pub also : ℕ → Option Cut → Option Cut
also x none = none
also x (some c) = some (record { before = x ∷ c.before; after = c.after })

-- what stands before the first s and what stands after it; none where there is no s
unfoldable pub cut : ℕ → List ℕ → Option Cut
cut s [] = none
cut s (x ∷ xs) = pick (eqb x s) (some (record { before = []; after = xs })) (also x (cut s xs))

pub record Ending : Type 0 where
  pub front : List ℕ
  pub last : ℕ

abbrev pub ahead : ℕ → Option Ending → Option Ending
ahead x none = none
ahead x (some e) = some (record { front = x ∷ e.front; last = e.last })

-- the text without its last two characters, and the last one, where the last but one is s; none otherwise
unfoldable pub ending : ℕ → List ℕ → Option Ending
ending s [] = none
ending s (x ∷ []) = none
ending s (x ∷ y ∷ []) = pick (eqb x s) (some (record { front = []; last = y })) none
ending s (x ∷ y ∷ z ∷ zs) = ahead x (ending s (y ∷ z ∷ zs))
