-- What owning an array of rows tells: each row has its width.
use mathlib.Core.Path.{◌≡◌}
use mathlib.Core.List.{List, [], ◌∷◌}
use Prim.Native.Nat.{ℕ}
use lib.ListN.{length}
use mir.Syntax.{Width}
use mir.Val.{Val}
use denote.Array.{Array, each}
use denote.Plain.{UInt}
use denote.Shadow.{shadow}
use borrow.Author.Rules.{rules}
use Rattle.station.specs.Memory.{Wide, no_row, one_row}

row_typed : (w : Width) (n : ℕ) (x : List ℕ) (u : Val) → shadow ((Array (UInt w) n).own_val x (u ∷ [])) → length x ≡ n
row_typed w n x u p = search rules

pub wide_typed : (w : Width) (n : ℕ) (xs : List (List ℕ)) (us : List Val)
    → shadow (each (List ℕ) (Array (UInt w) n).own_val xs us) → Wide n xs
wide_typed w n [] us p = no_row
wide_typed w n (x ∷ xs) [] p = absurd p
wide_typed w n (x ∷ xs) (u ∷ us) p = one_row (row_typed w n x u p.0) (wide_typed w n xs us p.1)
