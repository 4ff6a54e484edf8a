-- An answer of a line as document 01 tells it: in its table of numbers, on a sheet and in the listing.
use Rattle.std.proofs.Math.Option.{Option, none, some}
use Rattle.std.specs.Prelude.{List, [], ◌∷◌, map, ℕ}
use Rattle.groups.specs.Groups.{Group}

-- "answer number .. then label, stamp and data"; for a refusal "the fourth byte holds this place" (document 02, M-104)
pub record Entry : Type 0 where
  pub number : ℕ
  pub label : List ℕ
  pub stamp : List ℕ
  pub «data» : List ℕ
  pub place : ℕ

-- "1: group accepted"
abbrev pub accepted : Group → Entry
accepted g = record { number = 1; label = g.label; stamp = g.stamp; «data» = g.«data»; place = 0 }

-- "All but answer 1 have three zeros and no text", a refusal of a group apart, which has a place
abbrev pub refused_at : ℕ → ℕ → Entry
refused_at n place = record { number = n; label = []; stamp = []; «data» = []; place = place }

abbrev pub only : ℕ → Entry
only n = refused_at n 0

-- "Every sheet entry carries it": an answer, or a line, with the number of its frame (document 02, M-108)
pub record Framed (A : Type 0) : Type 0 where
  pub frame : ℕ
  pub what : A

module _ {A : Type 0} where
  abbrev pub framed : ℕ → A → Framed A
  framed n a = record { frame = n; what = a }

  abbrev pub framed_if : ℕ → Option A → Option (Framed A)
  framed_if n none = none
  framed_if n (some a) = some (framed n a)

  -- answers without the numbers of their frames, in order
  abbrev pub unframed : List (Framed A) → List A
  unframed all = map (λ (a : Framed A). a.what) all

  -- "Each byte gives at most one answer": one, or none, as a list
  abbrev pub entry_list : Option A → List A
  entry_list none = []
  entry_list (some e) = e ∷ []

  -- the first of some, if there is one
  abbrev pub first_entry : List A → Option A
  first_entry [] = none
  first_entry (e ∷ more) = some e

-- the number of an answer; 0 stands for none, which document 01 gives no number (its 0 is for calls)
abbrev pub number_in : Option Entry → ℕ
number_in none = 0
number_in (some e) = e.number

-- and its place, with none too
abbrev pub place_in : Option Entry → ℕ
place_in none = 0
place_in (some e) = e.place
