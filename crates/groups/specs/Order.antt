-- The order of the labels, and looking one up by halving (document 02, M-107: "Keep it sorted by bytes and halve the range
-- instead, for every mode, with the order of the table tested once over all rows").
use Rattle.std.specs.Prelude.{◌≡◌, ◌⊎◌, Bool, true, false, ◌&&◌, List, [], ◌∷◌, map, ℕ, zero, suc, ◌/◌, ◌<◌, eqb, ltb, take, drop, length, get_or}
use Rattle.std.proofs.Math.Option.{Option, none, some}
use Rattle.characters.specs.Answers.{every, pick}
use Rattle.groups.specs.Formats.{Rule}
use Rattle.groups.specs.Table.{Entry, same}

-- by bytes, the first that differs deciding; a text stands before its own extensions
abbrev pub before : List ℕ → List ℕ → Bool
before a [] = false
before [] (y ∷ b) = true
before (x ∷ a) (y ∷ b) = pick (eqb x y) (before a b) (ltb x y)

-- the same by places: up to some place of the second text the bytes are the same, and there the first one ends, or its byte is
-- the lower one
pub record Before (a b : List ℕ) : Type 0 where
  pub place : ℕ
  pub inside : place < length b
  pub alike : (i : ℕ) → i < place → (i < length a) × (get_or a i 0 ≡ get_or b i 0)
  pub differ : (place ≡ length a) ⊎ ((place < length a) × (get_or a place 0 < get_or b place 0))

-- each stands before all that follow it, by its key
abbrev pub ordered : {A K : Type 0} → (K → K → Bool) → (A → K) → List A → Bool
ordered lt key [] = true
ordered lt key (x ∷ more) = every (λ y. lt (key x) (key y)) more && ordered lt key more

abbrev pub in_order : List Entry → Bool
in_order rows = ordered before (λ e. e.label) rows

-- ---- Halving

abbrev pub middle : List Entry → ℕ
middle rows = length rows / 2

abbrev pub label_at : List Entry → ℕ → List ℕ
label_at rows i = get_or (map (λ e. e.label) rows) i []

-- the rule of a label in a list: so often the half that cannot have it is left out, and then the first row that is left
-- decides
unfoldable pub halving : ℕ → List ℕ → List Entry → Option Rule
halving zero label [] = none
halving zero label (e ∷ more) = pick (same label e.label) (some e.rule) none
halving (suc n) label rows =
    pick (before label (label_at rows (middle rows)))
    (halving n label (take (middle rows) rows))
    (halving n label (drop (middle rows) rows))
