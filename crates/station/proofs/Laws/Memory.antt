-- The station in the caller's memory, line by line: line i is that of row i, and rows stored are a line stored.
use Rattle.std.specs.Prelude.{◌≡◌, refl, List, [], ◌∷◌, ℕ, zero, suc, ◌<◌, length, get_or, set}
use Rattle.std.proofs.Common.{ap, arith}
use Rattle.station.specs.Stations.{zero_line}
use Rattle.station.specs.Records.{StationLine}
use Rattle.station.specs.Memory.{Memory, line_from, lines_from}

pub line_at_lem : (ms ps cs bs : List (List ℕ)) (i : ℕ) → i < length ms → i < length ps → i < length cs → i < length bs
    → get_or (lines_from ms ps cs bs) i (zero_line [] [])
    ≡ line_from (get_or ms i []) (get_or ps i []) (get_or cs i []) (get_or bs i [])
unfolding lines_from
line_at_lem [] ps cs bs i hm hp hc hb = absurd (omega arith)
line_at_lem (m ∷ ms) [] cs bs i hm hp hc hb = absurd (omega arith)
line_at_lem (m ∷ ms) (p ∷ ps) [] bs i hm hp hc hb = absurd (omega arith)
line_at_lem (m ∷ ms) (p ∷ ps) (c ∷ cs) [] i hm hp hc hb = absurd (omega arith)
line_at_lem (m ∷ ms) (p ∷ ps) (c ∷ cs) (b ∷ bs) zero hm hp hc hb = refl
line_at_lem (m ∷ ms) (p ∷ ps) (c ∷ cs) (b ∷ bs) (suc i) hm hp hc hb =
    line_at_lem ms ps cs bs i (omega arith) (omega arith) (omega arith) (omega arith)

pub line_set : (ms ps cs bs : List (List ℕ)) (i : ℕ) (m p c b : List ℕ)
    → lines_from (set ms i m) (set ps i p) (set cs i c) (set bs i b) ≡ set (lines_from ms ps cs bs) i (line_from m p c b)
unfolding lines_from
line_set [] ps cs bs i m p c b = refl
line_set (x ∷ ms) [] cs bs zero m p c b = refl
line_set (x ∷ ms) [] cs bs (suc i) m p c b = refl
line_set (x ∷ ms) (y ∷ ps) [] bs zero m p c b = refl
line_set (x ∷ ms) (y ∷ ps) [] bs (suc i) m p c b = refl
line_set (x ∷ ms) (y ∷ ps) (z ∷ cs) [] zero m p c b = refl
line_set (x ∷ ms) (y ∷ ps) (z ∷ cs) [] (suc i) m p c b = refl
line_set (x ∷ ms) (y ∷ ps) (z ∷ cs) (w ∷ bs) zero m p c b = refl
line_set (x ∷ ms) (y ∷ ps) (z ∷ cs) (w ∷ bs) (suc i) m p c b =
    ap (λ (ls : List StationLine). line_from x y z w ∷ ls) (line_set ms ps cs bs i m p c b)

-- each of the four arrays has eight rows
pub record EightRows (m : Memory) : Type 0 where
  pub marks : length m.marks ≡ 8
  pub places : length m.places ≡ 8
  pub contents : length m.contents ≡ 8
  pub inboxes : length m.inboxes ≡ 8

-- each of eight lines has its rows
pub row_inside : (m : Memory) → EightRows m → (i : ℕ) → i < 8
    → (i < length m.marks) × (i < length m.places) × (i < length m.contents) × (i < length m.inboxes)
row_inside m z i h = (
  omega (arith, z.marks, h),
  omega (arith, z.places, h),
  omega (arith, z.contents, h),
  omega (arith, z.inboxes, h),
)
