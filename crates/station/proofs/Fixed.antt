-- The record of a station leaves nothing of its memory out: two memories of the sizes that their types give, which hold
-- the same station, are the same in every number and byte. So a contract that is an equation between stations fixes all
-- that was lent.
use Rattle.std.specs.Prelude.{◌≡◌, refl, List, [], ◌∷◌, map, ℕ, zero, suc, length}
use Rattle.std.proofs.Common.{sym, ap, ap₂, ◌∙◌, arith}
use Rattle.station.specs.Stations.{all_closed}
use Rattle.station.specs.Records.{StationLine, Station}
use Rattle.station.specs.Memory.{Memory, of_rows, line_from, lines_from, station_in, zeros, Wide, one_row, Sized}

-- the rows of a line
abbrev marks_of : StationLine → List ℕ
marks_of l =
    l.opened ∷ l.state.mode ∷ l.state.phase ∷ l.state.flaw ∷ l.state.damaged ∷ l.state.overlong ∷ []

abbrev places_of : StationLine → List ℕ
places_of l = l.state.length ∷ l.first ∷ l.count ∷ l.state.frame ∷ []

-- the memory of some lines
abbrev memory_of : List StationLine → Memory
memory_of ls =
    of_rows (map marks_of ls) (map places_of ls) (map (λ (l : StationLine). l.content) ls)
    (map (λ (l : StationLine). l.inbox) ls)

-- each mark and each place is one of the line's numbers
six_marks : (x p c b : List ℕ) → length x ≡ 6 → marks_of (line_from x p c b) ≡ x
six_marks [] p c b h = absurd (omega arith)
six_marks (a1 ∷ []) p c b h = absurd (omega arith)
six_marks (a1 ∷ a2 ∷ []) p c b h = absurd (omega arith)
six_marks (a1 ∷ a2 ∷ a3 ∷ []) p c b h = absurd (omega arith)
six_marks (a1 ∷ a2 ∷ a3 ∷ a4 ∷ []) p c b h = absurd (omega arith)
six_marks (a1 ∷ a2 ∷ a3 ∷ a4 ∷ a5 ∷ []) p c b h = absurd (omega arith)
six_marks (a1 ∷ a2 ∷ a3 ∷ a4 ∷ a5 ∷ a6 ∷ []) p c b h = refl
six_marks (a1 ∷ a2 ∷ a3 ∷ a4 ∷ a5 ∷ a6 ∷ a7 ∷ x) p c b h = absurd (omega arith)

four_places : (m x c b : List ℕ) → length x ≡ 4 → places_of (line_from m x c b) ≡ x
four_places m [] c b h = absurd (omega arith)
four_places m (a1 ∷ []) c b h = absurd (omega arith)
four_places m (a1 ∷ a2 ∷ []) c b h = absurd (omega arith)
four_places m (a1 ∷ a2 ∷ a3 ∷ []) c b h = absurd (omega arith)
four_places m (a1 ∷ a2 ∷ a3 ∷ a4 ∷ []) c b h = refl
four_places m (a1 ∷ a2 ∷ a3 ∷ a4 ∷ a5 ∷ x) c b h = absurd (omega arith)

-- the four arrays are those of their lines
record Back (ms ps cs bs : List (List ℕ)) : Type 0 where
  marks_are : map marks_of (lines_from ms ps cs bs) ≡ ms
  places_are : map places_of (lines_from ms ps cs bs) ≡ ps
  contents_are : map (λ (l : StationLine). l.content) (lines_from ms ps cs bs) ≡ cs
  inboxes_are : map (λ (l : StationLine). l.inbox) (lines_from ms ps cs bs) ≡ bs

rows_back : (n : ℕ) (ms ps cs bs : List (List ℕ)) → length ms ≡ n → length ps ≡ n → length cs ≡ n → length bs ≡ n
    → Wide 6 ms → Wide 4 ps → Back ms ps cs bs
unfolding lines_from
rows_back zero [] [] [] [] em ep ec eb wm wp =
    record { marks_are = refl; places_are = refl; contents_are = refl; inboxes_are = refl }
rows_back zero [] [] [] (b ∷ bs) em ep ec eb wm wp = absurd (omega arith)
rows_back zero [] [] (c ∷ cs) bs em ep ec eb wm wp = absurd (omega arith)
rows_back zero [] (p ∷ ps) cs bs em ep ec eb wm wp = absurd (omega arith)
rows_back zero (m ∷ ms) ps cs bs em ep ec eb wm wp = absurd (omega arith)
rows_back (suc n) [] ps cs bs em ep ec eb wm wp = absurd (omega arith)
rows_back (suc n) (m ∷ ms) [] cs bs em ep ec eb wm wp = absurd (omega arith)
rows_back (suc n) (m ∷ ms) (p ∷ ps) [] bs em ep ec eb wm wp = absurd (omega arith)
rows_back (suc n) (m ∷ ms) (p ∷ ps) (c ∷ cs) [] em ep ec eb wm wp = absurd (omega arith)
rows_back (suc n) (m ∷ ms) (p ∷ ps) (c ∷ cs) (b ∷ bs) em ep ec eb (one_row h wm) (one_row k wp) =
    let r = rows_back n ms ps cs bs (omega arith) (omega arith) (omega arith) (omega arith) wm wp in
    record {
      marks_are = ap₂ (λ (x : List ℕ) (xs : List (List ℕ)). x ∷ xs) (six_marks m p c b h) r.marks_are;
      places_are = ap₂ (λ (x : List ℕ) (xs : List (List ℕ)). x ∷ xs) (four_places m p c b k) r.places_are;
      contents_are = ap (λ (xs : List (List ℕ)). c ∷ xs) r.contents_are;
      inboxes_are = ap (λ (xs : List (List ℕ)). b ∷ xs) r.inboxes_are;
    }

memory_back : (m : Memory) → Sized m → memory_of (station_in m).lines ≡ m
memory_back m z =
    let b = rows_back 8 m.marks m.places m.contents m.inboxes z.marks.many z.places.many
    z.contents.many z.inboxes.many z.marks.wide z.places.wide in
    rw (b.marks_are, b.places_are, b.contents_are, b.inboxes_are)

pub fixed : (m n : Memory) → Sized m → Sized n → station_in m ≡ station_in n → m ≡ n
fixed m n y z e = sym (memory_back m y) ∙ ap (λ (s : Station). memory_of s.lines) e ∙ memory_back n z

-- memory of zeros is the station with all lines closed
pub zeros_closed : station_in zeros ≡ all_closed
unfolding lines_from all_closed
zeros_closed = refl
