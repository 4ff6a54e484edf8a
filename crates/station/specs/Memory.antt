-- The station in the caller's memory: four lent arrays, with a row for each line. What they hold is the station's
-- record, of which the definitions and the contracts speak.
use Rattle.std.specs.Prelude.{◌≡◌, List, [], ◌∷◌, ℕ, length, get_or, replicate}
use Rattle.station.specs.Records.{StationLine, Station}

-- the four arrays, [[u8; 6]; 8], [[u16; 4]; 8], [[u8; 128]; 8] and [[u8; 256]; 8]
pub record Memory : Type 0 where
  pub marks : List (List ℕ)
  pub places : List (List ℕ)
  pub contents : List (List ℕ)
  pub inboxes : List (List ℕ)

-- of these four
abbrev pub of_rows : (marks places contents inboxes : List (List ℕ)) → Memory
of_rows marks places contents inboxes =
    record { marks = marks; places = places; contents = contents; inboxes = inboxes }

-- ---- What they hold

-- a line by its rows: six marks, four places, the content and the inbox
abbrev pub line_from : List ℕ → List ℕ → List ℕ → List ℕ → StationLine
line_from marks places content inbox =
    record {
      opened = get_or marks 0 0;
      state = record {
        mode = get_or marks 1 0;
        phase = get_or marks 2 0;
        flaw = get_or marks 3 0;
        damaged = get_or marks 4 0;
        overlong = get_or marks 5 0;
        length = get_or places 0 0;
        frame = get_or places 3 0;
      };
      first = get_or places 1 0;
      count = get_or places 2 0;
      content = content;
      inbox = inbox;
    }

-- the lines, one for each row
unfoldable pub lines_from : List (List ℕ) → List (List ℕ) → List (List ℕ) → List (List ℕ) → List StationLine
lines_from [] ps cs bs = []
lines_from (m ∷ ms) [] cs bs = []
lines_from (m ∷ ms) (p ∷ ps) [] bs = []
lines_from (m ∷ ms) (p ∷ ps) (c ∷ cs) [] = []
lines_from (m ∷ ms) (p ∷ ps) (c ∷ cs) (b ∷ bs) = line_from m p c b ∷ lines_from ms ps cs bs

-- the station that lies in the memory
abbrev pub station_in : Memory → Station
station_in m = record { lines = lines_from m.marks m.places m.contents m.inboxes }

-- memory of zeros
abbrev pub zeros : Memory
zeros =
    of_rows (replicate 8 (replicate 6 0)) (replicate 8 (replicate 4 0)) (replicate 8 (replicate 128 0))
    (replicate 8 (replicate 256 0))

-- ---- What the types of the arrays tell

-- every row has this width
pub data Wide (n : ℕ) : List (List ℕ) → Type 0 where
  no_row : Wide n []
  one_row : {x : List ℕ} {xs : List (List ℕ)} → length x ≡ n → Wide n xs → Wide n (x ∷ xs)

-- eight rows of this width
pub record Eight (n : ℕ) (rows : List (List ℕ)) : Type 0 where
  pub many : length rows ≡ 8
  pub wide : Wide n rows

pub record Sized (m : Memory) : Type 0 where
  pub marks : Eight 6 m.marks
  pub places : Eight 4 m.places
  pub contents : Eight 128 m.contents
  pub inboxes : Eight 256 m.inboxes

-- ---- What a contract names

-- the memory of four arrays that are lent, and the line of one row of each: as a call begins, and when it has returned
abbrev pub behind : (marks places contents inboxes : List (List ℕ)) → Memory
behind marks places contents inboxes = of_rows marks places contents inboxes

abbrev pub rows_behind : (marks places content inbox : List ℕ) → StationLine
rows_behind marks places content inbox = line_from marks places content inbox
