-- The ways through `round`, over plain variables.
use mathlib.Core.Path.{◌≡◌, refl, ap, ap₂, ◌∙◌}
use Rattle.std.specs.Prelude.{Ok, Err}
use mathlib.Core.List.{List, [], ◌∷◌, ◌++◌, append_assoc, map}
use Prim.Native.Nat.{ℕ, ◌+◌, ◌≤◌, ◌<◌}
use native.Mathlib.Omega.{arith}
use lib.ListN.{length, take, drop, length-append}
use lib.Seq.{paste, length-take-le, drop_at}
use borrow.Author.Tests.{le-leb, lt-leb}
use Rattle.characters.specs.Answers.{need}
use Rattle.station.specs.Lines.{over, turning}
use Rattle.station.specs.Sheets.{counts, offsets, entries, sheet_of}
use Rattle.station.specs.Rounds.{turns, tells, Round, round}
use Rattle.station.specs.Parts.{told_by, TakesTurns, ServesLines}
use Rattle.station.specs.Records.{StationLine, Station, Turned}
use Rattle.station.specs.declared.Refusal.TheVariants.{SheetShort}
use Rattle.station.proofs.Copying.{paste_over, paste_is_over}

-- 18
pub round_short : (s : Station) (sheet : List ℕ) → length sheet < 1096
    → Round (round s sheet) (record { station = s; told = Err SheetShort }) sheet
unfolding turns need
round_short s sheet h = rw (lt-leb 1096 (length sheet) h) (record { results = refl; leaves = refl })

-- counts and offsets copied over the first 24 bytes, with the entries behind them
sheet_laid : (c o e sheet : List ℕ) → length c ≡ 8 → length o ≡ 16 → 24 ≤ length sheet
    → paste (paste (over (take 24 sheet ++ e) sheet) 0 c (length c)) 8 o (length o) ≡ over (c ++ (o ++ e)) sheet
sheet_laid c o e sheet ec eo h =
    let s = over (take 24 sheet ++ e) sheet in
    let n = length-take-le 24 sheet h in
    let a : length s ≡ length (take 24 sheet ++ e) + length (drop (length (take 24 sheet ++ e)) sheet) =
    length-append (take 24 sheet ++ e) _ in
    let b = length-append (take 24 sheet) e in
    let k : paste s 0 c (length c) ≡ over c s = paste_is_over s c 0 (omega arith) in
    let l : length (c ++ o) ≡ 24 = length-append c o ∙ rw (ec, eo) in
    let z : length (take 24 sheet ++ e) ≡ length (c ++ (o ++ e)) = simp length-append (omega arith) in
    let d : drop 24 s ≡ e ++ drop (length (c ++ (o ++ e))) sheet =
    rw (
      append_assoc (take 24 sheet) e (drop (length (take 24 sheet ++ e)) sheet),
      drop_at (take 24 sheet) (e ++ drop (length (take 24 sheet ++ e)) sheet) 24 n,
      z,
    ) in
    rw k (paste_over c s o 8 ec (omega arith) ∙ rw (l, d) (regroup c o e (drop (length (c ++ (o ++ e))) sheet)))
  where
    regroup : (c o e r : List ℕ) → c ++ o ++ (e ++ r) ≡ c ++ (o ++ e) ++ r
    regroup c o e r = simp append_assoc

-- the counts that are told are those of the turns
counts_told : (ts : List Turned) → counts (map tells ts) ≡ map (λ (t : Turned). t.count) ts
counts_told [] = refl
counts_told (t ∷ ts) = ap (λ (r : List ℕ). t.count ∷ r) (counts_told ts)

-- the counts and the offsets of the turns, laid over the first 24 bytes of the sheet with the entries
pub serves_done : (ls ls' : List StationLine) (sheet counts offsets x y z : List ℕ) → 1096 ≤ length sheet
    → length counts ≡ 8 → length offsets ≡ 16 → TakesTurns ls sheet ls' counts offsets x
    → y ≡ paste x 0 counts (length counts) → z ≡ paste y 8 offsets (length offsets)
    → ServesLines ls sheet ls' counts z
unfolding sheet_of
serves_done ls ls' sheet counts offsets x y z h n m e p q =
    let k : z ≡ paste (paste x 0 counts (length counts)) 8 offsets (length offsets) = rw p at q in
    let w = sheet_laid counts offsets (entries (told_by ls)) sheet n m (omega arith) in
    record {
      lines_are = e.lines_are;
      counts_are = e.counts_are;
      sheet_is = k ∙ rw e.sheet_is (w ∙ rw (e.counts_are, e.offsets_are, counts_told (map turning ls)));
    }

-- a round that is not refused
pub round_done : (s : Station) (ls : List StationLine) (sheet counts z : List ℕ) → 1096 ≤ length sheet
    → ServesLines s.lines sheet ls counts z
    → Round (round s sheet) (record { station = record { lines = ls }; told = Ok counts }) z
unfolding turns need
round_done s ls sheet counts z h e =
    rw (le-leb 1096 (length sheet) h)
    (record {
      results =
          ap₂ (λ (l : List StationLine) (c : List ℕ). record { station = record { lines = l }; told = Ok c })
          e.lines_are e.counts_are;
      leaves = e.sheet_is;
    })
