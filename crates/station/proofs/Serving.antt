-- The loop of a round, over plain variables: what is left of it decides. Then all of it, as the turns of the lines.
use mathlib.Core.Path.{◌≡◌, refl, sym, ap, ◌∙◌, subst}
use mathlib.Core.List.{List, [], ◌∷◌, ◌++◌, append_assoc, append-nil, map}
use Prim.Native.Nat.{ℕ, zero, suc, ◌+◌, ◌-◌, ◌*◌, ◌%◌, ◌/◌, ◌≤◌, ◌<◌}
use native.Mathlib.Omega.{arith}
use lib.Dec.{leb→le}
use lib.ListN.{length, take, get_or, set, replicate, length-append, take-append-drop}
use lib.Seq.{paste, paste-zero, set_at, set-get_or, get_or_at, get_or-set_other, append_snoc, length-take-le}
use Rattle.line.specs.Entries.{framed_if}
use Rattle.line.specs.State.{frame_of}
use Rattle.line.specs.Steps.{heard_answer}
use Rattle.line.specs.Views.{FieldsInside}
use Rattle.line.specs.Numbers.{shown_if}
use Rattle.line.proofs.Laws.Heard.{heard_nothing, heard_told, heard_accepted}
use Rattle.line.specs.declared.Heard.{Heard}
use Rattle.line.specs.declared.Heard.TheVariants as heard
use Rattle.station.specs.Lines.{over, turning}
use Rattle.station.specs.Stations.{zero_line}
use Rattle.station.specs.Sheets.{entry_of, offset_of, two_bytes, offsets, joined, entries}
use Rattle.station.specs.Rounds.{tells}
use Rattle.station.specs.Parts.{entry_heard, offset_heard, told_by, TakesTurns}
use Rattle.station.proofs.Laws.Views.{Long, Longs, one_line, turn_view, turn_short}
use Rattle.station.specs.Records.{StationLine, Turned}
use Rattle.station.proofs.Copying.{paste_over}

-- the lines, the counts and the offsets so far, the place of the next entry, and the sheet
pub record Progress : Type 0 where
  pub lines : List StationLine
  pub counts : List ℕ
  pub offsets : List ℕ
  pub at : ℕ
  pub sheet : List ℕ

-- line i is served, with what its turn was
unfoldable pub served_one : ℕ → Turned → Progress → Progress
served_one i t v =
    record {
      lines = set v.lines i t.line;
      counts = set v.counts i t.count;
      offsets =
          set (set v.offsets (2 * i) (offset_heard t.heard v.at % 256)) (2 * i + 1)
          (offset_heard t.heard v.at / 256 % 256);
      at = v.at + length (entry_heard t.heard t.line.state.frame t.line.content);
      sheet =
          paste v.sheet v.at (entry_heard t.heard t.line.state.frame t.line.content)
          (length (entry_heard t.heard t.line.state.frame t.line.content));
    }

-- n lines from line i on
abbrev pub served_from : ℕ → ℕ → Progress → Progress
served_from zero i v = v
served_from (suc n) i v = served_from n (i + 1) (served_one i (turning (get_or v.lines i (zero_line [] []))) v)

unfoldable pub served_all : List StationLine → List ℕ → Progress
served_all ls sheet =
    served_from 8 0
    (record { lines = ls; counts = replicate 8 0; offsets = replicate 16 0; at = 24; sheet = sheet })

-- ---- The loop

-- one line more
pub serve_more : (whole : Progress) (lines : List StationLine) (counts offsets sheet : List ℕ) (at i : ℕ) (t : Turned)
    (offset at' : ℕ) (sheet' : List ℕ) → i < 8 → t ≡ turning (get_or lines i (zero_line [] []))
    → offset ≡ offset_heard t.heard at → at' ≡ at + length (entry_heard t.heard t.line.state.frame t.line.content)
    → sheet' ≡ paste sheet at (entry_heard t.heard t.line.state.frame t.line.content)
    (length (entry_heard t.heard t.line.state.frame t.line.content))
    → whole
    ≡ served_from (8 - i) i
    (record { lines = lines; counts = counts; offsets = offsets; at = at; sheet = sheet })
    → whole
    ≡ served_from (8 - (i + 1)) (i + 1)
    (record {
      lines = set lines i t.line;
      counts = set counts i t.count;
      offsets = set (set offsets (2 * i) (offset % 256)) (2 * i + 1) (offset / 256 % 256);
      at = at';
      sheet = sheet';
    })
unfolding served_one
serve_more whole lines counts offsets sheet at i t offset at' sheet' h et eo ea es e =
    let z : 8 - i ≡ suc (8 - (i + 1)) = omega arith in
    let v : Progress = record { lines = lines; counts = counts; offsets = offsets; at = at; sheet = sheet } in
    let next : served_from (8 - i) i v ≡ served_from (8 - (i + 1)) (i + 1) (served_one i t v) = rw (z, et) in
    e ∙ next ∙ rw (eo, ea, es)

-- zeros from a place on
abbrev pub ZerosFrom : ℕ → List ℕ → Type 0
ZerosFrom i xs = (j : ℕ) → i ≤ j → get_or xs j 0 ≡ 0

pub zeros_at_first : (n : ℕ) → ZerosFrom 0 (replicate n 0)
zeros_at_first zero j h = refl
zeros_at_first (suc n) zero h = refl
zeros_at_first (suc n) (suc j) h = zeros_at_first n j (omega arith)

-- fewer of them, once something is stored before
pub zeros_on : (i m : ℕ) (xs : List ℕ) → ZerosFrom i xs → i ≤ m → ZerosFrom m xs
zeros_on i m xs z h j k = z j (omega arith)

pub zeros_behind : (i m k x : ℕ) (xs : List ℕ) → ZerosFrom i xs → i ≤ m → k < m → ZerosFrom m (set xs k x)
zeros_behind i m k x xs z h l j e = get_or-set_other xs k j x 0 (λ (same : j ≡ k). omega arith) ∙ z j (omega arith)

pub zeros_behind_two : (i x y : ℕ) (xs : List ℕ) → ZerosFrom (2 * i) xs
    → ZerosFrom (2 * (i + 1)) (set (set xs (2 * i) x) (2 * i + 1) y)
zeros_behind_two i x y xs z =
    zeros_behind (2 * i + 1) (2 * (i + 1)) (2 * i + 1) y (set xs (2 * i) x)
    (zeros_behind (2 * i) (2 * i + 1) (2 * i) x xs z (omega arith) (omega arith)) (omega arith) (omega arith)

zero_kept : (xs : List ℕ) (i : ℕ) → get_or xs i 0 ≡ 0 → set xs i 0 ≡ xs
zero_kept xs i h = rw h at (set-get_or xs i 0)

no_entry : (frame : ℕ) (content : List ℕ) → entry_heard heard.Nothing frame content ≡ []
unfolding entry_heard
no_entry frame content = rw (heard_nothing content)

-- a line without a turn leaves all as it was, where zeros stand for it already
pub serve_none : (whole : Progress) (lines : List StationLine) (counts offsets sheet : List ℕ) (at i : ℕ) → i < 8
    → turning (get_or lines i (zero_line [] []))
    ≡ record { line = get_or lines i (zero_line [] []); count = 0; heard = heard.Nothing }
    → ZerosFrom i counts → ZerosFrom (2 * i) offsets
    → whole
    ≡ served_from (8 - i) i
    (record { lines = lines; counts = counts; offsets = offsets; at = at; sheet = sheet })
    → whole
    ≡ served_from (8 - (i + 1)) (i + 1)
    (record { lines = lines; counts = counts; offsets = offsets; at = at; sheet = sheet })
serve_none whole lines counts offsets sheet at i h t c o e =
    let l = get_or lines i (zero_line [] []) in
    let n = no_entry l.state.frame l.content in
    let k : at ≡ at + 0 = omega arith in
    let more = serve_more whole lines counts offsets sheet at i (record { line = l; count = 0; heard = heard.Nothing }) 0 at
    sheet h (sym t) refl (rw n k) (rw n (paste-zero sheet at [])) e in
    more
    ∙ rw (
      set-get_or lines i (zero_line [] []),
      zero_kept counts i (c i (omega arith)),
      zero_kept offsets (2 * i) (o (2 * i) (omega arith)),
      zero_kept offsets (2 * i + 1) (o (2 * i + 1) (omega arith)),
    )

-- none left
pub serve_end : (whole v : Progress) (i : ℕ) → 8 ≤ i → whole ≡ served_from (8 - i) i v → whole ≡ v
serve_end whole v i h e = let z : 8 - i ≡ 0 = omega arith in e ∙ rw z

-- ---- What a turn puts on the sheet is what it tells

entry_told : (t : Turned) → entry_heard t.heard t.line.state.frame t.line.content ≡ entry_of (tells t).entry
unfolding entry_heard
entry_told t = refl

offset_told : (h : Heard) (n : ℕ) (content : List ℕ) (at : ℕ) → length content ≡ 128 → FieldsInside h
    → offset_heard h at ≡ offset_of (framed_if n (shown_if (heard_answer h content))) at
offset_told heard.Nothing n content at e i = rw (heard_nothing content)
offset_told (heard.Accepted fields) n content at e i = rw (heard_accepted fields content e i)
offset_told (heard.Told notice) n content at e i = rw (heard_told notice content)

-- an entry has at most 134 bytes
pub entry_most : (l : StationLine) → Long l → length (entry_of (tells (turning l)).entry) ≤ 134
entry_most l long = leb→le (length (entry_of (tells (turning l)).entry)) 134 (turn_short l long)

-- ---- All lines

abbrev zeros : List StationLine → List ℕ
zeros [] = []
zeros (l ∷ ls) = 0 ∷ zeros ls

abbrev zero_pairs : List StationLine → List ℕ
zero_pairs [] = []
zero_pairs (l ∷ ls) = 0 ∷ 0 ∷ zero_pairs ls

-- one line more, behind those that are served
one_served : (done rest : List StationLine) (l : StationLine) (cd cz od oz front sheet : List ℕ) (at i : ℕ) → Long l
    → length done ≡ i → length cd ≡ i → length od ≡ 2 * i → length front ≡ at
    → at + length (entry_of (tells (turning l)).entry) ≤ length sheet
    → served_one i (turning l)
    (record {
      lines = done ++ l ∷ rest;
      counts = cd ++ 0 ∷ cz;
      offsets = od ++ 0 ∷ 0 ∷ oz;
      at = at;
      sheet = over front sheet;
    })
    ≡ record {
      lines = done ++ (turning l).line ∷ [] ++ rest;
      counts = cd ++ (turning l).count ∷ [] ++ cz;
      offsets = od ++ two_bytes (offset_of (tells (turning l)).entry at) ++ oz;
      at = at + length (entry_of (tells (turning l)).entry);
      sheet = over (front ++ entry_of (tells (turning l)).entry) sheet;
    }
unfolding served_one two_bytes
one_served done rest l cd cz od oz front sheet at i long e1 e2 e3 e4 h =
    let t = turning l in
    let v = turn_view l long in
    let o = offset_of (tells t).entry at in
    let k : length (od ++ (o % 256) ∷ []) ≡ 2 * i + 1 = length-append od ((o % 256) ∷ []) ∙ ap (λ (n : ℕ). n + 1) e3 in
    let two : set (set (od ++ 0 ∷ 0 ∷ oz) (2 * i) (o % 256)) (2 * i + 1) (o / 256 % 256)
    ≡ od ++ (o % 256 ∷ o / 256 % 256 ∷ []) ++ oz =
    rw (
      set_at od 0 (0 ∷ oz) (o % 256) (2 * i) e3,
      ← (append_snoc od (o % 256) (0 ∷ oz)),
      set_at (od ++ (o % 256) ∷ []) 0 oz (o / 256 % 256) (2 * i + 1) k,
    )
    (simp append_assoc) in
    rw (
      entry_told t,
      offset_told t.heard (frame_of t.line.state) t.line.content at v.long.content v.inside,
      set_at done l rest t.line i e1,
      set_at cd 0 cz t.count i e2,
      paste_over front sheet (entry_of (tells t).entry) at e4 h,
      append_snoc done t.line rest,
      append_snoc cd t.count cz,
      two,
    )

-- the loop from some line on leaves the turns of the lines from there on
record Done (v : Progress) (done rest : List StationLine) (cd od front sheet : List ℕ) (at : ℕ) : Type 0 where
  lines_are : v.lines ≡ done ++ map (λ (t : Turned). t.line) (map turning rest)
  counts_are : v.counts ≡ cd ++ map (λ (t : Turned). t.count) (map turning rest)
  offsets_are : v.offsets ≡ od ++ joined two_bytes (offsets at (told_by rest))
  sheet_is : v.sheet ≡ over (front ++ entries (told_by rest)) sheet

two_long : (n : ℕ) → length (two_bytes n) ≡ 2
unfolding two_bytes
two_long n = refl

serve_rest : (rest done : List StationLine) (cd od front sheet : List ℕ) (at i : ℕ) → Longs rest
    → length done ≡ i → length cd ≡ i → length od ≡ 2 * i → length front ≡ at
    → at + 134 * length rest ≤ length sheet
    → Done
    (served_from (length rest) i
    (record {
      lines = done ++ rest;
      counts = cd ++ zeros rest;
      offsets = od ++ zero_pairs rest;
      at = at;
      sheet = over front sheet;
    }))
    done rest cd od front sheet at
serve_rest [] done cd od front sheet at i hs e1 e2 e3 e4 h =
    record { lines_are = refl; counts_are = refl; offsets_are = refl; sheet_is = rw (append-nil front) }
serve_rest (l ∷ rest) done cd od front sheet at i (one_line x hs) e1 e2 e3 e4 h =
    let t = turning l in
    let e = entry_of (tells t).entry in
    let o = offset_of (tells t).entry at in
    let k = entry_most l x in
    let q : served_one i (turning (get_or (done ++ l ∷ rest) i (zero_line [] [])))
    (record {
      lines = done ++ l ∷ rest;
      counts = cd ++ 0 ∷ zeros rest;
      offsets = od ++ 0 ∷ 0 ∷ zero_pairs rest;
      at = at;
      sheet = over front sheet;
    })
    ≡ record {
      lines = done ++ t.line ∷ [] ++ rest;
      counts = cd ++ t.count ∷ [] ++ zeros rest;
      offsets = od ++ two_bytes o ++ zero_pairs rest;
      at = at + length e;
      sheet = over (front ++ e) sheet;
    } =
    rw (get_or_at done l rest (zero_line [] []) i e1)
    (one_served done rest l cd (zeros rest) od (zero_pairs rest) front sheet at i x e1 e2 e3 e4 (omega arith)) in
    let n1 : length (done ++ t.line ∷ []) ≡ i + 1 = length-append done (t.line ∷ []) ∙ ap (λ (n : ℕ). n + 1) e1 in
    let n2 : length (cd ++ t.count ∷ []) ≡ i + 1 = length-append cd (t.count ∷ []) ∙ ap (λ (n : ℕ). n + 1) e2 in
    let n3 : length (od ++ two_bytes o) ≡ 2 * (i + 1) = simp length-append (omega (arith, e3, two_long o)) in
    let n4 : length (front ++ e) ≡ at + length e = length-append front e ∙ ap (λ (n : ℕ). n + length e) e4 in
    let d = serve_rest rest (done ++ t.line ∷ []) (cd ++ t.count ∷ []) (od ++ two_bytes o) (front ++ e) sheet
    (at + length e) (i + 1) hs n1 n2 n3 n4 (omega arith) in
    subst (λ (v : Progress). Done (served_from (length rest) (i + 1) v) done (l ∷ rest) cd od front sheet at) (sym q)
    (record {
      lines_are = d.lines_are ∙ append_snoc done t.line (map (λ (u : Turned). u.line) (map turning rest));
      counts_are = d.counts_are ∙ append_snoc cd t.count (map (λ (u : Turned). u.count) (map turning rest));
      offsets_are =
          d.offsets_are ∙ append_assoc od (two_bytes o) (joined two_bytes (offsets (at + length e) (told_by rest)));
      sheet_is = d.sheet_is ∙ rw (append_assoc front e (entries (told_by rest)));
    })

zeros_are : (ls : List StationLine) → zeros ls ≡ replicate (length ls) 0
zeros_are [] = refl
zeros_are (l ∷ ls) = ap (λ (r : List ℕ). 0 ∷ r) (zeros_are ls)

pairs_are : (ls : List StationLine) → zero_pairs ls ≡ replicate (2 * length ls) 0
pairs_are [] = refl
pairs_are (l ∷ ls) =
    let z : 2 * suc (length ls) ≡ suc (suc (2 * length ls)) = omega arith in
    rw z (ap (λ (r : List ℕ). 0 ∷ 0 ∷ r) (pairs_are ls))

over_own : (n : ℕ) (sheet : List ℕ) → n ≤ length sheet → over (take n sheet) sheet ≡ sheet
over_own n sheet h = rw (length-take-le n sheet h) (take-append-drop n sheet)

all_served : (ls : List StationLine) (sheet : List ℕ) → length ls ≡ 8 → Longs ls → 1096 ≤ length sheet
    → Done (served_all ls sheet) [] ls [] [] (take 24 sheet) sheet 24
unfolding served_all
all_served ls sheet e hs h =
    let d = serve_rest ls [] [] [] (take 24 sheet) sheet 24 0 hs refl refl refl (length-take-le 24 sheet (omega arith))
    (omega arith) in
    rw (zeros_are ls, pairs_are ls, e, over_own 24 sheet (omega arith)) at d

-- what the loop leaves is what the turns of the lines leave
pub serves_all : (ls : List StationLine) (sheet : List ℕ) (v : Progress) → length ls ≡ 8 → Longs ls
    → 1096 ≤ length sheet → served_all ls sheet ≡ v
    → TakesTurns ls sheet v.lines v.counts v.offsets v.sheet
serves_all ls sheet v e hs h ev =
    let d : Done v [] ls [] [] (take 24 sheet) sheet 24 = rw ev at (all_served ls sheet e hs h) in
    record { lines_are = d.lines_are; counts_are = d.counts_are; offsets_are = d.offsets_are; sheet_is = d.sheet_is }
