-- The loop of a round on rows: one turn more is one line more of the station's own loop.
use mathlib.Core.Path.{◌≡◌, refl, sym, ap, ◌∙◌, subst}
use Rattle.std.specs.Prelude.{Bool, T, true, false, not, eqb, Option, Some, None, is_some, unwrap_or}
use mathlib.Core.List.{List, [], ◌∷◌}
use Prim.Native.Nat.{ℕ, zero, suc, ◌+◌, ◌-◌, ◌*◌, ◌%◌, ◌/◌, ◌<◌, ◌≤◌}
use native.Mathlib.Omega.{arith}
use lib.ListN.{length, get_or, set}
use lib.Seq.{set-get_or, get_or-set_same, get_or-set_other}
use Rattle.line.specs.declared.Heard.{Heard}
use Rattle.std.proofs.Common.{eqb→eq}
use Rattle.characters.specs.Answers.{pick, from_true}
use Rattle.groups.proofs.Laws.Tests.{split}
use Rattle.line.specs.Views.{FieldsInside}
use Rattle.station.specs.Lines.{is_open, turning}
use Rattle.station.specs.Stations.{zero_line}
use Rattle.station.specs.Parts.{took_by, Turns, entry_heard, offset_heard, Put, TakesTurns}
use Rattle.station.specs.declared.turn.Took.{Took}
use Rattle.station.proofs.Laws.Views.{Longs, no_lines, one_line, turn_view}
use Rattle.station.specs.Records.{StationLine, Turned}
use Rattle.station.proofs.Turns.{closed_turn}
use Rattle.station.proofs.Serving.{Progress, served_from, serve_more, ZerosFrom, serve_none, served_all, serve_end, serves_all}
use Rattle.station.specs.Memory.{line_from, lines_from}
use Rattle.station.proofs.Laws.Memory.{line_at_lem, line_set}

-- as many lines as rows
lines_many : (n : ℕ) (ms ps cs bs : List (List ℕ)) → length ms ≡ n → length ps ≡ n → length cs ≡ n → length bs ≡ n
    → length (lines_from ms ps cs bs) ≡ n
unfolding lines_from
lines_many n [] ps cs bs em ep ec eb = em
lines_many n (m ∷ ms) [] cs bs em ep ec eb = ep
lines_many n (m ∷ ms) (p ∷ ps) [] bs em ep ec eb = ec
lines_many n (m ∷ ms) (p ∷ ps) (c ∷ cs) [] em ep ec eb = eb
lines_many zero (m ∷ ms) (p ∷ ps) (c ∷ cs) (b ∷ bs) em ep ec eb = absurd (omega arith)
lines_many (suc n) (m ∷ ms) (p ∷ ps) (c ∷ cs) (b ∷ bs) em ep ec eb =
    ap suc (lines_many n ms ps cs bs (omega arith) (omega arith) (omega arith) (omega arith))

-- whose contents and inboxes have their lengths
lines_long : (ms ps cs bs : List (List ℕ)) → ((i : ℕ) → i < length cs → length (get_or cs i []) ≡ 128)
    → ((i : ℕ) → i < length bs → length (get_or bs i []) ≡ 256) → Longs (lines_from ms ps cs bs)
unfolding lines_from
lines_long [] ps cs bs hc hb = no_lines
lines_long (m ∷ ms) [] cs bs hc hb = no_lines
lines_long (m ∷ ms) (p ∷ ps) [] bs hc hb = no_lines
lines_long (m ∷ ms) (p ∷ ps) (c ∷ cs) [] hc hb = no_lines
lines_long (m ∷ ms) (p ∷ ps) (c ∷ cs) (b ∷ bs) hc hb =
    one_line (record { content = hc 0 (omega arith); inbox = hb 0 (omega arith) })
    (lines_long ms ps cs bs (λ i h. hc (suc i) (omega arith)) (λ i h. hb (suc i) (omega arith)))

-- what holds below a number and of it holds below the next
one_more : (P : ℕ → Type 0) (n : ℕ) → ((i : ℕ) → i < n → P i) → P n → (i : ℕ) → i < n + 1 → P i
one_more P n below at i h = split n i (λ k. let z : n ≡ i = omega arith in subst P z at) (below i)

-- the rows behind one that is stored are still those that there were
pub rows_to_come : (xs was : List (List ℕ)) (x : List ℕ) (n : ℕ) → ((i : ℕ) → n ≤ i → get_or xs i [] ≡ get_or was i [])
    → (i : ℕ) → n + 1 ≤ i → get_or (set xs n x) i [] ≡ get_or was i []
rows_to_come xs was x n h i k = get_or-set_other xs n i x [] (λ (same : i ≡ n). omega arith) ∙ h i (omega arith)

-- a row of the right length among those
pub row_long : (xs was : List (List ℕ)) (n long : ℕ) → ((i : ℕ) → n ≤ i → get_or xs i [] ≡ get_or was i [])
    → ((i : ℕ) → i < n → length (get_or was i []) ≡ long) → length (get_or xs n []) ≡ long
    → (i : ℕ) → i < n + 1 → length (get_or was i []) ≡ long
row_long xs was n long same below e =
    one_more (λ i. length (get_or was i []) ≡ long) n below (sym (ap length (same n (omega arith))) ∙ e)

-- ---- What is told of a turn

no_bool {ℓ} : {X : Type ℓ} → true ≡ false → X
no_bool e = absurd (subst T e tt)

-- nothing is told of a closed line alone
closed_told : (l : StationLine) (t : Turned) → None ≡ took_by l t → l.opened ≡ 0
unfolding pick
closed_told l t e = go (eqb l.opened 0) refl e
  where
    go : (closed : Bool) → eqb l.opened 0 ≡ closed
        → ◌≡◌ {A = Option Took} None
        (pick (not closed) (Some (record { count = t.count; heard = t.heard; frame = t.line.state.frame })) None)
        → l.opened ≡ 0
    go true k e = eqb→eq l.opened 0 (from_true k)
    go false k e = no_bool (sym (ap (λ (o : Option Took). is_some o) e))

-- what is told of an open line's turn
record Tells (took : Took) (t : Turned) : Type 0 where
  count_is : took.count ≡ t.count
  heard_is : took.heard ≡ t.heard
  frame_is : took.frame ≡ t.line.state.frame

took_told : (l : StationLine) (t : Turned) (took : Took) → Some took ≡ took_by l t → Tells took t
unfolding pick
took_told l t took e = go (is_open l) e
  where
    go : (b : Bool) → ◌≡◌ {A = Option Took} (Some took)
        (pick b (Some (record { count = t.count; heard = t.heard; frame = t.line.state.frame })) None)
        → Tells took t
    go true e =
        let k = ap (λ (o : Option Took). unwrap_or o took) e in
        record {
          count_is = ap (λ (k : Took). k.count) k;
          heard_is = ap (λ (k : Took). k.heard) k;
          frame_is = ap (λ (k : Took). k.frame) k;
        }
    go false e = no_bool (ap (λ (o : Option Took). is_some o) e)

-- the fields of an accepted group lie inside the content
pub heard_inside : (l after : StationLine) (told : Option Took) (took : Took) → Turns l after told → told ≡ Some took
    → FieldsInside took.heard
heard_inside l after told took w e =
    let v = turn_view l (record { content = w.content_long; inbox = w.inbox_long }) in
    rw ((took_told l (turning l) took (sym e ∙ w.told_is)).heard_is) v.inside

-- a closed line more
pub rows_none : (whole : Progress) (ms ps cs bs : List (List ℕ)) (counts offsets sheet : List ℕ) (at i : ℕ)
    (m p c : List ℕ) → i < 8 → length ms ≡ 8 → length ps ≡ 8 → length cs ≡ 8 → length bs ≡ 8
    → Turns (line_from (get_or ms i []) (get_or ps i []) (get_or cs i []) (get_or bs i [])) (line_from m p c (get_or bs i [])) None
    → ZerosFrom i counts → ZerosFrom (2 * i) offsets
    → whole
    ≡ served_from (8 - i) i
    (record { lines = lines_from ms ps cs bs; counts = counts; offsets = offsets; at = at; sheet = sheet })
    → whole
    ≡ served_from (8 - (i + 1)) (i + 1)
    (record {
      lines = lines_from (set ms i m) (set ps i p) (set cs i c) bs;
      counts = counts;
      offsets = offsets;
      at = at;
      sheet = sheet;
    })
rows_none whole ms ps cs bs counts offsets sheet at i m p c h em ep ec eb w zc zo e =
    let l = line_from (get_or ms i []) (get_or ps i []) (get_or cs i []) (get_or bs i []) in
    let ls = lines_from ms ps cs bs in
    let line : get_or ls i (zero_line [] []) ≡ l =
    line_at_lem ms ps cs bs i (omega arith) (omega arith) (omega arith) (omega arith) in
    let closed = closed_turn l (closed_told l (turning l) w.told_is) in
    let rows : lines_from (set ms i m) (set ps i p) (set cs i c) bs ≡ set ls i (line_from m p c (get_or bs i [])) =
    rw (set-get_or bs i []) at (line_set ms ps cs bs i m p c (get_or bs i [])) in
    let same : line_from m p c (get_or bs i []) ≡ get_or ls i (zero_line [] []) =
    w.line_is ∙ ap (λ (t : Turned). t.line) closed ∙ sym line in
    serve_none whole ls counts offsets sheet at i h (rw line closed) zc zo e
    ∙ rw (rows, same, set-get_or ls i (zero_line [] []))

-- one turn more
pub rows_more : (whole : Progress) (ms ps cs bs : List (List ℕ)) (counts offsets sheet : List ℕ) (at i : ℕ)
    (m p c : List ℕ) (told : Option Took) (took : Took) (offset at' : ℕ) (sheet' : List ℕ) → i < 8 → length ms ≡ 8
    → length ps ≡ 8 → length cs ≡ 8 → length bs ≡ 8
    → Turns (line_from (get_or ms i []) (get_or ps i []) (get_or cs i []) (get_or bs i [])) (line_from m p c (get_or bs i [])) told
    → told ≡ Some took → offset ≡ offset_heard took.heard at
    → Put at sheet (entry_heard took.heard took.frame (get_or (set cs i c) i [])) at' sheet'
    → whole
    ≡ served_from (8 - i) i
    (record { lines = lines_from ms ps cs bs; counts = counts; offsets = offsets; at = at; sheet = sheet })
    → whole
    ≡ served_from (8 - (i + 1)) (i + 1)
    (record {
      lines = lines_from (set ms i m) (set ps i p) (set cs i c) bs;
      counts = set counts i took.count;
      offsets = set (set offsets (2 * i) (offset % 256)) (2 * i + 1) (offset / 256 % 256);
      at = at';
      sheet = sheet';
    })
rows_more whole ms ps cs bs counts offsets sheet at i m p c told took offset at' sheet' h em ep ec eb w et eo ea e =
    let l = line_from (get_or ms i []) (get_or ps i []) (get_or cs i []) (get_or bs i []) in
    let ls = lines_from ms ps cs bs in
    let line : get_or ls i (zero_line [] []) ≡ l =
    line_at_lem ms ps cs bs i (omega arith) (omega arith) (omega arith) (omega arith) in
    let rows : lines_from (set ms i m) (set ps i p) (set cs i c) bs ≡ set ls i (line_from m p c (get_or bs i [])) =
    rw (set-get_or bs i []) at (line_set ms ps cs bs i m p c (get_or bs i [])) in
    let x = took_told l (turning l) took (sym et ∙ w.told_is) in
    let content : get_or (set cs i c) i [] ≡ (turning l).line.content =
    get_or-set_same cs i c [] (omega arith) ∙ ap (λ (k : StationLine). k.content) w.line_is in
    let more = serve_more whole ls counts offsets sheet at i (turning l) offset at' sheet' h (ap turning (sym line))
    (eo ∙ ap (λ (k : Heard). offset_heard k at) x.heard_is) (ea.0 ∙ rw (content, x.heard_is, x.frame_is))
    (ea.1 ∙ rw (content, x.heard_is, x.frame_is)) e in
    more ∙ rw (rows, w.line_is, x.count_is)

-- so they do with an equal sheet
pub serves_as : {ls ls' : List StationLine} {sheet counts offsets' after : List ℕ} (last : List ℕ) → after ≡ last
    → TakesTurns ls sheet ls' counts offsets' last → TakesTurns ls sheet ls' counts offsets' after
serves_as last e t = rw e t

-- all lines
pub rows_all : (ms ps cs bs : List (List ℕ)) (sheet : List ℕ) (v : Progress) (i : ℕ) → length ms ≡ 8 → length ps ≡ 8
    → length cs ≡ 8 → length bs ≡ 8 → ((j : ℕ) → j < i → length (get_or cs j []) ≡ 128)
    → ((j : ℕ) → j < i → length (get_or bs j []) ≡ 256) → 8 ≤ i → 1096 ≤ length sheet
    → served_all (lines_from ms ps cs bs) sheet ≡ served_from (8 - i) i v
    → TakesTurns (lines_from ms ps cs bs) sheet v.lines v.counts v.offsets v.sheet
rows_all ms ps cs bs sheet v i em ep ec eb hc hb h room e =
    serves_all (lines_from ms ps cs bs) sheet v (lines_many 8 ms ps cs bs em ep ec eb)
    (lines_long ms ps cs bs (λ j k. hc j (omega arith)) (λ j k. hb j (omega arith))) room (serve_end _ v i h e)
