-- What any list of calls does to a line of the code's station, and what is seen of it, is what the line by itself does.
use Rattle.std.specs.Prelude.{◌≡◌, refl, Bool, true, false, List, [], ◌∷◌, ◌++◌, map, ℕ, zero, suc, ◌≤◌, ◌<◌, T, eqb, ltb, leb, length, get_or, set, replicate, Option, Some, None}
use Rattle.std.proofs.Common.{sym, ap, ◌∙◌, arith, length-set, get_or-set_same, get_or-set_other, lt-ltb, le-ltb, le-leb, ne_eqb, eqb-true}
use Rattle.std.proofs.lemmas.List.{length-map, get_or-replicate, set-get_or}
use Rattle.std.proofs.Math.Facts.{yes_and}
use Rattle.std.proofs.lemmas.Bool.{lt-leb, eqb-false}
use Rattle.characters.specs.Answers.{Answer, refused, given, need, by_need, every, pick}
use Rattle.groups.specs.Modes.{is_mode}
use Rattle.groups.proofs.Laws.Tests.{split}
use Rattle.line.specs.declared.LineState.{LineState}
use Rattle.line.specs.State.{opening_of}
use Rattle.station.specs.Numbers.{number_of}
use Rattle.station.specs.Lines.{filling, turning}
use Rattle.station.specs.Stations.{
  zero_line,
  all_closed,
  line_at,
  called,
  opening_by,
  opening,
  filled_at,
  delivering,
}
use Rattle.station.specs.Sheets.{Told, idle, sheet_of}
use Rattle.station.specs.Rounds.{turns, tells, round_by}
use Rattle.station.specs.Reading.{read_turn}
use Rattle.station.specs.History.{
  Call,
  opens,
  delivers,
  serves,
  next,
  gets,
  run,
  Event,
  opening_in,
  delivery_of,
  hears,
  events,
  Sight,
  was,
  got,
  took,
  seen_of,
  seen,
}
use Rattle.station.specs.OneLine.{closed, line_after, turn_told, delivery_number, line_sight, line_run, line_seen}
use Rattle.station.proofs.Laws.Sheets.{is_short, is_plain, reads_back}
use Rattle.station.proofs.Laws.Balance.{run_append, seen_append}
use Rattle.station.proofs.Laws.Views.{
  stands_for,
  Long,
  Longs,
  no_lines,
  one_line,
  turn_view,
  turn_short,
  turn_plain,
  call_number,
  CallView,
  fill_view,
  opened_by,
  open_view,
}
use Rattle.station.specs.Parts.{line_left}
use Rattle.station.specs.Records.{StationLine, Station, Called, Turned}
use Rattle.station.specs.declared.Refusal.{Refusal}
use Rattle.station.specs.declared.Refusal.TheVariants.{LineUnknown, SheetShort}

-- ---- The lengths of a station

-- a station whose arrays have their lengths
pub record Made (s : Station) : Type 0 where
  pub eight : length s.lines ≡ 8
  pub longs : Longs s.lines

-- line i of lines that have them has them
pub long_at : (ls : List StationLine) (i : ℕ) (d : StationLine) → Longs ls → i < length ls → Long (get_or ls i d)
long_at [] i d hs h = absurd (omega arith)
long_at (l ∷ ls) zero d (one_line x hs) h = x
long_at (l ∷ ls) (suc i) d (one_line x hs) h = long_at ls i d hs (omega arith)

-- a line that has them may take the place of line i
longs_set : (ls : List StationLine) (i : ℕ) (new : StationLine) → Longs ls → Long new → Longs (set ls i new)
longs_set [] i new hs h = hs
longs_set (l ∷ ls) zero new (one_line x hs) h = one_line h hs
longs_set (l ∷ ls) (suc i) new (one_line x hs) h = one_line x (longs_set ls i new hs h)

-- copies of a line that has them have them
longs_same : (n : ℕ) (l : StationLine) → Long l → Longs (replicate n l)
longs_same zero l h = no_lines
longs_same (suc n) l h = one_line h (longs_same n l h)

-- lines have them after their turns
longs_turned : (ls : List StationLine) → Longs ls → Longs (map (λ (t : Turned). t.line) (map turning ls))
longs_turned [] hs = no_lines
longs_turned (l ∷ ls) (one_line h hs) = one_line (turn_view l h).long (longs_turned ls hs)

-- the arrays of the station with all lines closed have their lengths
pub made_closed : Made all_closed
unfolding all_closed
made_closed =
    record {
      eight = refl;
      longs = longs_same 8 (zero_line (replicate 128 0) (replicate 256 0)) (record { content = refl; inbox = refl });
    }

-- each of its lines stands for a closed line
pub closed_at_first : (i : ℕ) → i < 8 → stands_for (line_at all_closed i) ≡ closed
unfolding all_closed stands_for pick
closed_at_first i h = rw (get_or-replicate 8 i (zero_line (replicate 128 0) (replicate 256 0)) (zero_line [] []) h)

-- ---- A call for one line

-- what comes of a call for line j: lengths as before; line j after an event, and every other line as it was; and, if
-- there is a line j, the number n
record CallDone (j : ℕ) (s : Station) (e : Event) (n : ℕ) (r : Called) : Type 0 where
  made : Made r.station
  line_is : (i : ℕ) → i < 8
      → stands_for (line_at r.station i) ≡ line_run (stands_for (line_at s i)) (pick (eqb j i) (e ∷ []) [])
  number_is : j < 8 → number_of r.reply ≡ n

-- the call puts what it makes of line j in the place of line j
left_lines : (s : Station) (j : ℕ) (a : Answer Refusal StationLine)
    → (called s (filled_at s j a)).station.lines ≡ set s.lines j (line_left (line_at s j) a)
left_lines s j (given l) = refl
left_lines s j (refused refusal) = sym (set-get_or s.lines j (zero_line [] []))

-- its number is that of what it makes of the line
left_number : (s : Station) (j : ℕ) (a : Answer Refusal StationLine)
    → number_of (called s (filled_at s j a)).reply ≡ call_number a
left_number s j (given l) = refl
left_number s j (refused refusal) = refl

-- where a line after an event is put in the place of line j, line j is after the event and every other as it was
put_stands : (i j : ℕ) (ls : List StationLine) (new d : StationLine) (e : Event) → j < length ls
    → stands_for new ≡ line_after (stands_for (get_or ls j d)) e
    → stands_for (get_or (set ls j new) i d) ≡ line_run (stands_for (get_or ls i d)) (pick (eqb j i) (e ∷ []) [])
unfolding pick
put_stands i j ls new d e h q = go (eqb j i) refl
  where
    go : (same : Bool) → eqb j i ≡ same
        → stands_for (get_or (set ls j new) i d) ≡ line_run (stands_for (get_or ls i d)) (pick same (e ∷ []) [])
    go true t = rw (← (eqb-true j i t), get_or-set_same ls j new d h) q
    go false t = rw (get_or-set_other ls j i new d (λ z. eqb-false j i t (sym z)))

-- a call for one of the eight lines
near_done : (j : ℕ) (s : Station) (e : Event) (n : ℕ) (a : Answer Refusal StationLine) → Made s → j < 8
    → CallView (line_at s j) e n a → CallDone j s e n (called s (filled_at s j a))
near_done j s e n a m h v =
    let lines = left_lines s j a in
    let new = line_left (line_at s j) a in
    record {
      made = record {
        eight = rw lines (length-set s.lines j new ∙ m.eight);
        longs = rw lines (longs_set s.lines j new m.longs v.long);
      };
      line_is = λ i k.
          rw lines (put_stands i j s.lines new (zero_line [] []) e (omega (arith, m.eight)) v.line_is);
      number_is = λ k. left_number s j a ∙ v.number_is;
    }

-- a call for a line that there is not
far_done : (j : ℕ) (s : Station) (e : Event) (n : ℕ) → Made s → 8 ≤ j
    → CallDone j s e n (called s (refused LineUnknown))
unfolding pick
far_done j s e n m h =
    record {
      made = m;
      line_is = λ i k. rw (ne_eqb j i (λ z. omega arith));
      number_is = λ k. absurd (omega arith);
    }

-- a call for any number
call_done : (j : ℕ) (s : Station) (e : Event) (n : ℕ) (a : Answer Refusal StationLine) → Made s
    → (Long (line_at s j) → CallView (line_at s j) e n a)
    → CallDone j s e n (called s (need (ltb j 8) LineUnknown (filled_at s j a)))
unfolding need
call_done j s e n a m v =
    split 8 j (λ h. rw (le-ltb j 8 h) (far_done j s e n m h)) λ h.
    rw (lt-ltb j 8 h)
    (near_done j s e n a m h (v (long_at s.lines j (zero_line [] []) m.longs (omega (arith, m.eight)))))

-- a delivery
delivery_done : (j : ℕ) (s : Station) (bytes : List ℕ) → Made s
    → CallDone j s (delivery_of bytes) (delivery_number (stands_for (line_at s j)) bytes) (called s (delivering s j bytes))
unfolding delivering
delivery_done j s bytes m =
    call_done j s (delivery_of bytes) _ (filling (line_at s j) bytes) m (fill_view (line_at s j) bytes)

-- an opening is the opening of the line, put in its place
opening_filled : (s : Station) (j : ℕ) (o : Option LineState) → filled_at s j (opened_by (line_at s j) o) ≡ opening_by s j o
opening_filled s j (Some state) = refl
opening_filled s j None = refl

-- an opening
opening_done : (j : ℕ) (s : Station) (mode : ℕ) → Made s
    → CallDone j s (opening_in mode) (pick (is_mode mode) 0 19) (called s (opening s j mode))
unfolding opening
opening_done j s mode m =
    rw (← (opening_filled s j (opening_of mode)))
    (call_done j s (opening_in mode) _ (opened_by (line_at s j) (opening_of mode)) m (open_view (line_at s j) mode))

-- what is seen of a call for line j is seen of line j alone
call_seen : (i j : ℕ) (s : Station) (e : Event) (x : Sight) → i < 8
    → (j < 8 → x ≡ line_sight (stands_for (line_at s j)) e)
    → pick (eqb j i) (x ∷ []) [] ≡ line_seen (stands_for (line_at s i)) (pick (eqb j i) (e ∷ []) [])
unfolding pick
call_seen i j s e x h p = go (eqb j i) refl
  where
    go : (same : Bool) → eqb j i ≡ same
        → pick same (x ∷ []) [] ≡ line_seen (stands_for (line_at s i)) (pick same (e ∷ []) [])
    go true t =
        let q = eqb-true j i t in
        ap (λ (y : Sight). y ∷ []) (p (omega arith) ∙ ap (λ (k : ℕ). line_sight (stands_for (line_at s k)) e) q)
    go false t = refl

-- ---- A round

-- line i's turn among the turns of all lines
pub turn_at {ℓ} : {A : Type ℓ} (f : Turned → A) (ls : List StationLine) (i : ℕ) (d : StationLine) (a : A)
    → i < length ls → get_or (map f (map turning ls)) i a ≡ f (turning (get_or ls i d))
turn_at f [] i d a h = absurd (omega arith)
turn_at f (l ∷ ls) zero d a h = refl
turn_at f (l ∷ ls) (suc i) d a h = turn_at f ls i d a (omega arith)

-- the entries of the turns have at most 134 bytes each
pub turns_short : (ls : List StationLine) → Longs ls → T (every is_short (map tells (map turning ls)))
turns_short [] hs = tt
turns_short (l ∷ ls) (one_line h hs) =
    yes_and (is_short (tells (turning l))) (every is_short (map tells (map turning ls))) (turn_short l h)
    (turns_short ls hs)

-- and a place or a text
pub turns_plain : (ls : List StationLine) → Longs ls → T (every (λ (x : Told). is_plain x.entry) (map tells (map turning ls)))
turns_plain [] hs = tt
turns_plain (l ∷ ls) (one_line h hs) =
    yes_and (is_plain (tells (turning l)).entry) (every (λ (x : Told). is_plain x.entry) (map tells (map turning ls)))
    (turn_plain l h) (turns_plain ls hs)

-- the sheet tells of line i's turn what the line by itself tells
sheet_told : (i : ℕ) (s : Station) (rest : List ℕ) → i < 8 → Made s
    → read_turn (sheet_of (map tells (map turning s.lines)) ++ rest) i ≡ turn_told (stands_for (line_at s i))
sheet_told i s rest h m =
    let ts = map turning s.lines in
    let n : length (map tells ts) ≡ 8 = length-map ts tells ∙ length-map s.lines turning ∙ m.eight in
    let k : i < length s.lines = omega (arith, m.eight) in
    reads_back (map tells ts) n (turns_short s.lines m.longs) (turns_plain s.lines m.longs) rest i h
    ∙ turn_at tells s.lines i (zero_line [] []) idle k
    ∙ (turn_view (line_at s i) (long_at s.lines i (zero_line [] []) m.longs k)).told_is

-- ---- Any call

-- a call keeps the lengths
pub made_next : (s : Station) (c : Call) → Made s → Made (next s c)
unfolding next turns
made_next s (opens j mode) m = (opening_done j s mode m).made
made_next s (delivers j bytes) m = (delivery_done j s bytes m).made
made_next s (serves sheet) m =
    let ts = map turning s.lines in
    by_need (λ (a : Answer Refusal (List Turned)). Made (round_by s sheet a).result.station)
    (leb 1096 (length sheet)) SheetShort (given ts) (λ t. m) λ t.
    record {
      eight = length-map ts (λ (t : Turned). t.line) ∙ length-map s.lines turning ∙ m.eight;
      longs = longs_turned s.lines m.longs;
    }

-- what a call does to line i, and what is seen of it, is what the line by itself does, whatever the other lines are
pub record Alone (i : ℕ) (s : Station) (c : Call) : Type 0 where
  pub line_is : stands_for (line_at (next s c) i) ≡ line_run (stands_for (line_at s i)) (hears i c)
  pub seen_is : seen_of i c (gets s c) ≡ line_seen (stands_for (line_at s i)) (hears i c)

-- an opening
opening_alone : (i j : ℕ) (s : Station) (mode : ℕ) → i < 8 → Made s → Alone i s (opens j mode)
unfolding next gets hears seen_of line_sight
opening_alone i j s mode h m =
    let d = opening_done j s mode m in
    record {
      line_is = d.line_is i h;
      seen_is = call_seen i j s (opening_in mode) _ h (λ k. ap (was mode) (d.number_is k));
    }

-- a delivery
delivery_alone : (i j : ℕ) (s : Station) (bytes : List ℕ) → i < 8 → Made s → Alone i s (delivers j bytes)
unfolding next gets hears seen_of line_sight
delivery_alone i j s bytes h m =
    let d = delivery_done j s bytes m in
    record {
      line_is = d.line_is i h;
      seen_is = call_seen i j s (delivery_of bytes) _ h (λ k. ap (got bytes) (d.number_is k));
    }

-- a round
round_alone : (i : ℕ) (s : Station) (sheet : List ℕ) → i < 8 → Made s → Alone i s (serves sheet)
unfolding next gets hears seen_of line_sight turns need pick
round_alone i s sheet h m =
    let k : i < length s.lines = omega (arith, m.eight) in
    let v = turn_view (line_at s i) (long_at s.lines i (zero_line [] []) m.longs k) in
    split 1096 (length sheet)
    (λ t.
    let e = le-leb 1096 (length sheet) t in
    let own = turn_at (λ (t : Turned). t.line) s.lines i (zero_line [] []) (zero_line [] []) k in
    record {
      line_is = rw (e, next, own) v.line_is;
      seen_is = rw e (ap (λ (t : Told). took t ∷ []) (sheet_told i s _ h m));
    })
    (λ t. let e = lt-leb 1096 (length sheet) t in record { line_is = rw (e, next); seen_is = rw e })

-- any call
pub alone : (i : ℕ) (s : Station) (c : Call) → i < 8 → Made s → Alone i s c
alone i s (opens j mode) h m = opening_alone i j s mode h m
alone i s (delivers j bytes) h m = delivery_alone i j s bytes h m
alone i s (serves sheet) h m = round_alone i s sheet h m

-- ---- Any list of calls

-- what a list of calls does to line i, and what is seen of it, is what the line by itself does at what it hears of them
pub record Projected (i : ℕ) (s : Station) (cs : List Call) : Type 0 where
  pub line_is : stands_for (line_at (run s cs) i) ≡ line_run (stands_for (line_at s i)) (events i cs)
  pub seen_is : seen i s cs ≡ line_seen (stands_for (line_at s i)) (events i cs)

-- any list of calls
pub projected : (i : ℕ) (s : Station) (cs : List Call) → i < 8 → Made s → Projected i s cs
projected i s [] h m = record { line_is = refl; seen_is = refl }
projected i s (c ∷ cs) h m =
    let l = stands_for (line_at s i) in
    let a = alone i s c h m in
    let p = projected i (next s c) cs h (made_next s c m) in
    record {
      line_is = p.line_is ∙ rw a.line_is (sym (run_append l (hears i c) (events i cs)));
      seen_is = rw (a.seen_is, p.seen_is, a.line_is) (sym (seen_append l (hears i c) (events i cs)));
    }

-- any list of calls keeps the lengths
pub made_run : (s : Station) (cs : List Call) → Made s → Made (run s cs)
made_run s [] m = m
made_run s (c ∷ cs) m = made_run (next s c) cs (made_next s c m)
