-- What an opening, a delivery and a turn do to the code's record of a line is what they do to the line by itself.
use Rattle.std.specs.Prelude as std
use Rattle.std.specs.Prelude.{◌≡◌, refl, Bool, true, false, List, [], ◌∷◌, ◌++◌, map, ℕ, zero, suc, ◌+◌, ◌-◌, ◌%◌, ◌≤◌, ◌<◌, T, ltb, leb, length, take, drop}
use Rattle.std.proofs.Common.{sym, ap, ◌∙◌, arith, ltb→lt, lt→ltb, nltb→le, leb→le, le→leb, length-append, length-take, length-drop, drop_of_length-le, take-take, drop-drop}
use Rattle.std.proofs.Math.Option.{Option, none, some}
use Rattle.std.proofs.Math.Seq.{take-nil, take-append_seam}
use Rattle.std.proofs.Math.Facts.{yes_and}
use Rattle.characters.specs.Answers.{Answer, refused, given, by_need, is_true, is_false, pick, by_pick}
use Rattle.groups.specs.Modes.{is_mode}
use Rattle.line.specs.Lines.{LineAnswer, State, listed}
use Rattle.line.specs.FrameNumbers.{begun, frame_after}
use Rattle.line.specs.declared.LineState.{LineState}
use Rattle.line.specs.State.{line_of, frame_of, state_of, opening_of}
use Rattle.line.specs.Steps.{heard_answer, fed}
use Rattle.line.specs.Views.{FieldsInside}
use Rattle.line.proofs.Views.{opened_view, fed_view, until_most}
use Rattle.line.specs.Entries.{Framed, framed, framed_if, first_entry}
use Rattle.line.specs.Numbers.{shown_if, shown_framed}
use Rattle.line.proofs.Laws.Openings.{opening_known, opening_unknown}
use Rattle.line.proofs.Laws.FrameNumbers.{after_remainder, until_number}
use Rattle.line.proofs.Laws.Heard.{heard_nothing, heard_told, heard_accepted}
use Rattle.line.proofs.Laws.GroupsByBytes.{notice_number}
use Rattle.line.specs.declared.Heard.{Heard}
use Rattle.line.specs.declared.Heard.TheVariants.{Nothing, Accepted, Told}
use Rattle.line.specs.declared.rules.Phase.TheVariants.{Outside}
use Rattle.station.specs.Numbers.{number_of_refusal}
use Rattle.station.specs.Lines.{is_open, waiting, opened_as, added, filling, oldest, turned, most_in_turn, turning}
use Rattle.station.specs.Sheets.{two_bytes, entry_bytes, entry_of}
use Rattle.station.specs.Rounds.{tells}
use Rattle.station.specs.History.{Event, opening_in, delivery_of, turn}
use Rattle.station.specs.OneLine.{Line, closed, opened, quota, line_after, turn_told, delivery_number}
use Rattle.station.proofs.Laws.Sheets.{is_short, is_plain}
use Rattle.station.specs.Parts.{line_left}
use Rattle.station.specs.Records.{StationLine, Turned}
use Rattle.station.specs.declared.Refusal.{Refusal}
use Rattle.station.specs.declared.Refusal.TheVariants.{NoRoom, LineClosed, ModeUnknown}

-- the line that its numbers stand for, with the number of its frame
abbrev pub framed_line : StationLine → Framed State
framed_line l = framed (frame_of l.state) (line_of l.state l.content)

-- the line that a record of the code stands for
unfoldable pub stands_for : StationLine → Line
stands_for l = pick (is_open l) (opened l.state.mode (framed_line l) (waiting l)) closed

-- the arrays of a line have their lengths
pub record Long (l : StationLine) : Type 0 where
  pub content : length l.content ≡ 128
  pub inbox : length l.inbox ≡ 256

-- the arrays of every line of a list have
pub data Longs : List StationLine → Type 0 where
  no_lines : Longs []
  one_line : {l : StationLine} {ls : List StationLine} → Long l → Longs ls → Longs (l ∷ ls)

-- ---- Where the waiting bytes lie, also for numbers that no call makes

-- they end inside the inbox
pub waiting_most : (l : StationLine) → length l.inbox ≡ 256 → oldest l + length (waiting l) ≤ 256
unfolding oldest waiting
waiting_most l e =
    by_pick (λ (n : ℕ). n + length (take l.count (drop l.first l.inbox)) ≤ 256) (ltb 256 l.first) 256
    l.first (λ t. simp (length-take, length-drop) (omega (arith, ltb→lt 256 l.first t)))
    (λ t. simp (length-take, length-drop) (omega (arith, nltb→le 256 l.first t)))

-- the bytes from the oldest on are those from the place that the record names
from_oldest : (l : StationLine) → length l.inbox ≡ 256 → drop (oldest l) l.inbox ≡ drop l.first l.inbox
unfolding oldest
from_oldest l e =
    by_pick (λ (n : ℕ). drop n l.inbox ≡ drop l.first l.inbox) (ltb 256 l.first) 256 l.first
    (λ t. drop_of_length-le l.inbox {i = 256} (omega arith)
    ∙ sym (drop_of_length-le l.inbox {i = l.first} (omega (arith, ltb→lt 256 l.first t))))
    (λ t. refl)

-- as many bytes as there are among the first n are the first n
take_taken : (n : ℕ) (bs : List ℕ) → take (length (take n bs)) bs ≡ take n bs
take_taken zero bs = refl
take_taken (suc n) [] = refl
take_taken (suc n) (b ∷ bs) = ap (λ (more : List ℕ). b ∷ more) (take_taken n bs)

-- they begin at the oldest
pub waiting_at : (l : StationLine) → length l.inbox ≡ 256
    → take (length (waiting l)) (drop (oldest l) l.inbox) ≡ waiting l
unfolding waiting
waiting_at l e = rw (from_oldest l e) (take_taken l.count (drop l.first l.inbox))

-- the first n bytes without the first k are the first n less k behind these
drop_take : (k n : ℕ) (bs : List ℕ) → drop k (take n bs) ≡ take (n - k) (drop k bs)
drop_take zero n bs = let z : n - 0 ≡ n = omega arith in rw z
drop_take (suc k) zero bs = let z : 0 - suc k ≡ 0 = omega arith in rw z
drop_take (suc k) (suc n) [] = sym (take-nil (suc n - suc k))
drop_take (suc k) (suc n) (b ∷ bs) = let z : suc n - suc k ≡ n - k = omega arith in rw z (drop_take k n bs)

-- when the oldest k have left, the others wait
rest_waits : (l : StationLine) (k : ℕ) → length l.inbox ≡ 256
    → take (length (waiting l) - k) (drop (oldest l + k) l.inbox) ≡ drop k (waiting l)
rest_waits l k e =
    rw (← (drop-drop k (oldest l) l.inbox), ← (drop_take k (length (waiting l)) (drop (oldest l) l.inbox)))
    (ap (drop k) (waiting_at l e))

-- ---- A turn

-- what a turn does to a record is what it does to the line that the record stands for, and so is what it tells: lengths
-- as before, the line, the count and the answer; at most 64 bytes, of those that wait, leave the inbox; and an accepted
-- group's fields lie in the content
pub record TurnView (l : StationLine) (t : Turned) : Type 0 where
  pub long : Long t.line
  pub line_is : stands_for t.line ≡ line_after (stands_for l) turn
  pub told_is : tells t ≡ turn_told (stands_for l)
  pub count_most : t.count ≤ most_in_turn
  pub count_waits : t.count ≤ length (waiting l)
  pub waits : waiting t.line ≡ drop t.count (waiting l)
  pub inside : FieldsInside t.heard

-- a turn takes at most 64 bytes, and no more than there are
quota_most : (mode : ℕ) (s : Framed State) (bs : List ℕ) → (quota mode s bs ≤ most_in_turn) × (quota mode s bs ≤ length bs)
quota_most mode s bs =
    let k = until_most mode s.what (take most_in_turn bs) in
    let n = length-take most_in_turn bs in
    (omega arith, omega arith)

-- what it takes of the oldest 64 it takes of all
quota_take : (mode : ℕ) (s : Framed State) (bs : List ℕ) → take (quota mode s bs) (take most_in_turn bs) ≡ take (quota mode s bs) bs
quota_take mode s bs = take-take (quota mode s bs) most_in_turn bs (quota_most mode s bs).0

-- an answer with its number is shown as the first of its list
first_listed : (n : ℕ) (o : Option LineAnswer)
    → framed_if n (shown_if o) ≡ first_entry (map shown_framed (map (framed n) (listed o)))
first_listed n none = refl
first_listed n (some a) = refl

-- the turn of a closed line
closed_turn : (l : StationLine) → Long l → is_open l ≡ false
    → TurnView l (record { line = l; count = 0; heard = Nothing })
unfolding stands_for line_after turn_told pick
closed_turn l h e =
    record {
      long = h;
      line_is = rw e;
      told_is = rw (e, heard_nothing l.content);
      count_most = omega arith;
      count_waits = omega arith;
      waits = refl;
      inside = tt;
    }

-- the turn of an open line
open_turn : (l : StationLine) → Long l → is_open l ≡ true
    → TurnView l (turned l (fed 0 l.state l.content (take most_in_turn (waiting l))))
unfolding stands_for line_after turn_told waiting pick
open_turn l h e =
    let mode = l.state.mode in
    let s = framed_line l in
    let f = fed 0 l.state l.content (take most_in_turn (waiting l)) in
    let v = fed_view 0 l.state l.content (take most_in_turn (waiting l)) h.content in
    let k : f.result.count ≡ quota mode s (waiting l) = omega (arith, v.count_is) in
    let most = quota_most mode s (waiting l) in
    let same = quota_take mode s (waiting l) in
    let rest = rest_waits l f.result.count h.inbox in
    let first = first_listed (frame_of f.result.line) (heard_answer f.result.heard f.content) in
    let taken = take (quota mode s (waiting l)) (take most_in_turn (waiting l)) in
    let frame : frame_of f.result.line ≡ frame_after s.frame taken =
    ap (λ (n : ℕ). n % 65536) v.frame_is ∙ after_remainder l.state.frame taken in
    let told = until_number mode s (take most_in_turn (waiting l)) in
    record {
      long = record { content = v.long; inbox = h.inbox };
      line_is = rw (e, v.same_mode, v.line_is, frame, rest, k, same);
      told_is = rw (first, v.answers_are, frame, ← told, e, k, same);
      count_most = omega arith;
      count_waits = omega arith;
      waits = rest;
      inside = v.inside;
    }

-- the turn of any line
pub turn_view : (l : StationLine) → Long l → TurnView l (turning l)
unfolding turning
turn_view l h =
    by_pick (TurnView l) (is_open l) _ _ (λ t. open_turn l h (is_true t)) (λ t. closed_turn l h (is_false t))

-- the entry of what was heard has at most 134 bytes
heard_short : (h : Heard) (n : ℕ) (content : List ℕ) → length content ≡ 128 → FieldsInside h
    → length (entry_of (framed_if n (shown_if (heard_answer h content)))) ≤ 134
unfolding entry_bytes two_bytes
heard_short Nothing n content e i = rw (heard_nothing content) (omega arith)
heard_short (Told notice) n content e i = rw (heard_told notice content) (omega arith)
heard_short (Accepted fields) n content e i =
    rw (heard_accepted fields content e i) (simp (length-append, length-take) (omega (arith, i.all_short)))

-- so has the entry of a turn
pub turn_short : (l : StationLine) → Long l → T (is_short (tells (turning l)))
turn_short l h =
    let v = turn_view l h in
    le→leb (length (entry_of (tells (turning l)).entry)) 134
    (heard_short (turning l).heard (frame_of (turning l).line.state) (turning l).line.content v.long.content v.inside)

-- what is heard has a place or a text, and not both, and a number of 16 bits
heard_plain : (h : Heard) (n : ℕ) (content : List ℕ) → length content ≡ 128 → FieldsInside h → n < 65536
    → T (is_plain (framed_if n (shown_if (heard_answer h content))))
unfolding pick
heard_plain Nothing n content e i k = rw (heard_nothing content) tt
heard_plain (Told notice) n content e i k =
    rw (heard_told notice content, notice_number notice) (yes_and (ltb n 65536) true (lt→ltb n 65536 k) tt)
heard_plain (Accepted fields) n content e i k =
    rw (heard_accepted fields content e i) (yes_and (ltb n 65536) true (lt→ltb n 65536 k) tt)

pub turn_plain : (l : StationLine) → Long l → T (is_plain (tells (turning l)).entry)
turn_plain l h =
    let v = turn_view l h in heard_plain (turning l).heard (frame_of (turning l).line.state) (turning l).line.content v.long.content v.inside (omega arith)

-- ---- A delivery and an opening

-- the number of the call
abbrev pub call_number : Answer Refusal StationLine → ℕ
call_number (given next) = 0
call_number (refused refusal) = number_of_refusal refusal

-- what a call makes of a record is what an event makes of the line that the record stands for, and the call's number
-- is n
pub record CallView (l : StationLine) (e : Event) (n : ℕ) (a : Answer Refusal StationLine) : Type 0 where
  pub long : Long (line_left l a)
  pub line_is : stands_for (line_left l a) ≡ line_after (stands_for l) e
  pub number_is : call_number a ≡ n

-- the bytes of a delivery wait behind those that waited
added_waits : (l : StationLine) (bytes : List ℕ) → waiting (added l bytes) ≡ waiting l ++ bytes
unfolding waiting
added_waits l bytes =
    rw (← (length-append (waiting l) bytes))
    (take-append_seam (waiting l ++ bytes) (drop (length (waiting l ++ bytes)) l.inbox))

-- with room for them the inbox keeps its length
added_long : (l : StationLine) (bytes : List ℕ) → Long l → length (waiting l) + length bytes ≤ 256
    → Long (added l bytes)
added_long l bytes h k =
    record { content = h.content; inbox = simp (length-append, length-drop) (omega (arith, h.inbox)) }

-- a delivery to any line
pub fill_view : (l : StationLine) (bytes : List ℕ) → Long l
    → CallView l (delivery_of bytes) (delivery_number (stands_for l) bytes) (filling l bytes)
unfolding filling stands_for line_after delivery_number pick
fill_view l bytes h =
    let View = CallView l (delivery_of bytes) (delivery_number (stands_for l) bytes) in
    let room = leb (length (waiting l) + length bytes) 256 in
    by_need View (is_open l) LineClosed _
    (λ t. let e : is_open l ≡ false = is_false t in record { long = h; line_is = rw e; number_is = rw e }) λ t.
    let e : is_open l ≡ true = is_true t in
    by_need View room NoRoom _
    (λ u. let f : room ≡ false = is_false u in record { long = h; line_is = rw (e, f); number_is = rw (e, f) }) λ u.
    let f : room ≡ true = is_true u in
    record {
      long = added_long l bytes h (leb→le (length (waiting l) + length bytes) 256 u);
      line_is = rw (e, f, added_waits l bytes);
      number_is = rw (e, f);
    }

-- a line that was just opened is outside, its frame number is 0, and no bytes wait
pub opened_stands : (l : StationLine) (mode : ℕ)
    → stands_for (opened_as l (state_of mode 0 Outside 0)) ≡ opened mode begun []
unfolding stands_for waiting pick
opened_stands l mode = rw (opened_view mode 0 l.content)

-- the opening of a line, by what the line itself makes of the mode
abbrev pub opened_by : StationLine → std.Option LineState → Answer Refusal StationLine
opened_by l (std.Some state) = given (opened_as l state)
opened_by l std.None = refused ModeUnknown

-- an opening of any line
pub open_view : (l : StationLine) (mode : ℕ) → Long l
    → CallView l (opening_in mode) (pick (is_mode mode) 0 19) (opened_by l (opening_of mode))
unfolding line_after pick
open_view l mode h = go (is_mode mode) refl
  where
    go : (known : Bool) → is_mode mode ≡ known
        → CallView l (opening_in mode) (pick (is_mode mode) 0 19) (opened_by l (opening_of mode))
    go true e =
        rw (opening_known mode e)
        (record {
          long = record { content = h.content; inbox = h.inbox };
          line_is = rw e (opened_stands l mode);
          number_is = rw e;
        })
    go false e = rw (opening_unknown mode e) (record { long = h; line_is = rw e; number_is = rw e })
