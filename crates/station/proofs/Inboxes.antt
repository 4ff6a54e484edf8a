-- The ways through the functions of one line's inbox, over plain variables.
use mathlib.Core.Path.{◌≡◌, refl, ap, ap₂, sym, ◌∙◌}
use mathlib.Core.List.{List, [], ◌++◌}
use Rattle.std.specs.Prelude.{Result, Ok, Err}
use Prim.Native.Nat.{ℕ, ◌+◌, ◌-◌, ◌≤◌, ◌<◌}
use native.Mathlib.Omega.{arith}
use lib.ListN.{length, take, drop, get_or, set, length-append}
use lib.Seq.{paste, set-get_or, take-append_seam}
use borrow.Author.Tests.{lt-ltb, le-leb, lt-leb, eq-eqb, ne_eqb}
use Rattle.characters.specs.Answers.{Answer, refused, given, need}
use Rattle.station.specs.Lines.{waiting, over, filling}
use Rattle.station.specs.Stations.{zero_line, line_at, with_line, called, filled_at, delivering}
use Rattle.station.proofs.Laws.Views.{waiting_most}
use Rattle.station.specs.Parts.{line_left}
use Rattle.station.specs.Records.{StationLine, Station}
use Rattle.station.specs.declared.Refusal.{Refusal}
use Rattle.station.specs.declared.Refusal.TheVariants.{NoRoom, LineClosed}
use Rattle.station.proofs.Copying.{paste_over}
use Rattle.std.proofs.lemmas.Slice.{put_mid-paste}
use borrow.Rule.Slice.PartMut.{put_mid}
use Rattle.station.specs.Memory.{of_rows, line_from, lines_from, station_in}
use Rattle.station.proofs.Laws.Memory.{EightRows, row_inside, line_at_lem, line_set}
use Rattle.station.specs.CallContracts.{called_as, Delivers}
use Rattle.station.specs.declared.row.Row.{Row}
use Rattle.station.specs.Parts.{row_of, reply_to, Fills}

-- ---- A line's numbers

-- what is read of the rows of a line as waiting is what waits
pub waits_are : (m p c b oldest : List ℕ) (r : Row) → r ≡ row_of m p → oldest ≡ take r.count (drop r.first b)
    → oldest ≡ waiting (line_from m p c b)
unfolding waiting
waits_are m p c b oldest r e h = h ∙ rw e refl

-- ---- Deliveries to a line

-- what waits, copied to the front of a room, and the bytes behind it
laid_is : (room oldest bytes x y : List ℕ) → length room ≡ 256 → length oldest + length bytes ≤ 256
    → x ≡ paste room 0 oldest (length oldest) → y ≡ paste x (length oldest) bytes (length bytes)
    → y ≡ over (oldest ++ bytes) room
laid_is room oldest bytes x y long h p q =
    let z : x ≡ over oldest room = p ∙ paste_over [] room oldest 0 refl (omega arith) in
    q ∙ rw z (paste_over oldest room bytes (length oldest) refl (omega arith))

-- and these, copied from the room to the front of the inbox
put_is : (inbox room bytes front put y : List ℕ) (n : ℕ) → length inbox ≡ 256 → n ≤ 256 → length bytes ≡ n → front ≡ take n (over bytes room)
    → put ≡ front → y ≡ put_mid 0 n inbox put → y ≡ over bytes inbox
put_is inbox room bytes front put y n long h m e f p =
    let z : front ≡ bytes = e ∙ rw (← m) (take-append_seam bytes (drop (length bytes) room)) in
    p ∙ put_mid-paste 0 n inbox put bytes n (f ∙ z) refl (sym m) ∙ rw (← m) (paste_over [] inbox bytes 0 refl (omega (arith, m)))

-- 17
pub fill_closed : (l : StationLine) (bytes : List ℕ) → l.opened ≡ 0 → Fills l bytes (Err LineClosed) l
unfolding filling need
fill_closed l bytes h =
    let e = eq-eqb l.opened 0 h in
    record { reply_is = rw e; line_is = rw e }

module _ (l : StationLine) (long : length l.inbox ≡ 256) (oldest : List ℕ) (w : oldest ≡ waiting l) (h : l.opened ≡ 0 → ⊥)
    (bytes : List ℕ) where
  -- 15
  pub fill_over : 256 - length oldest < length bytes → Fills l bytes (Err NoRoom) l
  unfolding filling need
  fill_over k =
      let e = ne_eqb l.opened 0 h in
      let n : length oldest ≡ length (waiting l) = ap length w in
      let f = lt-leb (length (waiting l) + length bytes) 256 (omega (arith, waiting_most l long)) in
      record { reply_is = rw (e, f); line_is = rw (e, f) }

  pub fill_done : length bytes ≤ 256 - length oldest → (room moved laid front put inbox : List ℕ) → length room ≡ 256
      → moved ≡ paste room 0 oldest (length oldest) → laid ≡ paste moved (length oldest) bytes (length bytes)
      → front ≡ take (length oldest + length bytes) laid → put ≡ front → inbox ≡ put_mid 0 (length oldest + length bytes) l.inbox put
      → Fills l bytes (Ok tt)
      (record {
        opened = l.opened;
        state = l.state;
        first = 0;
        count = length oldest + length bytes;
        content = l.content;
        inbox = inbox;
      })
  unfolding filling need
  fill_done k room moved laid front put inbox wide p q t u r =
      let e = ne_eqb l.opened 0 h in
      let n : length oldest ≡ length (waiting l) = ap length w in
      let f = le-leb (length (waiting l) + length bytes) 256 (omega (arith, waiting_most l long)) in
      let j = laid_is room oldest bytes moved laid wide (omega (arith, waiting_most l long)) p q in
      let i = put_is l.inbox room (oldest ++ bytes) front put inbox _ long (omega (arith, waiting_most l long))
      (length-append oldest bytes) (t ∙ ap (take (length oldest + length bytes)) j) u r in
      record { reply_is = rw (e, f); line_is = rw (i, e, f, w) }

-- ---- Deliveries to the station

module _ (ms ps cs bs : List (List ℕ)) (z : EightRows (of_rows ms ps cs bs))
    (i : ℕ) (bytes : List ℕ) where
  -- the rows of a line are stored, and with them the line
  pub delivered : (reply : Result (Unit {0}) Refusal) (p b : List ℕ) → i < 8
      → Fills (line_from (get_or ms i []) (get_or ps i []) (get_or cs i []) (get_or bs i [])) bytes reply
      (line_from (get_or ms i []) p (get_or cs i []) b)
      → Delivers (of_rows ms ps cs bs) i bytes reply
      (of_rows ms (set ps i p) cs (set bs i b))
  unfolding delivering need
  delivered reply p b h f =
      let s = station_in (of_rows ms ps cs bs) in
      let l = line_from (get_or ms i []) (get_or ps i []) (get_or cs i []) (get_or bs i []) in
      let sizes = row_inside _ z i h in
      let e : line_at s i ≡ l = line_at_lem ms ps cs bs i sizes.0 sizes.1 sizes.2 sizes.3 in
      let t = lt-ltb i 8 h in
      let same : with_line s i l ≡ s = rw (← e, set-get_or s.lines i (zero_line [] [])) in
      let stored : lines_from ms (set ps i p) cs (set bs i b)
      ≡ set (lines_from ms ps cs bs) i (line_from (get_or ms i []) p (get_or cs i []) b) =
      rw (set-get_or ms i [], set-get_or cs i []) at (line_set ms ps cs bs i (get_or ms i []) p (get_or cs i []) b) in
      ap₂ called_as
      (ap (λ (ls : List StationLine). record { lines = ls }) stored ∙ ap (with_line s i) f.line_is) f.reply_is
      ∙ rw (t, e) (left s l (filling l bytes) same)
    where
      left : (s : Station) (l : StationLine) (a : Answer Refusal StationLine) → with_line s i l ≡ s
          → called_as (with_line s i (line_left l a)) (reply_to a) ≡ called s (filled_at s i a)
      left s l (given next) e = refl
      left s l (refused refusal) e = ap (λ (t : Station). called_as t (Err refusal)) e
