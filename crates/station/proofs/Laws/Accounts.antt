-- What the callers know of a line, its account, is right: nothing is lost, the answers are those of the bytes taken, no
-- other line makes a difference, and no byte waits too long.
use Rattle.std.specs.Prelude.{◌≡◌, refl, Bool, true, false, List, [], ◌∷◌, ◌++◌, map, ℕ, ◌+◌, ◌/◌, ◌≤◌, ◌<◌, T, length, take}
use Rattle.std.proofs.Common.{sym, ap, ◌∙◌, append_assoc, append-nil, arith, length-append, length-take, take-add, take-take, eq-eqb}
use Rattle.std.proofs.lemmas.Bool.{false≢true}
use Rattle.std.proofs.Math.Option.{Option, none, some}
use Rattle.std.proofs.lemmas.List.{length-map}
use Rattle.std.proofs.Math.Seq.{take-append_seam, drop-append_seam}
use Rattle.characters.specs.Answers.{pick}
use Rattle.groups.specs.Modes.{mode_of, is_known, is_mode}
use Rattle.groups.proofs.Laws.Tests.{not_some}
use Rattle.groups.specs.declared.Mode.{Mode}
use Rattle.line.specs.Lines.{State}
use Rattle.line.specs.Entries.{Entry, Framed, first_entry}
use Rattle.line.specs.FrameNumbers.{begun, framed_after, framed_answers}
use Rattle.line.specs.ByBytes.{frame_number, answers_due, up_to_answer}
use Rattle.line.proofs.Promises.{answers_by_bytes, count_by_bytes, opened_by_bytes}
use Rattle.line.specs.Numbers.{shown_framed}
use Rattle.line.proofs.Laws.FrameNumbers.{until_first, up_most, first_number}
use Rattle.station.specs.Lines.{is_open, waiting}
use Rattle.station.specs.Stations.{all_closed, line_at}
use Rattle.station.specs.Sheets.{Told}
use Rattle.station.specs.History.{
  Call,
  opens,
  next,
  gets,
  run,
  hears,
  events,
  Sight,
  took,
  seen_of,
  seen,
  Account,
  never,
  afresh,
  entered,
  account,
  account_of,
  bytes_taken,
  bytes_waiting,
  turns_among,
  stays_open,
  taken_in,
}
use Rattle.station.specs.OneLine.{Line, closed, opened, quota, turn_told, line_sight}
use Rattle.station.specs.Due.{turn_behind, turn_in, turn_due}
use Rattle.station.proofs.Laws.Balance.{Balance, balance, quota_most}
use Rattle.station.proofs.Laws.Bound as bound
use Rattle.station.proofs.Laws.Views.{framed_line, stands_for}
use Rattle.station.proofs.Laws.Calls.{Made, made_closed, closed_at_first, alone, made_next, projected, made_run}
use Rattle.station.specs.Records.{StationLine, Station}

-- ---- A line and its account

-- after any calls a line and its account balance
pub balanced : (i : ℕ) (cs : List Call) → i < 8 → Balance (stands_for (line_at (run all_closed cs) i)) (account_of i cs)
balanced i cs h =
    let p = projected i all_closed cs h made_closed in
    rw (p.line_is, p.seen_is, closed_at_first i h) (balance closed never (events i cs) refl)

-- the bytes that wait on an open line are those that wait in its record
open_waits : (l : StationLine) (mode : ℕ) (s : Framed State) (inbox : List ℕ) → stands_for l ≡ opened mode s inbox
    → waiting l ≡ inbox
unfolding stands_for pick
open_waits l mode s inbox = go (is_open l)
  where
    go : (b : Bool) → pick b (opened l.state.mode (framed_line l) (waiting l)) closed
        ≡ opened mode s inbox
        → waiting l ≡ inbox
    go true e = cc
    go false e = cc

-- what is so of a line that was last opened in a mode, and of its account
record Since (m : Mode) (l : StationLine) (a : Account) : Type 0 where
  mode : ℕ
  of_mode : mode_of mode ≡ some m
  stands : stands_for l ≡ opened mode (framed_after mode begun (bytes_taken a)) (bytes_waiting a)
  waits : waiting l ≡ bytes_waiting a
  taken_most : a.taken ≤ length a.accepted
  told : a.answered ≡ map shown_framed (framed_answers mode begun (bytes_taken a))

-- it is so where line and account balance
since_balanced : (l : StationLine) (x : Line) (a : Account) (m : Mode) → stands_for l ≡ x → Balance x a
    → a.mode ≡ some m → Since m l a
since_balanced l closed a m q b e = not_some (ap (λ (x : Account). x.mode) (sym b) ∙ e)
since_balanced l (opened mode s inbox) a m q b e =
    let t : bytes_taken a ≡ b.bytes = rw (b.whole, b.counted, take-append_seam) in
    let w : bytes_waiting a ≡ inbox = rw (b.whole, b.counted, drop-append_seam) in
    record {
      mode = mode;
      of_mode = sym b.same_mode ∙ e;
      stands = q ∙ rw (t, w, b.reached);
      waits = open_waits l mode s inbox q ∙ sym w;
      taken_most = rw (b.whole, b.counted) (simp length-append (omega arith));
      told = rw t b.told;
    }

-- after any calls it is so of a line that was last opened in this mode
since : (i : ℕ) (cs : List Call) (m : Mode) → i < 8 → (account_of i cs).mode ≡ some m
    → Since m (line_at (run all_closed cs) i) (account_of i cs)
since i cs m h e =
    let l = line_at (run all_closed cs) i in
    since_balanced l (stands_for l) (account_of i cs) m refl (balanced i cs h) e

-- ---- Nothing lost, and the answers right

-- a line that was not opened is closed
closed_stands : (x : Line) (a : Account) → Balance x a → a.mode ≡ none → (x ≡ closed) × (a ≡ never)
closed_stands closed a b e = (refl, b)
closed_stands (opened mode s inbox) a b e =
    absurd (false≢true (ap is_known (sym e ∙ b.same_mode) ∙ b.known))

-- it has accepted, taken and answered nothing
pub not_opened : (i : ℕ) (cs : List Call) → i < 8 → (account_of i cs).mode ≡ none → account_of i cs ≡ never
not_opened i cs h e = (closed_stands (stands_for (line_at (run all_closed cs) i)) (account_of i cs) (balanced i cs h) e).1

-- no more bytes are taken than were accepted
pub none_twice : (i : ℕ) (cs : List Call) → i < 8 → (account_of i cs).taken ≤ length (account_of i cs).accepted
none_twice i cs h = go (account_of i cs).mode refl
  where
    go : (o : Option Mode) → (account_of i cs).mode ≡ o → (account_of i cs).taken ≤ length (account_of i cs).accepted
    go none e = rw (not_opened i cs h e) (omega arith)
    go (some m) e = (since i cs m h e).taken_most

-- and the others wait in the inbox
pub none_lost : (i : ℕ) (cs : List Call) (m : Mode) → i < 8 → (account_of i cs).mode ≡ some m
    → ((account_of i cs).taken ≤ length (account_of i cs).accepted)
    × (waiting (line_at (run all_closed cs) i) ≡ bytes_waiting (account_of i cs))
none_lost i cs m h e = let x = since i cs m h e in (x.taken_most, x.waits)

-- the answers shown are those that are due by the bytes taken
pub answers_right : (i : ℕ) (cs : List Call) (m : Mode) → i < 8 → (account_of i cs).mode ≡ some m
    → (account_of i cs).answered ≡ answers_due m [] (bytes_taken (account_of i cs))
answers_right i cs m h e =
    let x = since i cs m h e in
    x.told ∙ opened_by_bytes x.mode m x.of_mode (bytes_taken (account_of i cs))

-- ---- What a turn tells

-- a line by itself tells of a turn what is due by its bytes
turn_behind_lem : (mode : ℕ) (m : Mode) → mode_of mode ≡ some m → (before inbox : List ℕ)
    → turn_told (opened mode (framed_after mode begun before) inbox) ≡ turn_behind m before (take 64 inbox)
unfolding turn_told
turn_behind_lem mode m k before inbox =
    let s = framed_after mode begun before in
    let oldest = take 64 inbox in
    let first : first_entry (map shown_framed (framed_answers mode s (take (quota mode s inbox) inbox))) ≡ first_entry (answers_due m before oldest) =
    rw (← (take-take (quota mode s inbox) 64 inbox (quota_most mode s inbox).1), until_first mode s oldest, answers_by_bytes mode m k before oldest) in
    rw (first, count_by_bytes mode m k before oldest)

-- so does a line that balances with its account
pub turn_balanced : (x : Line) (a : Account) → Balance x a → turn_told x ≡ turn_due 64 a
unfolding turn_told
turn_balanced closed a b = rw b
turn_balanced (opened mode s inbox) a b = by_mode (mode_of mode) refl b.known
  where
    t : bytes_taken a ≡ b.bytes
    t = rw (b.whole, b.counted, take-append_seam)

    w : bytes_waiting a ≡ inbox
    w = rw (b.whole, b.counted, drop-append_seam)

    by_mode : (o : Option Mode) → mode_of mode ≡ o → is_known o ≡ true → turn_told (opened mode s inbox) ≡ turn_due 64 a
    by_mode none e k = absurd (false≢true k)
    by_mode (some m) e k = rw (b.same_mode, e, t, w, b.reached) (turn_behind_lem mode m e b.bytes inbox)

pub turn_right : (i : ℕ) (cs : List Call) → i < 8
    → turn_told (stands_for (line_at (run all_closed cs) i)) ≡ turn_due 64 (account_of i cs)
turn_right i cs h = turn_balanced (stands_for (line_at (run all_closed cs) i)) (account_of i cs) (balanced i cs h)

-- ---- An opening

-- an account goes over two lists of sights one after the other
account_append : (a : Account) (xs ys : List Sight) → account a (xs ++ ys) ≡ account (account a xs) ys
account_append a [] ys = refl
account_append a (x ∷ xs) ys = account_append (entered a x) xs ys

-- whatever came before, after an opening the account begins anew
afresh_after : (i : ℕ) (s : Station) (a : Account) (cs : List Call) (mode : ℕ) → i < 8 → is_mode mode ≡ true → Made s
    → account a (seen i s (cs ++ opens i mode ∷ [])) ≡ afresh (mode_of mode)
unfolding hears line_sight entered pick
afresh_after i s a [] mode h k m = rw ((alone i s (opens i mode) h m).seen_is, eq-eqb i i refl, k)
afresh_after i s a (c ∷ cs) mode h k m =
    account_append a (seen_of i c (gets s c)) (seen i (next s c) (cs ++ opens i mode ∷ []))
    ∙ afresh_after i (next s c) (account a (seen_of i c (gets s c))) cs mode h k (made_next s c m)

-- an opening drops what waits, and the line begins anew
pub opening_drops : (i : ℕ) (cs : List Call) (mode : ℕ) (m : Mode) → i < 8 → mode_of mode ≡ some m
    → account_of i (cs ++ opens i mode ∷ []) ≡ afresh (some m)
opening_drops i cs mode m h k =
    afresh_after i all_closed never cs mode h (ap is_known k) made_closed ∙ ap afresh k

-- ---- One call more

-- what is seen of it is seen last
seen_more : (i : ℕ) (s : Station) (cs : List Call) (c : Call)
    → seen i s (cs ++ c ∷ []) ≡ seen i s cs ++ seen_of i c (gets (run s cs) c)
seen_more i s [] c = append-nil (seen_of i c (gets s c))
seen_more i s (d ∷ cs) c =
    ap (λ (xs : List Sight). seen_of i d (gets s d) ++ xs) (seen_more i (next s d) cs c)
    ∙ sym (append_assoc (seen_of i d (gets s d)) (seen i (next s d) cs) _)

pub account_more : (i : ℕ) (cs : List Call) (c : Call)
    → account_of i (cs ++ c ∷ []) ≡ account (account_of i cs) (seen_of i c (gets (run all_closed cs) c))
account_more i cs c =
    ap (account never) (seen_more i all_closed cs c) ∙ account_append never (seen i all_closed cs) _

-- the number with the answer of a turn is that of the bytes that the line has taken then
pub turn_number : (n : ℕ) (a : Account) (t : Told) (e : Framed Entry) → t ≡ turn_due n a → t.entry ≡ some e
    → e.frame ≡ frame_number (bytes_taken (entered a (took t)))
unfolding entered
turn_number n a t e same = rw same (go a.mode)
  where
    go : (o : Option Mode) → (turn_in n o a).entry ≡ some e
        → e.frame ≡ frame_number (take (a.taken + (turn_in n o a).count) a.accepted)
    go none q = not_some q
    go (some m) q =
        let waiting = bytes_waiting a in
        let k = up_to_answer m (bytes_taken a) (take n waiting) in
        let most = up_most m (bytes_taken a) (take n waiting) in
        let long = length-take n waiting in
        rw (take-add a.taken k a.accepted, ← (take-take k n waiting (omega arith)))
        (first_number m (bytes_taken a) (take n waiting) e q)

-- ---- Lines apart, and the bound

-- what is seen of a line depends on its own events alone
pub lines_apart : (i : ℕ) (cs ds : List Call) → i < 8 → events i cs ≡ events i ds
    → seen i all_closed cs ≡ seen i all_closed ds
lines_apart i cs ds h e =
    let p = projected i all_closed cs h made_closed in
    let q = projected i all_closed ds h made_closed in
    p.seen_is ∙ rw e (sym q.seen_is)

-- the bytes p, the oldest that wait, are taken in time
pub taken_in_time : (i : ℕ) (cs ds : List Call) (m : Mode) (p more : List ℕ) → i < 8
    → (account_of i cs).mode ≡ some m
    → bytes_waiting (account_of i cs) ≡ p ++ more
    → T (stays_open (events i ds))
    → (length p + 63) / 64 + length (answers_due m (bytes_taken (account_of i cs)) p) ≤ turns_among (events i ds)
    → length p ≤ taken_in (seen i (run all_closed cs) ds)
taken_in_time i cs ds m p more h e w t b =
    let x = since i cs m h e in
    let before = bytes_taken (account_of i cs) in
    let q = projected i (run all_closed cs) ds h (made_run all_closed cs made_closed) in
    let k : length (answers_due m before p) ≡ length (framed_answers x.mode (framed_after x.mode begun before) p) =
    rw (← (answers_by_bytes x.mode m x.of_mode before p)) (length-map (framed_answers x.mode (framed_after x.mode begun before) p) shown_framed) in
    rw (q.seen_is, x.stands, w)
    (bound.taken_in_time x.mode (framed_after x.mode begun before) p more (events i ds) t (rw k at b))
