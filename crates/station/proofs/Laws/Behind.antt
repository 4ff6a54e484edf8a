-- The answers to a line's bytes behind its first k, as the sheets show them, are those due to these bytes. So behind a sound
-- STX two lines of one mode have the same, whatever went before (document 02, M-113).
use Rattle.std.specs.Prelude.{◌≡◌, refl, Bool, true, false, List, [], ◌∷◌, ◌++◌, ℕ, ◌+◌, ◌-◌, ◌≤◌, ◌<◌, T, eqb, leb, ltb, length, take, drop}
use Rattle.std.proofs.Common.{sym, ap, ◌∙◌, arith, length-append, length-take, take-append-drop, drop_of_length-le, take-take, take-add, ltb-true, ltb-false, leb-true, leb-false}
use Rattle.std.proofs.Math.Option.{Option, none, some}
use Rattle.std.proofs.lemmas.List.{map-append, take-append-le, drop-append-le}
use Rattle.std.proofs.Math.Seq.{take-append-add, drop-append-add}
use Rattle.characters.specs.Answers.{pick}
use Rattle.characters.specs.Wire.{STX}
use Rattle.groups.specs.Modes.{mode_of, is_mode}
use Rattle.groups.specs.declared.Mode.{Mode}
use Rattle.line.specs.Entries.{Entry, Framed, unframed, entry_list, first_entry}
use Rattle.line.specs.ByBytes.{is, answers_due, up_to_answer}
use Rattle.line.proofs.Laws.DueInOrder.{due_append, due_none, due_first, due_last}
use Rattle.line.proofs.Laws.FromStx.{answers_from, first_none}
use Rattle.line.proofs.Laws.FrameNumbers.{up_most}
use Rattle.station.specs.Stations.{all_closed}
use Rattle.station.specs.History.{
  Call,
  Event,
  opening_in,
  delivery_of,
  turn,
  events,
  was,
  got,
  took,
  Account,
  never,
  entered,
  account,
  account_of,
  bytes_taken,
  bytes_waiting,
  shown_behind,
  gathered,
  answers_behind,
}
use Rattle.station.specs.OneLine.{Line, closed, opened, line_after, line_sight, line_seen}
use Rattle.station.specs.Due.{turn_in, turn_due}
use Rattle.station.proofs.Laws.Balance.{Balance, balance_event}
use Rattle.station.proofs.Laws.Calls.{made_closed, closed_at_first, projected}
use Rattle.station.proofs.Laws.Accounts.{answers_right, turn_balanced}

-- ---- What is due

abbrev due_behind : ℕ → Option Mode → List ℕ → List (Framed Entry)
due_behind k none bytes = []
due_behind k (some m) bytes = answers_due m (take k bytes) (drop k bytes)

-- nothing is due behind all of them
none_behind : (k : ℕ) (m : Mode) (bytes : List ℕ) → length bytes ≤ k → due_behind k (some m) bytes ≡ []
none_behind k m bytes h = rw (drop_of_length-le bytes {i = k} h) (due_none m (take k bytes))

-- with a stretch more, up to and including the first byte that gives an answer
stretch_behind : (m : Mode) (k : ℕ) (before bs : List ℕ)
    → let n = up_to_answer m before bs in
    due_behind k (some m) (before ++ take n bs)
    ≡ due_behind k (some m) before
    ++ pick (ltb k (length before + n)) (entry_list (first_entry (answers_due m before bs))) []
unfolding pick
stretch_behind m k before bs = by_end (ltb k (length before + n)) refl
  where
    n : ℕ
    n = up_to_answer m before bs

    told : List (Framed Entry)
    told = entry_list (first_entry (answers_due m before bs))

    long : length (before ++ take n bs) ≡ length before + n
    long =
        let most = up_most m before bs in
        let cut = length-take n bs in
        length-append before (take n bs) ∙ omega arith

    by_start : (inside : Bool) → leb k (length before) ≡ inside → k < length before + n
        → due_behind k (some m) (before ++ take n bs) ≡ due_behind k (some m) before ++ told
    by_start true e h =
        let q = leb-true k (length before) e in
        rw (take-append-le k before (take n bs) q, drop-append-le k before (take n bs) q)
        (due_append m (take k before) (drop k before) (take n bs)
        ∙ rw (take-append-drop k before, due_first m before bs))
    by_start false e h =
        let q = leb-false k (length before) e in
        let j = k - length before in
        let whole : k ≡ length before + j = omega arith in
        let first : take j (take n bs) ≡ take j bs = take-take j n bs (omega arith) in
        rw (none_behind k m before (omega arith))
        (rw (whole, take-append-add before (take n bs) j, drop-append-add before (take n bs) j, first)
        (due_last m before bs j (omega arith)))

    by_end : (more : Bool) → ltb k (length before + n) ≡ more
        → due_behind k (some m) (before ++ take n bs) ≡ due_behind k (some m) before ++ pick more told []
    by_end true e = by_start (leb k (length before)) refl (ltb-true k (length before + n) e)
    by_end false e =
        let q = ltb-false k (length before + n) e in
        rw (none_behind k m before (omega arith)) (none_behind k m (before ++ take n bs) (omega (arith, long)))

-- ---- What is shown

-- no more is taken than was accepted
taken_most : (l : Line) (a : Account) → Balance l a → a.taken ≤ length a.accepted
taken_most closed a b = rw b (omega arith)
taken_most (opened mode s inbox) a b = rw (b.whole, b.counted) (simp length-append (omega arith))

-- what is due behind the first k of the bytes that were taken
abbrev due_in : ℕ → Account → List (Framed Entry)
due_in k a = due_behind k a.mode (bytes_taken a)

-- an opening that is accepted begins anew, and a refused one changes nothing
opening_shown : (k mode : ℕ) (a : Account) (known : Bool)
    → let x = was mode (pick known 0 19) in
    shown_behind k (entered a x) (due_in k a) x ≡ due_in k (entered a x)
unfolding entered shown_behind pick
opening_shown k mode a true = go (mode_of mode)
  where
    go : (o : Option Mode) → [] ≡ due_behind k o []
    go none = refl
    go (some m) = sym (none_behind k m [] (omega arith))
opening_shown k mode a false = refl

-- delivered bytes wait behind the others
delivery_shown : (k number : ℕ) (a : Account) (bytes : List ℕ) → a.taken ≤ length a.accepted
    → shown_behind k (entered a (got bytes number)) (due_in k a) (got bytes number) ≡ due_in k (entered a (got bytes number))
unfolding entered shown_behind
delivery_shown k number a bytes h = rw (take-append-le a.taken a.accepted (pick (eqb number 0) bytes []) h)

-- a turn shows the answer of its last byte
turn_in_lem : (k : ℕ) (a : Account) (o : Option Mode) → a.taken ≤ length a.accepted
    → let x = took (turn_in 64 o a) in
    shown_behind k (entered a x) (due_behind k o (bytes_taken a)) x ≡ due_behind k o (bytes_taken (entered a x))
unfolding entered shown_behind pick
turn_in_lem k a none h = go (ltb k (a.taken + 0))
  where
    go : (more : Bool) → pick {X = List (Framed Entry)} more [] [] ≡ []
    go true = refl
    go false = refl
turn_in_lem k a (some m) h =
    let waiting = bytes_waiting a in
    let n = up_to_answer m (bytes_taken a) (take 64 waiting) in
    let most = up_most m (bytes_taken a) (take 64 waiting) in
    let cut = length-take 64 waiting in
    let long : length (bytes_taken a) ≡ a.taken = length-take a.taken a.accepted ∙ omega arith in
    rw (take-add a.taken n a.accepted, ← (take-take n 64 waiting (omega arith)))
    (sym (rw long at (stretch_behind m k (bytes_taken a) (take 64 waiting))))

turn_shown : (k : ℕ) (a : Account) → a.taken ≤ length a.accepted
    → let x = took (turn_due 64 a) in
    shown_behind k (entered a x) (due_in k a) x ≡ due_in k (entered a x)
unfolding entered
turn_shown k a h = turn_in_lem k a a.mode h

-- each event of a line by itself
event_shown : (k : ℕ) (l : Line) (a : Account) (e : Event) → Balance l a
    → let x = line_sight l e in
    shown_behind k (entered a x) (due_in k a) x ≡ due_in k (entered a x)
unfolding line_sight
event_shown k l a (opening_in mode) b = opening_shown k mode a (is_mode mode)
event_shown k l a (delivery_of bytes) b = delivery_shown k _ a bytes (taken_most l a b)
event_shown k l a turn b = rw (turn_balanced l a b) (turn_shown k a (taken_most l a b))

-- and events one after the other
events_shown : (k : ℕ) (l : Line) (a : Account) (es : List Event) → Balance l a
    → gathered k a (due_in k a) (line_seen l es) ≡ due_in k (account a (line_seen l es))
events_shown k l a [] b = refl
events_shown k l a (e ∷ es) b =
    let next = entered a (line_sight l e) in
    ap (λ (before : List (Framed Entry)). gathered k next before (line_seen (line_after l e) es)) (event_shown k l a e b)
    ∙ events_shown k (line_after l e) next es (balance_event l a e b)

-- ---- On the station

-- the answers that the sheets show to the bytes behind the first k are those due to these bytes
pub answers_behind_lem : (i k : ℕ) (cs : List Call) (m : Mode) → i < 8 → (account_of i cs).mode ≡ some m
    → let bytes = bytes_taken (account_of i cs) in
    answers_behind k i cs ≡ answers_due m (take k bytes) (drop k bytes)
answers_behind_lem i k cs m h e =
    let p = projected i all_closed cs h made_closed in
    let all : answers_behind k i cs ≡ due_in k (account_of i cs) =
    rw (p.seen_is, closed_at_first i h) (events_shown k closed never (events i cs) refl) in
    rw e at all

-- those to the bytes behind an STX are the ones due to a line that took nothing before it
behind_stx : (i : ℕ) (cs : List Call) (m : Mode) (before bytes : List ℕ) (stx : ℕ) → i < 8
    → (account_of i cs).mode ≡ some m → T (is STX stx) → bytes_taken (account_of i cs) ≡ before ++ stx ∷ bytes
    → unframed (answers_behind (length before + 1) i cs) ≡ unframed (answers_due m (stx ∷ []) bytes)
behind_stx i cs m before bytes stx h e t b =
    let k = length before + 1 in
    let front : take k (before ++ stx ∷ bytes) ≡ before ++ stx ∷ [] = take-append-add before (stx ∷ bytes) 1 in
    let rest : drop k (before ++ stx ∷ bytes) ≡ bytes = drop-append-add before (stx ∷ bytes) 1 in
    rw (answers_behind_lem i k cs m h e, b, front, rest) (answers_from m before [] stx t bytes)

-- and these are all that such a line tells
pub as_opened : (i j : ℕ) (cs ds : List Call) (m : Mode) (before bytes : List ℕ) (stx : ℕ) → i < 8 → j < 8
    → (account_of i cs).mode ≡ some m → (account_of j ds).mode ≡ some m → T (is STX stx)
    → bytes_taken (account_of i cs) ≡ before ++ stx ∷ bytes
    → bytes_taken (account_of j ds) ≡ stx ∷ bytes
    → unframed (answers_behind (length before + 1) i cs) ≡ unframed (account_of j ds).answered
as_opened i j cs ds m before bytes stx h g e f t b c =
    let all : (account_of j ds).answered ≡ answers_due m (stx ∷ []) bytes = answers_right j ds m g f ∙ rw c (first_none m stx bytes) in
    behind_stx i cs m before bytes stx h e t b ∙ ap unframed (sym all)

-- so two lines have the same, as far as both have taken the same
pub as_far : (i j : ℕ) (cs ds : List Call) (m : Mode) (before past bytes more : List ℕ) (stx : ℕ) → i < 8 → j < 8
    → (account_of i cs).mode ≡ some m → (account_of j ds).mode ≡ some m → T (is STX stx)
    → bytes_taken (account_of i cs) ≡ before ++ stx ∷ bytes
    → bytes_taken (account_of j ds) ≡ past ++ stx ∷ (bytes ++ more)
    → unframed (answers_behind (length past + 1) j ds)
    ≡ unframed (answers_behind (length before + 1) i cs) ++ unframed (answers_due m (stx ∷ bytes) more)
as_far i j cs ds m before past bytes more stx h g e f t b c =
    rw (behind_stx i cs m before bytes stx h e t b, behind_stx j ds m past (bytes ++ more) stx g f t c, due_append m (stx ∷ []) bytes more)
    (map-append (λ (a : Framed Entry). a.what) (answers_due m (stx ∷ []) bytes) (answers_due m (stx ∷ bytes) more))
