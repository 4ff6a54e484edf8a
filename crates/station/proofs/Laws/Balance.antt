-- One line by itself: nothing that it accepted is lost, and its answers are those of the bytes that it took.
use Rattle.std.specs.Prelude.{◌≡◌, refl, Bool, true, false, List, [], ◌∷◌, ◌++◌, map, ℕ, ◌+◌, ◌≤◌, leb, length, take, drop}
use Rattle.std.proofs.Common.{sym, ap, ◌∙◌, append_assoc, append-nil, arith, length-append, length-take, take-append-drop, length-take-le, take-take}
use Rattle.std.proofs.lemmas.List.{map-append}
use Rattle.characters.specs.Answers.{pick}
use Rattle.groups.specs.Modes.{mode_of, is_mode}
use Rattle.line.specs.Lines.{LineAnswer, State}
use Rattle.line.proofs.Views.{until_most}
use Rattle.line.specs.FrameNumbers.{begun, framed_after, framed_answers}
use Rattle.line.proofs.Laws.FrameNumbers.{after_append, answers_append, after_none, answers_none, until_one}
use Rattle.line.specs.Entries.{Framed, entry_list, first_entry}
use Rattle.line.specs.Numbers.{shown_framed}
use Rattle.station.specs.Lines.{most_in_turn}
use Rattle.station.specs.History.{
  Event,
  opening_in,
  delivery_of,
  turn,
  Sight,
  was,
  got,
  took,
  Account,
  never,
  entered,
  account,
}
use Rattle.station.specs.OneLine.{
  Line,
  closed,
  opened,
  quota,
  line_after,
  turn_told,
  delivery_number,
  line_sight,
  line_run,
  line_seen,
}

-- ---- Events one after the other

-- a line after two lists of events is the line after the second, from the line after the first
pub run_append : (l : Line) (a b : List Event) → line_run l (a ++ b) ≡ line_run (line_run l a) b
run_append l [] b = refl
run_append l (e ∷ a) b = run_append (line_after l e) a b

-- what is seen of two lists of events is what is seen of the first, then of the second from the line after the first
pub seen_append : (l : Line) (a b : List Event) → line_seen l (a ++ b) ≡ line_seen l a ++ line_seen (line_run l a) b
seen_append l [] b = refl
seen_append l (e ∷ a) b = ap (λ (xs : List Sight). line_sight l e ∷ xs) (seen_append (line_after l e) a b)

-- ---- A turn

-- a turn takes no more bytes than wait, and no more than 64
pub quota_most : (mode : ℕ) (s : Framed State) (inbox : List ℕ)
    → (quota mode s inbox ≤ length inbox) × (quota mode s inbox ≤ most_in_turn)
quota_most mode s inbox =
    let h = until_most mode s.what (take most_in_turn inbox) in
    let e = length-take most_in_turn inbox in
    (omega arith, omega arith)

-- a turn gives at most one answer
pub turn_one : (mode : ℕ) (s : Framed State) (inbox : List ℕ)
    → length (framed_answers mode s (take (quota mode s inbox) inbox)) ≤ 1
turn_one mode s inbox =
    rw (sym (take-take (quota mode s inbox) most_in_turn inbox (quota_most mode s inbox).1)) (until_one mode s (take most_in_turn inbox))

-- of one answer at most, the first that is shown is all that is shown
first_shown : (told : List (Framed LineAnswer)) → length told ≤ 1 → entry_list (first_entry (map shown_framed told)) ≡ map shown_framed told
first_shown [] h = refl
first_shown (a ∷ []) h = refl
first_shown (a ∷ b ∷ more) h = absurd (omega arith)

-- ---- The balance

-- of an open line: accepted is taken followed by waiting; state and answers are those of the bytes taken
pub record Balanced (mode : ℕ) (s : Framed State) (inbox : List ℕ) (a : Account) : Type 0 where
  pub bytes : List ℕ
  pub same_mode : a.mode ≡ mode_of mode
  pub known : is_mode mode ≡ true
  pub whole : a.accepted ≡ bytes ++ inbox
  pub counted : a.taken ≡ length bytes
  pub reached : s ≡ framed_after mode begun bytes
  pub told : a.answered ≡ map shown_framed (framed_answers mode begun bytes)

-- of any line: a closed one has no account
abbrev pub Balance : Line → Account → Type 0
Balance closed a = a ≡ never
Balance (opened mode s inbox) a = Balanced mode s inbox a

-- a line that was just opened has no bytes, and a refused opening changes nothing
balance_opened : (mode : ℕ) (l : Line) (a : Account) (known : Bool) → is_mode mode ≡ known → Balance l a
    → Balance (pick known (opened mode begun []) l) (entered a (was mode (pick known 0 19)))
unfolding entered pick
balance_opened mode l a true e b =
    record {
      bytes = [];
      same_mode = refl;
      known = e;
      whole = refl;
      counted = refl;
      reached = sym (after_none mode begun);
      told = rw (answers_none mode begun);
    }
balance_opened mode l a false e b = b

-- delivered bytes wait behind the others, or are not accepted
balance_delivery : (mode : ℕ) (s : Framed State) (inbox bytes : List ℕ) (a : Account) (fits : Bool) → Balanced mode s inbox a
    → Balance (pick fits (opened mode s (inbox ++ bytes)) (opened mode s inbox))
    (entered a (got bytes (pick fits 0 15)))
unfolding entered pick
balance_delivery mode s inbox bytes a true b =
    record {
      bytes = b.bytes;
      same_mode = b.same_mode;
      known = b.known;
      whole = rw (b.whole, append_assoc);
      counted = b.counted;
      reached = b.reached;
      told = b.told;
    }
balance_delivery mode s inbox bytes a false b =
    record {
      bytes = b.bytes;
      same_mode = b.same_mode;
      known = b.known;
      whole = rw append-nil b.whole;
      counted = b.counted;
      reached = b.reached;
      told = b.told;
    }

-- the bytes that a turn takes follow those taken before
balance_turn : (mode : ℕ) (s : Framed State) (inbox : List ℕ) (a : Account) (k : ℕ) → k ≤ length inbox
    → length (framed_answers mode s (take k inbox)) ≤ 1 → Balanced mode s inbox a
    → Balanced mode (framed_after mode s (take k inbox)) (drop k inbox)
    (entered a (took (record { count = k; entry = first_entry (map shown_framed (framed_answers mode s (take k inbox))) })))
unfolding entered
balance_turn mode s inbox a k h one b =
    let more = answers_append mode begun b.bytes (take k inbox) in
    record {
      bytes = b.bytes ++ take k inbox;
      same_mode = b.same_mode;
      known = b.known;
      whole = b.whole ∙ rw (append_assoc, take-append-drop);
      counted = simp length-append (omega (arith, b.counted, length-take-le k inbox h));
      reached = rw b.reached (sym (after_append mode begun b.bytes (take k inbox)));
      told = rw (first_shown _ one, more, b.told, b.reached, map-append);
    }

-- an event keeps the balance
pub balance_event : (l : Line) (a : Account) (e : Event) → Balance l a → Balance (line_after l e) (entered a (line_sight l e))
unfolding line_after line_sight turn_told delivery_number entered pick
balance_event l a (opening_in mode) b = balance_opened mode l a (is_mode mode) refl b
balance_event closed a (delivery_of bytes) b = rw b
balance_event (opened mode s inbox) a (delivery_of bytes) b =
    balance_delivery mode s inbox bytes a (leb (length inbox + length bytes) 256) b
balance_event closed a turn b = rw b
balance_event (opened mode s inbox) a turn b =
    balance_turn mode s inbox a (quota mode s inbox) (quota_most mode s inbox).0 (turn_one mode s inbox) b

-- events keep the balance
pub balance : (l : Line) (a : Account) (es : List Event) → Balance l a
    → Balance (line_run l es) (account a (line_seen l es))
balance l a [] b = b
balance l a (e ∷ es) b = balance (line_after l e) (entered a (line_sight l e)) es (balance_event l a e b)
