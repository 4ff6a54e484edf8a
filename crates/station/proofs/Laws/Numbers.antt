-- The numbers that calls return, and what a refused call leaves.
use Rattle.std.specs.Prelude.{◌≡◌, refl, ◌≢◌, List, [], ◌∷◌, ◌++◌, ℕ, ◌<◌, T, ltb, length, Result, Option, Some, None}
use Rattle.std.proofs.Common.{ap, ◌∙◌, le-ltb, le-leb, eq-eqb}
use Rattle.std.proofs.Math.Seq.{drop-append_seam}
use Rattle.std.proofs.lemmas.Bool.{lt-leb}
use Rattle.characters.specs.Answers.{Answer, refused, given, need, by_need, pick}
use Rattle.groups.specs.Modes.{is_mode}
use Rattle.groups.proofs.Laws.Tests.{split}
use Rattle.groups.proofs.Laws.Unknown.{known_below}
use Rattle.line.specs.declared.LineState.{LineState}
use Rattle.line.specs.State.{opening_of}
use Rattle.station.specs.Numbers.{number_of}
use Rattle.station.specs.Lines.{is_open, filling}
use Rattle.station.specs.Stations.{
  all_closed,
  line_at,
  called,
  opening_by,
  opening,
  filled_at,
  delivering,
}
use Rattle.station.specs.Rounds.{turns, round_by, counts_of}
use Rattle.station.specs.History.{
  Call,
  opens,
  delivers,
  serves,
  next,
  gets,
  run,
  hears,
  seen_of,
  Account,
  account_of,
  bytes_waiting,
}
use Rattle.station.specs.OneLine.{Line, closed, opened, delivery_number, line_sight}
use Rattle.station.specs.Due.{numbers_of, is_among, delivery_due, number_due, lent_by, no_counts}
use Rattle.station.proofs.Laws.Balance.{Balance}
use Rattle.station.proofs.Laws.Views.{stands_for}
use Rattle.station.proofs.Laws.Calls.{Made, made_closed, alone, made_run}
use Rattle.station.proofs.Laws.Accounts.{balanced}
use Rattle.station.specs.Records.{StationLine, Station, Turned}
use Rattle.station.specs.declared.Refusal.{Refusal}
use Rattle.station.specs.declared.Refusal.TheVariants.{NoRoom, LineUnknown, LineClosed, SheetShort}

-- ---- Every number is one of the call's kind

-- the number of a reply is one of those of the call
abbrev Among : {A : Type 0} → Call → Result A Refusal → Type 0
Among c reply = T (is_among (number_of reply) (numbers_of c))

-- the number of an opening, whatever the line makes of the mode
opening_among : (s : Station) (i mode : ℕ) (o : Option LineState) → Among (opens i mode) (called s (opening_by s i o)).reply
opening_among s i mode (Some state) = tt
opening_among s i mode None = tt

-- the number of a delivery, whatever comes of filling the line
filling_among : (s : Station) (i : ℕ) (l : StationLine) (bytes : List ℕ)
    → Among (delivers i bytes) (called s (filled_at s i (filling l bytes))).reply
unfolding filling
filling_among s i l bytes =
    by_need (λ a. Among (delivers i bytes) (called s (filled_at s i a)).reply) (is_open l) LineClosed _ (λ t. tt) λ t.
    by_need (λ a. Among (delivers i bytes) (called s (filled_at s i a)).reply) _ NoRoom _ (λ t. tt) λ t. tt

-- the number of any call, on any station
pub numbers_definite : (s : Station) (c : Call) → T (is_among (gets s c).number (numbers_of c))
unfolding gets opening delivering turns
numbers_definite s (opens i mode) =
    by_need (λ a. Among (opens i mode) (called s a).reply) (ltb i 8) LineUnknown _ (λ t. tt) λ t.
    opening_among s i mode (opening_of mode)
numbers_definite s (delivers i bytes) =
    by_need (λ a. Among (delivers i bytes) (called s a).reply) (ltb i 8) LineUnknown _ (λ t. tt) λ t.
    filling_among s i (line_at s i) bytes
numbers_definite s (serves sheet) =
    by_need (λ a. Among (serves sheet) (round_by s sheet a).result.told) _ SheetShort _ (λ t. tt) λ t. tt

-- ---- And it is the one that is due

-- the number of an opening of one of the eight lines
opening_number : (i : ℕ) (s : Station) (mode : ℕ) → i < 8 → Made s
    → (gets s (opens i mode)).number ≡ pick (is_mode mode) 0 19
unfolding hears seen_of line_sight pick
opening_number i s mode h m = let e = rw (eq-eqb i i refl) at (alone i s (opens i mode) h m).seen_is in cc

-- the number of a delivery to one of the eight lines
delivery_number_lem : (i : ℕ) (s : Station) (bytes : List ℕ) → i < 8 → Made s
    → (gets s (delivers i bytes)).number ≡ delivery_number (stands_for (line_at s i)) bytes
unfolding hears seen_of line_sight pick
delivery_number_lem i s bytes h m = let e = rw (eq-eqb i i refl) at (alone i s (delivers i bytes) h m).seen_is in cc

-- the number of a delivery to a line is the one that is due by an account that balances
delivery_due_lem : (l : Line) (a : Account) (bytes : List ℕ) → Balance l a → delivery_number l bytes ≡ delivery_due a bytes
unfolding delivery_number pick
delivery_due_lem closed a bytes b = rw b
delivery_due_lem (opened mode s inbox) a bytes b =
    let n : bytes_waiting a ≡ inbox = rw (b.whole, b.counted, drop-append_seam) in
    rw (b.same_mode, b.known, n)

-- the number of any call is the one that is due
pub numbers_due : (cs : List Call) (c : Call) → (gets (run all_closed cs) c).number ≡ number_due cs c
unfolding gets opening delivering turns need pick
numbers_due cs (opens i mode) =
    split 8 i (λ h. rw (le-ltb i 8 h, le-leb 8 i h)) λ h.
    rw (lt-leb 8 i h, ← known_below mode) (opening_number i (run all_closed cs) mode h (made_run all_closed cs made_closed))
numbers_due cs (delivers i bytes) =
    split 8 i (λ h. rw (le-ltb i 8 h, le-leb 8 i h)) λ h.
    rw (lt-leb 8 i h)
    (delivery_number_lem i (run all_closed cs) bytes h (made_run all_closed cs made_closed)
    ∙ delivery_due_lem (stands_for (line_at (run all_closed cs) i)) (account_of i cs) bytes (balanced i cs h))
numbers_due cs (serves sheet) =
    split 1096 (length sheet) (λ h. rw (le-leb 1096 (length sheet) h)) λ h. rw (lt-leb 1096 (length sheet) h)

-- ---- A refused call

-- leaves the station as it was
refused_keeps : (s : Station) (a : Answer Refusal Station) → number_of (called s a).reply ≢ 0 → (called s a).station ≡ s
refused_keeps s (given after) h = absurd (h refl)
refused_keeps s (refused refusal) h = refl

-- so does a refused round, which leaves the lent bytes as they were and has zero counts
refused_round : (s : Station) (sheet : List ℕ) (a : Answer Refusal (List Turned))
    → number_of (round_by s sheet a).result.told ≢ 0
    → ((round_by s sheet a).result.station ≡ s)
    × ((round_by s sheet a).sheet ≡ sheet)
    × (counts_of (round_by s sheet a).result.told ≡ no_counts (serves sheet))
refused_round s sheet (given ts) h = absurd (h refl)
refused_round s sheet (refused refusal) h = (refl, refl, refl)

-- any refused call changes nothing
pub refused_changes_nothing : (s : Station) (c : Call) → (gets s c).number ≢ 0
    → (next s c ≡ s) × ((gets s c).lent ≡ lent_by c) × ((gets s c).counts ≡ no_counts c)
unfolding gets next
refused_changes_nothing s (opens i mode) h = (refused_keeps s (opening s i mode) h, refl, refl)
refused_changes_nothing s (delivers i bytes) h = (refused_keeps s (delivering s i bytes) h, refl, refl)
refused_changes_nothing s (serves sheet) h = refused_round s sheet (turns s sheet) h

-- leaving it out changes nothing that comes later
pub refused_left_out : (s : Station) (cs ds : List Call) (c : Call) → (gets (run s cs) c).number ≢ 0
    → run s (cs ++ c ∷ ds) ≡ run s (cs ++ ds)
refused_left_out s [] ds c h = ap (λ (x : Station). run x ds) (refused_changes_nothing s c h).0
refused_left_out s (d ∷ cs) ds c h = refused_left_out (next s d) cs ds c h
