-- One line by itself: the bytes at the head of its inbox are taken in time.
use Rattle.std.specs.Prelude.{◌≡◌, Bool, true, false, List, [], ◌∷◌, ◌++◌, ℕ, ◌+◌, ◌*◌, ◌/◌, ◌≤◌, ◌<◌, T, leb, length, take, drop}
use Rattle.std.proofs.Common.{sym, ap, ◌∙◌, append_assoc, arith, length-append, length-take, length-drop, take-append-drop, take-take}
use Rattle.std.proofs.lemmas.List.{take-append-le, drop-append-le}
use Rattle.characters.specs.Answers.{pick}
use Rattle.groups.specs.Modes.{is_mode}
use Rattle.groups.proofs.Laws.Tests.{split}
use Rattle.line.specs.Lines.{State}
use Rattle.line.specs.Entries.{Framed}
use Rattle.line.specs.FrameNumbers.{begun, framed_after, framed_answers}
use Rattle.line.proofs.Laws.FrameNumbers.{answers_append, until_stops}
use Rattle.station.specs.Lines.{most_in_turn}
use Rattle.station.specs.History.{Event, opening_in, delivery_of, turn, turns_among, stays_open, taken_in}
use Rattle.station.specs.OneLine.{opened, quota, line_after, turn_told, line_sight, line_seen}

-- a turn that leaves some of the bytes takes 64, or has an answer
turn_enough : (mode : ℕ) (s : Framed State) (p r : List ℕ) → quota mode s (p ++ r) < length p
    → 64 ≤ quota mode s (p ++ r) + 64 * length (framed_answers mode s (take (quota mode s (p ++ r)) p))
turn_enough mode s p r h =
    let k = quota mode s (p ++ r) in
    split 64 k (λ (g : 64 ≤ k). omega arith) λ (g : k < 64).
    let n = length-take most_in_turn (p ++ r) in
    let m = length-append p r in
    let one = until_stops mode s (take most_in_turn (p ++ r)) (omega arith) in
    rw (sym (take-append-le k p r (omega arith)), sym (take-take k most_in_turn (p ++ r) (omega arith))) (omega arith)

-- the answers to some bytes are as many as those to the first k and to the others
answers_cut : (mode : ℕ) (s : Framed State) (p : List ℕ) (k : ℕ)
    → length (framed_answers mode s p)
    ≡ length (framed_answers mode s (take k p)) + length (framed_answers mode (framed_after mode s (take k p)) (drop k p))
answers_cut mode s p k =
    ap (λ (x : List ℕ). length (framed_answers mode s x)) (sym (take-append-drop k p))
    ∙ ap length (answers_append mode s (take k p) (drop k p))
    ∙ length-append (framed_answers mode s (take k p)) _

-- the bound, with bytes and answers measured together
abbrev Bounded : List Event → Type 0
Bounded es = T (stays_open es) → (mode : ℕ) (s : Framed State) (p r : List ℕ)
    → length p + 64 * length (framed_answers mode s p) ≤ 64 * turns_among es
    → length p ≤ taken_in (line_seen (opened mode s (p ++ r)) es)

-- a refused opening changes nothing, and no other is among the events
bound_opening : (new mode : ℕ) (s : Framed State) (p r : List ℕ) (known : Bool) (es : List Event) → Bounded es
    → T (pick known false (stays_open es)) → length p + 64 * length (framed_answers mode s p) ≤ 64 * turns_among es
    → length p ≤ taken_in (line_seen (pick known (opened new begun []) (opened mode s (p ++ r))) es)
unfolding pick
bound_opening new mode s p r true es rest t h = absurd t
bound_opening new mode s p r false es rest t h = rest t mode s p r h

-- a delivery lays bytes behind, or changes nothing
bound_delivery : (mode : ℕ) (s : Framed State) (p r bytes : List ℕ) (fits : Bool) (es : List Event) → Bounded es
    → T (stays_open es) → length p + 64 * length (framed_answers mode s p) ≤ 64 * turns_among es
    → length p ≤ taken_in (line_seen (pick fits (opened mode s (p ++ r ++ bytes)) (opened mode s (p ++ r))) es)
unfolding pick
bound_delivery mode s p r bytes true es rest t h = rw append_assoc (rest t mode s p (r ++ bytes) h)
bound_delivery mode s p r bytes false es rest t h = rest t mode s p r h

-- a turn takes all of the bytes, or brings the measure down by 64
bound_turn : (mode : ℕ) (s : Framed State) (p r : List ℕ) (k : ℕ) (es : List Event) → Bounded es
    → T (stays_open es) → length p + 64 * length (framed_answers mode s p) ≤ 64 + 64 * turns_among es
    → (k < length p → 64 ≤ k + 64 * length (framed_answers mode s (take k p)))
    → length p ≤ k + taken_in (line_seen (opened mode (framed_after mode s (take k (p ++ r))) (drop k (p ++ r))) es)
bound_turn mode s p r k es rest t h enough =
    split (length p) k (λ (g : length p ≤ k). omega arith) λ (g : k < length p).
    let w = answers_cut mode s p k in
    let n = length-drop k p in
    let j = enough g in
    let z = rest t mode (framed_after mode s (take k p)) (drop k p) r (omega arith) in
    rw (take-append-le k p r (omega arith), drop-append-le k p r (omega arith)) (omega arith)

-- the bound holds of every list of events
bound : (es : List Event) → Bounded es
unfolding line_after line_sight turn_told
bound [] t mode s p r h = omega arith
bound (opening_in new ∷ es) t mode s p r h = bound_opening new mode s p r (is_mode new) es (bound es) t h
bound (delivery_of bytes ∷ es) t mode s p r h =
    bound_delivery mode s p r bytes (leb (length (p ++ r) + length bytes) 256) es (bound es) t h
bound (turn ∷ es) t mode s p r h =
    bound_turn mode s p r (quota mode s (p ++ r)) es (bound es) t (omega arith) (turn_enough mode s p r)

-- n bytes at the head of the inbox that give k answers are taken after ⌈n/64⌉ + k turns without an accepted opening
pub taken_in_time : (mode : ℕ) (s : Framed State) (p r : List ℕ) (es : List Event) → T (stays_open es)
    → (length p + 63) / 64 + length (framed_answers mode s p) ≤ turns_among es
    → length p ≤ taken_in (line_seen (opened mode s (p ++ r)) es)
taken_in_time mode s p r es t h = bound es t mode s p r (omega arith)
