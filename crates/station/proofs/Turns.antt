-- The ways through `turn`, over plain variables.
use mathlib.Core.Path.{◌≡◌, ap}
use mathlib.Core.List.{List}
use Prim.Native.Nat.{ℕ, ◌+◌, ◌-◌, ◌≤◌}
use native.Mathlib.Omega.{arith}
use lib.ListN.{length, take, length-take}
use lib.Seq.{take_all}
use Rattle.std.proofs.Math.Nat.{min-eq_left, min-eq_right, le_of_lt}
use borrow.Author.Tests.{lt-ltb, le-ltb, eq-eqb, ne_eqb}
use Rattle.characters.specs.Answers.{pick}
use Rattle.groups.proofs.Laws.Tests.{split}
use Rattle.line.specs.State.{line_of}
use Rattle.line.specs.Steps.{fed}
use Rattle.line.proofs.Views.{fed_view, until_most}
use Rattle.line.specs.declared.LineState.{LineState}
use Rattle.line.specs.declared.Taken.{Taken}
use Rattle.line.specs.declared.Heard.TheVariants.{Nothing}
use Rattle.std.specs.Prelude.{min, Some, None}
use Rattle.station.specs.Lines.{waiting, oldest, most_in_turn, turning}
use Rattle.station.specs.Parts.{Turns}
use Rattle.station.proofs.Laws.Views.{Long}
use Rattle.station.specs.Records.{StationLine}

-- a closed line has no turn
pub closed_turn : (l : StationLine) → l.opened ≡ 0 → turning l ≡ record { line = l; count = 0; heard = Nothing }
unfolding turning pick
closed_turn l h = rw (eq-eqb l.opened 0 h)

-- the oldest byte lies inside the inbox
oldest_is : (l : StationLine) → oldest l ≡ min l.first 256
unfolding oldest pick
oldest_is l =
    split l.first 256 (λ h. rw (le-ltb 256 l.first h, min-eq_left h)) (λ h. rw (lt-ltb 256 l.first h, min-eq_right (le_of_lt h)))

module _ (l : StationLine) (long : Long l) where
  pub turn_closed : l.opened ≡ 0 → Turns l l None
  unfolding pick
  turn_closed h =
      let e = closed_turn l h in
      record {
        line_is = rw e;
        told_is = rw (eq-eqb l.opened 0 h);
        content_long = long.content;
        inbox_long = long.inbox;
      }

  module _ (waits : List ℕ) (w : waits ≡ waiting l) (t : Taken)
      (x : t ≡ (fed 0 l.state l.content (take most_in_turn waits)).result) where
    pub turn_open : (l.opened ≡ 0 → ⊥) → (content : List ℕ) → content ≡ (fed 0 l.state l.content (take most_in_turn waits)).content
        → (first : ℕ) → first ≡ min l.first 256
        → Turns l
        (record {
          opened = l.opened;
          state = t.line;
          first = first + t.count;
          count = length waits - t.count;
          content = content;
          inbox = l.inbox;
        })
        (Some (record { count = t.count; heard = t.heard; frame = t.line.frame }))
    unfolding turning pick
    turn_open o content g first k =
        let e = ne_eqb l.opened 0 o in
        let bytes = ap (take most_in_turn) w in
        record {
          line_is = rw (e, ← bytes, g, x, k, oldest_is l, ← w);
          told_is = rw (e, ← bytes, x);
          content_long = long.content;
          inbox_long = long.inbox;
        }

-- no more bytes are taken than 64, or than wait
pub took_few : (state : LineState) (content waits : List ℕ) (t : Taken) → length content ≡ 128
    → t ≡ (fed 0 state content (take most_in_turn waits)).result → (t.count ≤ most_in_turn) × (t.count ≤ length waits)
took_few state content waits t long x =
    let v = fed_view 0 state content (take most_in_turn waits) long in
    let m = until_most state.mode (line_of state content) (take most_in_turn waits) in
    let k = length-take most_in_turn waits in
    rw x (omega (arith, v.count_is), omega (arith, v.count_is))

-- the bytes of a turn
pub oldest_taken : (waits : List ℕ) → take (min (length waits) most_in_turn) waits ≡ take most_in_turn waits
oldest_taken waits =
    split most_in_turn (length waits) (λ k. rw (min-eq_right k)) (λ k.
    rw (min-eq_left (le_of_lt k), take_all most_in_turn waits (omega arith), take_all (length waits) waits (omega arith)))
