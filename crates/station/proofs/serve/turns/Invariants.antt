-- What is left of the lines decides.
use Prim.Native.Nat.{ℕ, ◌*◌, ◌+◌, ◌-◌, ◌≤◌, ◌<◌}
use Rattle.station.specs.Memory.{lines_from}
use Rattle.station.proofs.Serving.{ZerosFrom, served_all, served_from}
use lib.ListN.{length, get_or}
use mathlib.Core.List.{[]}
use mathlib.Core.Path.{◌≡◌}
use Rattle.station.proofs.serve.turns.Given as goal

abbrev pub invariant-loop-i : goal.invariant-loop-i
invariant-loop-i l = record {
  same_sheet : l.initial.pen.sheet.ghost_name ≡ l.pen.sheet.ghost_name;
  at_most : l.pen.at ≤ 24 + 134 * l.i;
  as_long : length l.pen.sheet.now ≡ length l.initial.pen.sheet.now;
  served :
      served_all (lines_from l.initial.marks l.initial.places l.initial.contents l.inboxes) l.initial.pen.sheet.now
      ≡ served_from (8 - l.i) l.i (record {
        lines = lines_from l.marks l.places l.contents l.inboxes;
        counts = l.counts;
        offsets = l.offsets;
        at = l.pen.at;
        sheet = l.pen.sheet.now;
      });
  marks_long : length l.marks ≡ 8;
  places_long : length l.places ≡ 8;
  contents_long : length l.contents ≡ 8;
  no_count : ZerosFrom l.i l.counts;
  no_offset : ZerosFrom (2 * l.i) l.offsets;
  to_come : (j : ℕ) → l.i ≤ j → get_or l.contents j [] ≡ get_or l.initial.contents j [];
  content_long : (j : ℕ) → j < l.i → length (get_or l.initial.contents j []) ≡ 128;
  inbox_long : (j : ℕ) → j < l.i → length (get_or l.inboxes j []) ≡ 256;
}
