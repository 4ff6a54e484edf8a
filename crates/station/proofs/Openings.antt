-- The ways through `open`, over plain variables.
use mathlib.Core.Path.{◌≡◌, sym, ap}
use mathlib.Core.List.{List, []}
use Rattle.std.specs.Prelude.{Ok, Err, Option, Some, None}
use Prim.Native.Nat.{ℕ, ◌≤◌, ◌<◌}
use lib.ListN.{get_or, set}
use lib.Seq.{set-get_or}
use borrow.Author.Tests.{lt-ltb}
use Rattle.characters.specs.Answers.{need}
use Rattle.line.specs.State.{opening_of}
use Rattle.line.specs.declared.LineState.{LineState}
use Rattle.station.specs.Lines.{opened_as}
use Rattle.station.specs.Stations.{line_at, called, opening, delivering}
use Rattle.station.proofs.Laws.Refusals.{opening_no_line, delivering_no_line}
use Rattle.station.specs.Records.{StationLine, Station}
use Rattle.station.specs.Memory.{of_rows, line_from, lines_from, station_in}
use Rattle.station.proofs.Laws.Memory.{EightRows, row_inside, line_at_lem, line_set}
use Rattle.station.specs.CallContracts.{called_as, Opens}
use Rattle.station.specs.declared.Refusal.TheVariants.{LineUnknown, ModeUnknown}

module _ (s : Station) (i mode : ℕ) (o : Option LineState) (e : o ≡ opening_of mode) where
  pub open_done : i < 8 → (state : LineState) → o ≡ Some state → (l : StationLine)
      → l ≡ opened_as (line_at s i) state
      → called_as (record { lines = set s.lines i l }) (Ok tt) ≡ called s (opening s i mode)
  unfolding opening need
  open_done h state k l x = rw (lt-ltb i 8 h, ← e, k, x)

  -- 19
  pub open_unknown : i < 8 → o ≡ None
      → called_as s (Err ModeUnknown) ≡ called s (opening s i mode)
  unfolding opening need
  open_unknown h k = rw (lt-ltb i 8 h, ← e, k)

-- the two rows of an opened line are stored, and with them the line
pub rows_opened : (ms ps cs bs : List (List ℕ)) → EightRows (of_rows ms ps cs bs) → (i mode : ℕ) (o : Option LineState)
    → o ≡ opening_of mode → i < 8 → (state : LineState) → o ≡ Some state
    → (m p : List ℕ)
    → ((content inbox : List ℕ)
    → line_from m p content inbox
    ≡ opened_as (line_from (get_or ms i []) (get_or ps i []) content inbox) state)
    → Opens (of_rows ms ps cs bs) i mode (Ok tt) (of_rows (set ms i m) (set ps i p) cs bs)
rows_opened ms ps cs bs z i mode o e h state k m p x =
    let s = station_in (of_rows ms ps cs bs) in
    let l = line_from m p (get_or cs i []) (get_or bs i []) in
    let sizes = row_inside _ z i h in
    let at : line_at s i ≡ line_from (get_or ms i []) (get_or ps i []) (get_or cs i []) (get_or bs i []) =
    line_at_lem ms ps cs bs i sizes.0 sizes.1 sizes.2 sizes.3 in
    let stored : lines_from (set ms i m) (set ps i p) cs bs ≡ set (lines_from ms ps cs bs) i l =
    rw (set-get_or cs i [], set-get_or bs i []) at (line_set ms ps cs bs i m p (get_or cs i []) (get_or bs i [])) in
    rw stored (open_done s i mode o e h state k l (rw at (x (get_or cs i []) (get_or bs i []))))

-- 16
pub open_no_line : (s : Station) (i mode : ℕ) → 8 ≤ i
    → called_as s (Err LineUnknown) ≡ called s (opening s i mode)
open_no_line s i mode h = ap (called s) (sym (opening_no_line s i mode h))

pub deliver_no_line : (s : Station) (i : ℕ) (bytes : List ℕ) → 8 ≤ i
    → called_as s (Err LineUnknown) ≡ called s (delivering s i bytes)
deliver_no_line s i bytes h = ap (called s) (sym (delivering_no_line s i bytes h))
