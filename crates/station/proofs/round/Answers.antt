-- A round that is refused, and one that is not.
use Rattle.station.proofs.Rounding.{round_done, round_short}
use Rattle.station.specs.Memory.{behind, station_in}
use Rattle.station.proofs.round.Goals as goal

pub returns-then-sheet-lt-SMALLEST_SHEET : goal.returns-then-sheet-lt-SMALLEST_SHEET
returns-then-sheet-lt-SMALLEST_SHEET c =
    round_short (station_in (behind c.args.marks.now c.args.places.now c.args.contents.now c.args.inboxes.now)) c.args.sheet.now c.if-sheet-lt-SMALLEST_SHEET.true

pub returns : goal.returns
returns c =
    round_done (station_in (behind c.args.marks.now c.args.places.now c.args.contents.now c.args.inboxes.now)) _ c.args.sheet.now _ _
    c.if-sheet-lt-SMALLEST_SHEET.false c.serve.ensures
