-- An opening, by its line number and its mode.
use Rattle.std.proofs.Common.{refl}
use Rattle.station.proofs.Openings.{open_no_line, open_unknown, rows_opened}
use Rattle.station.specs.Memory.{behind, station_in}
use Rattle.station.proofs.open.Goals as goal

pub returns-then-line-ge8 : goal.returns-then-line-ge8
returns-then-line-ge8 c =
    open_no_line (station_in (behind c.args.marks.now c.args.places.now c.args.contents.now c.args.inboxes.now)) c.args.line c.args.mode c.if-line-ge8.true

pub returns-in_default : goal.returns-in_default
returns-in_default c =
    open_unknown (station_in (behind c.args.marks.now c.args.places.now c.args.contents.now c.args.inboxes.now)) c.args.line c.args.mode _ c.open.ensures c.if-line-ge8.false
    c.in_default.is

pub returns : goal.returns
returns c =
    rows_opened c.args.marks.now c.args.places.now c.args.contents.now c.args.inboxes.now
    (record { marks = c.told-marks; places = c.told-places; contents = c.told-contents; inboxes = c.told-inboxes }) c.args.line
    c.args.mode _ c.open.ensures c.if-line-ge8.false _ c.in-Some.is _ _
    (λ content inbox. rw (c.marks.ensures, c.places.ensures, c.opening-row.ensures) refl)
