-- A delivery to a line that there is is one to its rows.
use Rattle.station.proofs.Inboxes.{delivered}
use Rattle.station.proofs.Openings.{deliver_no_line}
use Rattle.station.specs.Memory.{behind, station_in}
use Rattle.station.proofs.deliver.Goals as goal

pub returns-then-line-ge8 : goal.returns-then-line-ge8
returns-then-line-ge8 c =
    deliver_no_line (station_in (behind c.args.marks.now c.args.places.now c.args.contents.now c.args.inboxes.now)) c.args.line c.args.bytes.now c.if-line-ge8.true

pub returns : goal.returns
returns c =
    delivered c.args.marks.now c.args.places.now c.args.contents.now c.args.inboxes.now
    (record { marks = c.told-marks; places = c.told-places; contents = c.told-contents; inboxes = c.told-inboxes }) c.args.line
    c.args.bytes.now _ c.fill.new.places c.fill.new.inbox c.if-line-ge8.false c.fill.ensures
