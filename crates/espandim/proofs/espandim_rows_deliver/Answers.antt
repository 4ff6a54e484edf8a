-- A delivery, to the line's byte.
use Rattle.espandim.proofs.Bytes.{delivering_byte}
use Rattle.espandim.proofs.Telling.{call_told}
use Rattle.station.specs.History.{delivers}
use Rattle.station.specs.Stations.{called}
use Rattle.station.proofs.Laws.Refusals.{delivers_called}
use Rattle.std.proofs.Common.{ap, ◌∙◌}
use Rattle.station.specs.Memory.{behind, station_in}
use Rattle.espandim.proofs.espandim_rows_deliver.Goals as goal

pub returns : goal.returns
returns c =
    let m = behind c.args.marks.now c.args.places.now c.args.contents.now c.args.inboxes.now in
    let s = station_in m in
    call_told m _ _ _ (c.from.ensures ∙ c.number_of.ensures) (delivers c.args.line c.args.bytes.now) _
    (delivers_called s c.args.line c.args.bytes.now)
    (c.deliver-reply.ensures ∙ ap (called s) (delivering_byte s c.args.line _ c.byte_of.ensures c.args.bytes.now))
