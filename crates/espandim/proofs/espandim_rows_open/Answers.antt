-- An opening, of the line's byte in the mode's.
use Rattle.espandim.proofs.Bytes.{opening_byte}
use Rattle.espandim.proofs.Telling.{call_told}
use Rattle.station.specs.History.{opens}
use Rattle.station.specs.Stations.{called}
use Rattle.station.proofs.Laws.Refusals.{opens_called}
use Rattle.std.proofs.Common.{ap, ◌∙◌}
use Rattle.station.specs.Memory.{behind, station_in}
use Rattle.espandim.proofs.espandim_rows_open.Goals as goal

pub returns : goal.returns
returns c =
    let m = behind c.args.marks.now c.args.places.now c.args.contents.now c.args.inboxes.now in
    let s = station_in m in
    call_told m _ _ _ (c.from.ensures ∙ c.number_of.ensures) (opens c.args.line c.args.mode) _ (opens_called s c.args.line c.args.mode)
    (c.open-reply.ensures ∙ ap (called s) (opening_byte s c.args.line _ c.byte_of.ensures c.args.mode _ c.byte_of-2.ensures))
