-- A round, the counts or zeros, and the number of what it returned.
use Rattle.espandim.proofs.Telling.{round_told}
use Rattle.std.proofs.Common.{◌∙◌}
use Rattle.station.specs.Memory.{behind}
use Rattle.espandim.proofs.espandim_rows_round.Goals as goal

pub returns : goal.returns
returns c =
    round_told (behind c.args.marks.now c.args.places.now c.args.contents.now c.args.inboxes.now) _ c.args.sheet.now _ _ _ _
    c.round-told.ensures (c.from.ensures ∙ c.number_of.ensures) c.counts_of.ensures
