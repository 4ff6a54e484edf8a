-- The number of the outcome, and the count in the lent number.
use Rattle.groups.specs.Groups.{group_of}
use Rattle.groups.specs.Writing.{writing}
use Rattle.espandim.proofs.Bytes.{writing_byte}
use Rattle.espandim.proofs.Telling.{wrote_for, writes}
use Rattle.std.proofs.Common.{sym, ◌∙◌, length}
use Rattle.espandim.proofs.espandim_write.Goals as goal

pub returns : goal.returns
returns c =
    let group = group_of c.args.label.now c.args.stamp.now c.args.«data».now in
    let room = length c.args.buffer.now in
    writes (writing c.args.mode group room) c.args.buffer.now _ c.write-done.result _ _
    (wrote_for _ _ c.args.buffer.now _ _ (sym (writing_byte c.args.mode _ c.byte_of.ensures group room)) c.write-done.ensures)
    (c.from.ensures ∙ c.number_of_writing.ensures) c.unwrap_or.ensures
