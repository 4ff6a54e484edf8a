-- The head of the entry, then label, stamp and data.
use Rattle.station.proofs.Entries.{put_group}
use Rattle.station.proofs.sheet.Pen.put_group.Goals as goal

pub returns-clause-entry : goal.returns-clause-entry
returns-clause-entry c =
    put_group c.args.self.now.sheet.now c.args.self.now.at c.args.label.now c.args.stamp.now c.args.«data».now c.args.low c.args.high
    c.requires.short c.requires.room _ _ _ _ _ _ _ _
    (c.put.ensures.on, c.put.ensures.written) (c.put-2.ensures.on, c.put-2.ensures.written)
    (c.put-3.ensures.on, c.put-3.ensures.written) (c.put-4.ensures.on, c.put-4.ensures.written)
