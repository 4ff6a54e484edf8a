-- CR in a group is that of the rules.
use Rattle.line.proofs.Laws.Written.{cr_symbol}
use Rattle.line.proofs.step.move_of.Goals as goal

pub returns-in-Group : goal.returns-in-Group
returns-in-Group c = rw (c.if-byte-wire_byte.true, c.wire_byte.ensures, c.in-Group.is, cr_symbol)
