-- STX has one wire byte.
use Rattle.std.proofs.Common.{arith}
use Rattle.line.proofs.InRows.{stx_wire}
use Rattle.line.proofs.frames.is_stx.Goals as goal

pub returns : goal.returns
returns c = stx_wire c.args.byte _ (omega arith) c.wire_byte.ensures
