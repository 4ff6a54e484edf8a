-- The sums of the pieces are the sum of the whole.
use Rattle.std.proofs.Common.{arith}
use Rattle.groups.specs.Inside.{check_from}
use Rattle.groups.proofs.reading.check_from.Goals as goal

pub returns : goal.returns
unfolding check_from
returns c = omega (arith, c.check_by.ensures, c.sum.ensures, c.separator.ensures)
