-- The sum is that of the definition.
use Rattle.groups.specs.Packed.{packed}
use Rattle.std.proofs.Common.{arith}
use Rattle.groups.proofs.find.four.Goals as goal

pub returns : goal.returns
unfolding packed
returns c = omega arith
