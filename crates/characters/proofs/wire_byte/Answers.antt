-- `wire_byte` meets its contract: the count of ones is the sum of the digits.
use Rattle.std.proofs.Common.{ap, arith, ℕ, ◌+◌, ◌*◌, ◌%◌}
use Rattle.characters.specs.Wire.{wire_byte_of}
use Rattle.characters.proofs.Counting.{ones_counted}
use Rattle.characters.proofs.wire_byte.Goals as goal

pub returns : goal.returns
unfolding wire_byte_of
returns c =
    ap (λ (n : ℕ). c.args.code % 128 + 128 * (n % 2)) (ones_counted (c.args.code % 128) (omega arith))
