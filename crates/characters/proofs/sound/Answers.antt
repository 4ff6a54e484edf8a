-- `sound` meets its contract: the count of ones is the sum of the digits.
use Rattle.std.proofs.Common.{ap, rules, ℕ, ◌%◌, nat_eq}
use Rattle.characters.specs.Wire.{is_sound}
use Rattle.characters.proofs.Counting.{ones_counted}
use Rattle.characters.proofs.sound.Goals as goal

pub returns : goal.returns
unfolding is_sound
returns c = ap (λ (n : ℕ). nat_eq (n % 2) 0) (ones_counted c.args.wire (search rules))
