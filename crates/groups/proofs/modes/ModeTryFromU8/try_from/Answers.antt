-- Each arm is the definition at its number.
use Rattle.std.proofs.Common.{arith, ne_eqb}
use Rattle.characters.specs.Answers.{pick}
use Rattle.groups.specs.Modes.{mode_of}
use Rattle.groups.proofs.modes.ModeTryFromU8.try_from.Goals as goal

pub returns-in-0 : goal.returns-in-0
unfolding mode_of pick
returns-in-0 c = rw c.in-0.is

pub returns-in-1 : goal.returns-in-1
unfolding mode_of pick
returns-in-1 c = rw c.in-1.is

pub returns-in-2 : goal.returns-in-2
unfolding mode_of pick
returns-in-2 c = rw c.in-2.is

pub returns-in_default : goal.returns-in_default
unfolding mode_of pick
returns-in_default c =
    rw (ne_eqb c.args.number 0 (omega arith), ne_eqb c.args.number 1 (omega arith), ne_eqb c.args.number 2 (omega arith))
