-- Two halves of four bytes are eight.
use Rattle.groups.proofs.Keys.{eight_halves}
use Rattle.groups.proofs.find.first_eight.Goals as goal

pub returns : goal.returns
returns c = rw (c.four-high.ensures, c.four-low.ensures) (eight_halves c.args.text.now c.requires)
