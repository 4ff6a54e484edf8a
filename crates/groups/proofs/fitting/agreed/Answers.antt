-- What is left decides: the place is that in what is left, and the characters gone over.
use Rattle.std.proofs.Common.{◌∙◌, sym, arith}
use Rattle.groups.proofs.Pictures.{agreed_here, agreed_on, agreed_over}
use Rattle.groups.proofs.fitting.agreed.Goals as goal

pub returns-then-not-taken : goal.returns-then-not-taken
returns-then-not-taken c = omega (
  arith,
  c.loop-i.invariant,
  agreed_here c.args.picture.now c.args.«data».now c.loop-i.i (omega arith) (omega arith) (sym c.taken.ensures ∙ c.if-not-taken.true),
)

pub loop-i-preserved : goal.loop-i-preserved
loop-i-preserved c = omega (
  arith,
  c.loop-i.invariant,
  agreed_on c.args.picture.now c.args.«data».now c.loop-i.i (omega arith) (omega arith) (sym c.taken.ensures ∙ c.if-not-taken.false),
)

pub returns : goal.returns
returns c =
    omega (arith, c.loop-i.invariant, agreed_over c.args.picture.now c.args.«data».now c.loop-i.i (omega arith))
