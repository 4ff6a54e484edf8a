-- What is left decides: the place is that in what is left, and the characters gone over.
use Rattle.std.proofs.Common.{◌≡◌, ◌+◌, drop}
use Rattle.groups.specs.Place.{agreed}
use Rattle.groups.proofs.fitting.agreed.Given as goal

abbrev pub invariant-loop-i : goal.invariant-loop-i
invariant-loop-i l = agreed l.picture l.«data» ≡ l.i + agreed (drop l.i l.picture) (drop l.i l.«data»)
