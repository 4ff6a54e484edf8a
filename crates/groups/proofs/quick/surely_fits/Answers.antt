-- The form that took the data is one of the forms.
use Rattle.std.proofs.Common.{arith}
use Rattle.groups.proofs.Between.{one_fits}
use Rattle.groups.proofs.quick.surely_fits.Goals as goal

pub returns-then-surely_takes : goal.returns-then-surely_takes
returns-then-surely_takes c =
    λ e. one_fits c.args.forms.first c.args.forms.count c.loop-i.i c.args.«data».now (omega arith)
    (rw c.from-first.ensures at (c.surely_takes.ensures c.if-surely_takes.true))
