-- What is left of the forms decides, and what was reached in those gone over.
use Rattle.std.proofs.Common.{◌∙◌, sym, arith}
use Rattle.groups.proofs.Pictures.{furthest_on, furthest_over, later_most}
use Rattle.groups.proofs.fitting.furthest.Goals as goal

pub loop-i-preserved : goal.loop-i-preserved
loop-i-preserved c =
    c.loop-i.invariant
    ∙ furthest_on c.args.forms.first c.args.forms.count c.args.«data».now c.loop-i.i c.loop-i.best (omega arith)
    ∙ rw (c.max-best.ensures, later_most c.loop-i.best c.reach.result, c.reach.ensures, c.form_of.ensures.0, c.from-first.ensures)

pub returns : goal.returns
returns c =
    sym (c.loop-i.invariant ∙ furthest_over c.args.forms.first c.args.forms.count c.args.«data».now c.loop-i.i c.loop-i.best (omega arith))
