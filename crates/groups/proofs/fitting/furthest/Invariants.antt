-- What is left of the forms decides, and what was reached in those gone over.
use Rattle.std.proofs.Common.{◌≡◌, ◌+◌, ◌-◌, max}
use Rattle.groups.specs.Formats.{forms}
use Rattle.groups.specs.Place.{furthest}
use Rattle.groups.specs.Stored.{formats_from}
use Rattle.groups.proofs.fitting.furthest.Given as goal

abbrev pub invariant-loop-i : goal.invariant-loop-i
invariant-loop-i l =
    furthest (forms (formats_from l.fn.forms.first l.fn.forms.count)) l.«data»
    ≡ max l.best (furthest (forms (formats_from (l.fn.forms.first + l.i) (l.fn.forms.count - l.i))) l.«data»)
