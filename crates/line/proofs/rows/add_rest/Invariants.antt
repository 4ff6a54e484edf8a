-- Each character is laid at its place.
use Rattle.line.specs.Runs.{LaysOn}
use Rattle.line.proofs.rows.add_rest.Given as goal

abbrev pub invariant-loop-i : goal.invariant-loop-i
invariant-loop-i l = LaysOn l.bytes l.from l.initial.room l.i l.room
