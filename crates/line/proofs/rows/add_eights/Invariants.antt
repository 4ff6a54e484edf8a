-- Eight by eight.
use Rattle.std.proofs.Common.{◌-◌, length}
use Rattle.line.specs.Runs.{Lays}
use Rattle.line.proofs.rows.add_eights.Given as goal

abbrev pub invariant-loop-eight : goal.invariant-loop-eight
invariant-loop-eight l = Lays l.initial.room l.bytes l.count l.room

abbrev pub decreases-loop-eight : goal.decreases-loop-eight
decreases-loop-eight l = length l.bytes - l.count
