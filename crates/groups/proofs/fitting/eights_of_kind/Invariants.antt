-- Eight that are of the kind are eight more.
use Rattle.std.proofs.Common.{◌-◌, length}
use Rattle.groups.specs.Inside.{RightUpTo}
use Rattle.groups.specs.Kinds.{of_kind}
use Rattle.groups.proofs.fitting.eights_of_kind.Given as goal

abbrev pub invariant-loop-eight : goal.invariant-loop-eight
invariant-loop-eight l = RightUpTo (of_kind l.kind) l.text l.count

abbrev pub decreases-loop-eight : goal.decreases-loop-eight
decreases-loop-eight l = length l.text - l.count
