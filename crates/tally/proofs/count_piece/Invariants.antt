-- `count_piece` is safe and ends: what is left of the piece becomes less. The content keeps its length.
use Rattle.std.proofs.Common.{◌≡◌, length}
use Rattle.tally.proofs.count_piece.Given as goal

abbrev pub invariant-loop-rest : goal.invariant-loop-rest
invariant-loop-rest l = length l.content ≡ 128

abbrev pub decreases-loop-rest : goal.decreases-loop-rest
decreases-loop-rest l = length l.rest
