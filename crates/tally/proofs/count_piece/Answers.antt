-- The line takes at least one byte of what is left, and no more than there are.
use Rattle.capture.proofs.Pieces.{rest_less, taken_most, taken_some}
use Rattle.std.proofs.Common.{arith, rules}
use Rattle.tally.proofs.count_piece.Goals as goal

pub slice_bounds-rest-count : goal.slice_bounds-rest-count
slice_bounds-rest-count c = taken_most _ _ _ c.loop-rest.invariant _ _ c.feed-taken.ensures

pub slice_bounds-rest-start : goal.slice_bounds-rest-start
slice_bounds-rest-start c = omega (arith, taken_most _ _ _ c.loop-rest.invariant _ _ c.feed-taken.ensures)

pub loop-rest-smaller : goal.loop-rest-smaller
loop-rest-smaller c = rest_less _ _ (taken_some _ _ _ c.loop-rest.invariant _ _ c.feed-taken.ensures (search rules)) (search rules)
