-- Each answer by the test that led to it.
use Rattle.std.proofs.Common.{arith, eq-eqb, ne_eqb}
use Rattle.characters.specs.Answers.{pick}
use Rattle.groups.specs.Judging.{stamp_span}
use Rattle.groups.proofs.group.stamp_span.Goals as goal

pub returns-then-length-eq0 : goal.returns-then-length-eq0
unfolding stamp_span pick
returns-then-length-eq0 c = (rw (eq-eqb _ _ c.if-length-eq0.true), omega arith)

pub returns-else-length-eq0 : goal.returns-else-length-eq0
unfolding stamp_span pick
returns-else-length-eq0 c = (rw (ne_eqb _ _ c.if-length-eq0.false), omega arith)
