-- Each answer by the test that led to it.
use Rattle.std.proofs.Common.{eq-eqb, ne_eqb}
use Rattle.characters.specs.Answers.{pick}
use Rattle.groups.specs.Judging.{stamp_stretch}
use Rattle.groups.proofs.group.stamp_stretch.Goals as goal

pub returns-then-length-eq0 : goal.returns-then-length-eq0
unfolding stamp_stretch pick
returns-then-length-eq0 c = rw (eq-eqb _ _ c.if-length-eq0.true, c.if-length-eq0.true)

pub returns-else-length-eq0 : goal.returns-else-length-eq0
unfolding stamp_stretch pick
returns-else-length-eq0 c = rw (ne_eqb _ _ c.if-length-eq0.false)
