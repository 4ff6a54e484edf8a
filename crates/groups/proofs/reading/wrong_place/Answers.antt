-- Each place by the refusal.
use Rattle.groups.proofs.Laws.Place.{placed_nowhere}
use Rattle.groups.specs.Place.{place_for}
use Rattle.characters.specs.Answers.{pick}
use Rattle.groups.proofs.reading.wrong_place.Goals as goal

pub returns-in-StampWrong : goal.returns-in-StampWrong
unfolding place_for pick
returns-in-StampWrong c = rw c.in-StampWrong.is

pub returns-in-KindWrong : goal.returns-in-KindWrong
unfolding place_for pick
returns-in-KindWrong c = rw (c.in-KindWrong.is, c.stamp_span.ensures.0, c.first_wrong-before.ensures.0)

pub returns-in_default : goal.returns-in_default
returns-in_default c = placed_nowhere c.args.refusal _ _ c.in_default.not-StampWrong c.in_default.not-KindWrong
