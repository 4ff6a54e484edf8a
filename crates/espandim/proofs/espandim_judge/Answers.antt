-- The number of the judgement, and the stretches and the place in the lent numbers.
use Rattle.espandim.proofs.Bytes.{judgement_byte}
use Rattle.espandim.proofs.Telling.{judges}
use Rattle.std.proofs.Common.{◌∙◌}
use Rattle.espandim.proofs.espandim_judge.Goals as goal

pub returns : goal.returns
returns c =
    judges c.judge-judgement.result _ _ _ _
    (c.judge-judgement.ensures ∙ judgement_byte c.args.mode _ c.byte_of.ensures c.args.content.now)
    (c.from.ensures ∙ c.number_of.ensures) c.shown.ensures.0 c.shown.ensures.1
