-- Eight by eight first, and then one by one.
use Rattle.line.proofs.InRows.{lays_front}
use Rattle.line.proofs.rows.add_text.Goals as goal

pub returns : goal.returns
returns c = lays_front _ _ _ _ _ (c.add_rest.ensures _ c.add_eights-from.ensures)
