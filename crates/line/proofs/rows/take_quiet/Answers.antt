-- Outside, what is in front of an STX is passed over.
use Rattle.line.proofs.InRows.{outside_passes, runs_passed}
use Rattle.line.proofs.rows.take_quiet.Goals as goal

pub returns-in-Outside : goal.returns-in-Outside
returns-in-Outside c = λ content.
    rw c.pass_outside.ensures
    (runs_passed c.args.line c.turned.result content (rw c.in-Outside.is (outside_passes c.args.bytes.now))
    (λ mode frame h. rw c.in-Outside.is) c.turned.ensures)
