-- Noise flaws the frame, and an LF behind it opens a group.
use Rattle.std.proofs.Common.{arith, rules}
use Rattle.line.proofs.InRows.{frame_opens, lf_opens, noise_passes}
use Rattle.line.proofs.rows.pass_frame.Goals as goal

pub returns-in-Some-eq10 : goal.returns-in-Some-eq10
returns-in-Some-eq10 c =
    let found = c.in-Some-eq10.ensures in
    frame_opens _ _ _ _ (noise_passes _ _ _ c.pass_noise-count.ensures) (search rules) (search rules)

pub returns-in-10 : goal.returns-in-10
returns-in-10 c = lf_opens c.args.flaw c.args.bytes.now (omega arith) (search rules)

pub returns-after-bytes-lt1 : goal.returns-after-bytes-lt1
returns-after-bytes-lt1 c = noise_passes _ _ _ c.pass_noise-count.ensures

pub returns-after-bytes-lt1-2 : goal.returns-after-bytes-lt1-2
returns-after-bytes-lt1-2 c = noise_passes _ _ _ c.pass_noise-count.ensures
