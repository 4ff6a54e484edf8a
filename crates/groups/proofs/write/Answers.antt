-- A known mode is written, an unknown one is 19.
use Rattle.std.proofs.Common.{sym, length}
use Rattle.std.proofs.lemmas.Result.{err_from_is_err_and}
use Rattle.groups.proofs.Laying.{write_mode, write_nowhere, wrote_as, wrote_nothing}
use Rattle.groups.specs.Groups.{group_of}
use Rattle.groups.proofs.write.Goals as goal

pub returns-in_err-try_from : goal.returns-in_err-try_from
returns-in_err-try_from c =
    let p = err_from_is_err_and c.from_residual.result c.from_residual.ensures.1 in
    let g = group_of c.args.label.now c.args.stamp.now c.args.«data».now in
    rw (p.1, p.2) (wrote_nothing c.args.buffer.now _ (write_nowhere c.args.mode g (length c.args.buffer.now) (sym c.in_err-try_from.ensures)))

pub returns : goal.returns
returns c =
    wrote_as c.args.buffer.now _ _ (write_mode c.args.mode (group_of c.args.label.now c.args.stamp.now c.args.«data».now)
    (length c.args.buffer.now) (sym c.in_ok-try_from.ensures)) c.write_in.ensures
