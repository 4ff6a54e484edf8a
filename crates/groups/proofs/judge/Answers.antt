-- A known mode is read, an unknown one is 19.
use Rattle.std.proofs.Common.{◌∙◌, sym}
use Rattle.std.proofs.lemmas.Result.{err_from_is_err_and}
use Rattle.groups.proofs.Telling.{told_in, told_no_mode}
use Rattle.groups.proofs.judge.Goals as goal

pub returns-in_err-try_from : goal.returns-in_err-try_from
returns-in_err-try_from c =
    let p = err_from_is_err_and c.from_residual.result c.from_residual.ensures.1 in
    rw (p.1, p.2) (told_no_mode c.args.mode c.args.content.now (sym c.in_err-try_from.ensures))

pub returns : goal.returns
returns c = c.read.ensures ∙ told_in c.args.mode c.args.content.now (sym c.in_ok-try_from.ensures)
