-- The rule takes the fields, or says why not.
use Rattle.std.proofs.Common.{length, sym}
use Rattle.std.proofs.lemmas.Result.{err_from_is_err_and}
use Rattle.groups.proofs.Laying.{write_wrong, wrote_nothing}
use Rattle.groups.proofs.Views.{fit_right, fit_wrong}
use Rattle.groups.specs.Groups.{group_of}
use Rattle.groups.specs.Stored.{rule_of}
use Rattle.groups.proofs.writing.write_by.Goals as goal

pub write_right-requires : goal.write_right-requires
write_right-requires c = (
  c.requires,
  fit_right (rule_of c.args.rule) c.args.group.stamp.now c.args.group.«data».now _ (sym c.in_ok-fit.ensures),
)

pub returns-in_err-fit : goal.returns-in_err-fit
returns-in_err-fit c =
    let p = err_from_is_err_and c.from_residual.result c.from_residual.ensures.1 in
    let g = group_of c.args.group.label.now c.args.group.stamp.now c.args.group.«data».now in
    rw (p.1, p.2) (wrote_nothing c.args.buffer.now _ (write_wrong c.args.mode g (length c.args.buffer.now) (rule_of c.args.rule) _
    (λ a. fit_wrong (rule_of c.args.rule) c.args.group.stamp.now c.args.group.«data».now _ a _ (sym c.in_err-fit.ensures))))
