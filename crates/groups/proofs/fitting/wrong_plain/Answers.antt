-- Data of the width are gone over; data of another width go wrong at once.
use Rattle.groups.proofs.Pictures.{plain_unfit, plain_wrong}
use Rattle.std.proofs.lemmas.List.Sums.{prefix_len-le-length}
use Rattle.groups.specs.Kinds.{of_kind}
use Rattle.std.proofs.Common.{◌∙◌, sym, arith}
use Rattle.groups.proofs.fitting.wrong_plain.Goals as goal

pub returns-then-data-rule : goal.returns-then-data-rule
returns-then-data-rule c = (
  c.wrong_at.ensures ∙ sym (plain_wrong c.args.rule c.args.«data».now c.if-data-rule.true),
  omega (arith, c.wrong_at.ensures, prefix_len-le-length (of_kind c.args.rule.kind) c.args.«data».now),
)

pub returns-else-data-rule : goal.returns-else-data-rule
returns-else-data-rule c = (sym (plain_unfit c.args.rule c.args.«data».now c.if-data-rule.false), omega arith)
