-- The sums of the pieces are the sum of the body.
use Rattle.std.proofs.Common.{◌∙◌, ◌%◌, ℕ, List, ap, sym, arith}
use Rattle.groups.specs.Groups.{total}
use Rattle.groups.proofs.Laying.{body_plain, total_stamped}
use Rattle.groups.proofs.writing.sum_of_body.Goals as goal

pub returns-then-is_stamped : goal.returns-then-is_stamped
returns-then-is_stamped c =
    omega (
      arith,
      c.sum.ensures,
      c.sum-data.ensures,
      c.separator.ensures,
      total_stamped c.args.mode c.args.group.stamp.now c.args.group.«data».now _ (sym c.is_stamped.ensures ∙ c.if-is_stamped.true),
    )

pub returns : goal.returns
returns c =
    c.sum-data.ensures
    ∙ ap (λ (l : List ℕ). total l % 256)
    (sym (body_plain c.args.mode c.args.group.stamp.now c.args.group.«data».now _ (sym c.is_stamped.ensures ∙ c.if-is_stamped.false)))
