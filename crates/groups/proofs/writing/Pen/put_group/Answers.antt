-- The pieces of the group, one behind the other.
use Rattle.std.proofs.Common.{◌∙◌, ℕ, ap, arith}
use Rattle.groups.proofs.Laying.{group_pieces, laid_as, laid_length, laid_then, laid_upto}
use Rattle.groups.proofs.Walks.{check_from_lem}
use Rattle.groups.specs.Groups.{body}
use Rattle.groups.specs.Inside.{check_from}
use Rattle.groups.specs.Stamps.{is_stamped}
use Rattle.groups.proofs.writing.Pen.put_group.Goals as goal

pub put-requires-2 : goal.put-requires-2
put-requires-2 c = omega (arith, c.requires, c.put.ensures.laid.upto, laid_length c.put.ensures.laid)

pub put-requires-3 : goal.put-requires-3
put-requires-3 c = omega (
  arith,
  c.requires,
  c.put.ensures.laid.upto,
  laid_length c.put.ensures.laid,
  laid_upto c.args.group.label.now c.put-2.ensures.laid,
  laid_length c.put-2.ensures.laid,
)

pub put_body-requires : goal.put_body-requires
put_body-requires c = omega (
  arith,
  c.requires,
  c.put.ensures.laid.upto,
  laid_length c.put.ensures.laid,
  laid_upto c.args.group.label.now c.put-2.ensures.laid,
  laid_length c.put-2.ensures.laid,
  c.put-3.ensures.laid.upto,
  laid_length c.put-3.ensures.laid,
)

pub put-requires-4 : goal.put-requires-4
put-requires-4 c = omega (
  arith,
  c.requires,
  c.put.ensures.laid.upto,
  laid_length c.put.ensures.laid,
  laid_upto c.args.group.label.now c.put-2.ensures.laid,
  laid_length c.put-2.ensures.laid,
  c.put-3.ensures.laid.upto,
  laid_length c.put-3.ensures.laid,
  laid_upto (body c.args.mode (is_stamped c.args.mark) c.args.group.stamp.now c.args.group.«data».now) c.put_body.ensures.laid,
  laid_length c.put_body.ensures.laid,
)

pub returns-clause-laid : goal.returns-clause-laid
returns-clause-laid c =
    laid_as (laid_then c.put.ensures.laid (laid_then c.put-2.ensures.laid (laid_then c.put-3.ensures.laid
    (laid_then c.put_body.ensures.laid c.put-4.ensures.laid)))) (group_pieces c.args.mode
    c.args.group.label.now (body c.args.mode (is_stamped c.args.mark) c.args.group.stamp.now c.args.group.«data».now) _ _
    c.separator-separator.ensures (c.check_from-check.ensures ∙ ap (λ (t : ℕ). check_from c.args.mode
    c.args.group.label.now t) c.sum_of_body.ensures ∙ check_from_lem c.args.mode c.args.group.label.now (body
    c.args.mode (is_stamped c.args.mark) c.args.group.stamp.now c.args.group.«data».now)))
