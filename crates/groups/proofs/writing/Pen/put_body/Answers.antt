-- The pieces of the body, one behind the other.
use Rattle.std.proofs.Common.{◌∙◌, ap, sym, map, length, arith}
use Rattle.characters.specs.Wire.{wire_byte_of}
use Rattle.groups.proofs.Laying.{body_long, body_pieces, body_plain, laid_as, laid_length, laid_then, laid_upto}
use Rattle.groups.proofs.writing.Pen.put_body.Goals.{then-is_stamped, else-is_stamped}
use Rattle.groups.proofs.writing.Pen.put_body.Goals as goal

pub put-requires : goal.put-requires
put-requires c = omega (
  arith,
  c.requires,
  body_long c.args.mode c.args.group.stamp.now c.args.group.«data».now _ (sym c.is_stamped.ensures ∙ c.if-is_stamped.true),
)

pub put-requires-then-is_stamped : goal.put-requires-then-is_stamped
put-requires-then-is_stamped c = omega (
  arith,
  c.requires,
  body_long c.args.mode c.args.group.stamp.now c.args.group.«data».now _ (sym c.is_stamped.ensures ∙ c.if-is_stamped.true),
  laid_upto c.args.group.stamp.now c.put.ensures.laid,
  laid_length c.put.ensures.laid,
)

pub put-requires-2 : goal.put-requires-2
put-requires-2 c = elim c.if-is_stamped.branch [
  | then-is_stamped w ↦ rw w.self-is (omega (
    arith,
    c.requires,
    body_long c.args.mode c.args.group.stamp.now c.args.group.«data».now _ (sym c.is_stamped.ensures ∙ w.if-is_stamped.true),
    laid_upto c.args.group.stamp.now w.put.ensures.laid,
    laid_length w.put.ensures.laid,
    w.put-then-is_stamped.ensures.laid.upto,
    laid_length w.put-then-is_stamped.ensures.laid,
  ))
  | else-is_stamped w ↦ rw w.self-is (omega (
    arith,
    c.requires,
    ap length (body_plain c.args.mode c.args.group.stamp.now c.args.group.«data».now _ (sym c.is_stamped.ensures ∙ w.if-is_stamped.false)),
  ))
]

pub returns-clause-laid : goal.returns-clause-laid
returns-clause-laid c = elim c.if-is_stamped.branch [
  | then-is_stamped w ↦
      laid_as (laid_then w.put.ensures.laid (laid_then w.put-then-is_stamped.ensures.laid (rw (sym w.self-is) c.put-2.ensures.laid)))
      (body_pieces c.args.mode c.args.group.stamp.now c.args.group.«data».now _ _ (sym c.is_stamped.ensures ∙ w.if-is_stamped.true) w.separator.ensures)
  | else-is_stamped w ↦
      laid_as (rw (sym w.self-is) c.put-2.ensures.laid)
      (ap (map wire_byte_of) (sym (body_plain c.args.mode c.args.group.stamp.now c.args.group.«data».now _ (sym c.is_stamped.ensures ∙ w.if-is_stamped.false))))
]
