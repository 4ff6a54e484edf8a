-- The line of an accepted group, and that it has room.
use Rattle.std.proofs.Common.{rules, ◌∙◌, length-append, arith, lit<}
use Rattle.listing.proofs.Lengths.{one_short}
use Rattle.listing.proofs.Lines.{fields_short, group_lines, shown_short}
use Rattle.listing.proofs.text.put_group.Goals as goal

pub put_fields-requires : goal.put_fields-requires
put_fields-requires c =
    let short = fields_short c.args.fields c.args.content.now _ _ _ (search rules) c.requires
    c.part.ensures.bytes c.part-2.ensures.bytes c.part-3.ensures.bytes in
    simp (c.put_number.ensures, length-append, c.new.ensures) (omega (arith, one_short, short))

pub push-requires : goal.push-requires
push-requires c =
    let short = fields_short c.args.fields c.args.content.now _ _ _ (search rules) c.requires
    c.part.ensures.bytes c.part-2.ensures.bytes c.part-3.ensures.bytes in (
      lit< tt,
      simp (c.put_fields.ensures, c.put_number.ensures, length-append, c.new.ensures)
          (omega (arith, one_short, short, shown_short c.part.result.now c.part-2.result.now c.part-3.result.now)),
    )

pub returns : goal.returns
returns c =
    c.push.ensures.items
    ∙ rw (c.put_fields.ensures, c.put_number.ensures, c.new.ensures)
    (group_lines c.args.fields c.args.content.now _ _ _ (search rules) c.requires
    c.part.ensures.bytes c.part-2.ensures.bytes c.part-3.ensures.bytes)
