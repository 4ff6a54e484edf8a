-- That the line of a notice has room.
use Rattle.std.proofs.Common.{◌∙◌, refl, length-append, arith, lit<}
use Rattle.listing.proofs.Lengths.{digits_short, place_short}
use Rattle.listing.proofs.text.put_told.Goals as goal

pub put_place-requires : goal.put_place-requires
put_place-requires c = simp (c.put_number.ensures, length-append, c.new.ensures) (omega (arith, digits_short c.args.number))

pub push-requires : goal.push-requires
push-requires c = (
  lit< tt,
  simp (c.put_place.ensures, c.put_number.ensures, length-append, c.new.ensures)
      (omega (arith, digits_short c.args.number, place_short c.args.number c.args.place)),
)

pub returns : goal.returns
returns c = c.push.ensures.items ∙ rw (c.put_place.ensures, c.put_number.ensures, c.new.ensures) refl
