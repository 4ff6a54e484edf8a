-- The lengths of the arrays and of their rows.
use Rattle.station.proofs.Typed.{wide_typed}
use borrow.Author.Rules.{rules}
use mir.Syntax.{w8, w16}
use Rattle.station.proofs.known.sized.Goals as goal

pub returns : goal.returns
returns c = record {
  marks = record { many = search rules; wide = wide_typed w8 6 c.args.marks _ c.well_formed.0.1.1 };
  places = record { many = search rules; wide = wide_typed w16 4 c.args.places _ c.well_formed.1.0.1.1 };
  contents = record { many = search rules; wide = wide_typed w8 128 c.args.contents _ c.well_formed.1.1.0.1.1 };
  inboxes = record { many = search rules; wide = wide_typed w8 256 c.args.inboxes _ c.well_formed.1.1.1.0.1.1 };
}
