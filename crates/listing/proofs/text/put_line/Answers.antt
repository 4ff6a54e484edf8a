-- The line of each case of what was heard.
use Rattle.std.proofs.Common.{sym, ap, ◌∙◌, subst}
use Rattle.line.specs.Views.{FieldsInside}
use Rattle.listing.proofs.Lines.{nothing_lines, told_lines}
use Rattle.listing.specs.Parts.{lines_heard}
use Rattle.listing.proofs.text.put_line.Goals as goal

pub put_group-requires : goal.put_group-requires
put_group-requires c = subst FieldsInside c.in-Accepted.is c.requires

pub returns-in-Nothing : goal.returns-in-Nothing
returns-in-Nothing c = c.new.ensures ∙ sym (nothing_lines c.args.heard c.args.content.now c.in-Nothing.is)

pub returns-in-Told : goal.returns-in-Told
returns-in-Told c =
    c.put_told.ensures
    ∙ told_lines c.args.heard c.args.content.now _ _ _ c.in-Told.is c.number_of-number.ensures c.place_of-place.ensures

pub returns-in-Accepted : goal.returns-in-Accepted
returns-in-Accepted c = c.put_group.ensures ∙ ap (λ h. lines_heard h c.args.content.now) (sym c.in-Accepted.is)
