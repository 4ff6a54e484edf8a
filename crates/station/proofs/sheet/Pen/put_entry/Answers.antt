-- An entry for each case of what was heard.
use Rattle.std.proofs.Common.{rules, List, ℕ, ap, subst, get_or}
use Rattle.line.specs.Views.{FieldsInside}
use Rattle.station.proofs.Entries.{fields_short, put_nothing, put_told, put_accepted}
use Rattle.station.proofs.sheet.Pen.put_entry.Goals as goal

pub returns-in-Nothing-clause-entry : goal.returns-in-Nothing-clause-entry
returns-in-Nothing-clause-entry c =
    put_nothing c.args.self.now.sheet.now c.args.content c.args.self.now.at c.args.heard c.args.frame c.in-Nothing.is

pub returns-in-Told-clause-entry : goal.returns-in-Told-clause-entry
returns-in-Told-clause-entry c =
    put_told c.args.self.now.sheet.now c.args.content c.args.self.now.at c.args.heard c.args.frame _ _ _ _ _ _ _ c.in-Told.is
    c.number_of-number.ensures c.place_of-place.ensures
    (ap (λ (b : List ℕ). get_or b 0 0) c.to_le_bytes.ensures) (ap (λ (b : List ℕ). get_or b 1 0) c.to_le_bytes.ensures)
    (c.put.ensures.on, c.put.ensures.written)

pub text_of-requires : goal.text_of-requires
text_of-requires c = (subst FieldsInside c.in-Accepted.is c.requires.inside).label_inside

pub text_of-requires-in-Accepted : goal.text_of-requires-in-Accepted
text_of-requires-in-Accepted c = (subst FieldsInside c.in-Accepted.is c.requires.inside).stamp_inside

pub text_of-requires-in-Accepted-2 : goal.text_of-requires-in-Accepted-2
text_of-requires-in-Accepted-2 c = (subst FieldsInside c.in-Accepted.is c.requires.inside).data_inside

pub put_group-requires-clause-short : goal.put_group-requires-clause-short
put_group-requires-clause-short c =
    fields_short c.in-Accepted.fields c.args.content _ _ _ (search rules)
    (subst FieldsInside c.in-Accepted.is c.requires.inside)
    c.text_of.ensures c.text_of-in-Accepted.ensures c.text_of-in-Accepted-2.ensures

pub returns-in-Accepted-clause-entry : goal.returns-in-Accepted-clause-entry
returns-in-Accepted-clause-entry c =
    put_accepted c.args.self.now.sheet.now c.args.content c.args.self.now.at c.args.heard c.args.frame _ _ _ _ _ _ _ _
    c.in-Accepted.is (search rules) c.requires.inside
    c.text_of.ensures c.text_of-in-Accepted.ensures c.text_of-in-Accepted-2.ensures
    (ap (λ (b : List ℕ). get_or b 0 0) c.to_le_bytes.ensures) (ap (λ (b : List ℕ). get_or b 1 0) c.to_le_bytes.ensures)
    c.put_group.ensures.entry
