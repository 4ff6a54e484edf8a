-- The rule takes the fields, or says why not, and where.
use Rattle.groups.proofs.Telling.{told_accepted, told_refused}
use Rattle.groups.proofs.Views.{fit_right, fit_wrong}
use Rattle.groups.proofs.Laws.Groups.{checked_right}
use Rattle.groups.specs.Inside.{fields_in}
use Rattle.groups.specs.Stored.{rule_of}
use Rattle.std.proofs.Common.{Ok, ◌∙◌, ap, sym}
use Rattle.groups.proofs.reading.finish.Goals as goal

pub returns-in-Err : goal.returns-in-Err
returns-in-Err c =
    let g = fields_in c.args.group in
    told_refused _ _ _ _ _ c.wrong_place-place.ensures (fit_wrong (rule_of c.args.rule) g.stamp g.«data» _ _ _ (sym c.fit.ensures ∙ c.in-Err.is))

pub returns-in-Ok : goal.returns-in-Ok
returns-in-Ok c =
    let g = fields_in c.args.group in
    let right = fit_right (rule_of c.args.rule) g.stamp g.«data» _ (sym c.fit.ensures ∙ c.in-Ok.is) in
    ap Ok c.places.ensures ∙ told_accepted _ _ _ _ (checked_right (rule_of c.args.rule) g.stamp g.«data» _ right)
