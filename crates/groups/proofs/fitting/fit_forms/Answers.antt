-- Each answer by the tests that led to it.
use Rattle.std.proofs.Common.{◌≡◌, ◌∙◌, sym, le-leb, true}
use Rattle.std.proofs.lemmas.Bool.{lt-leb}
use Rattle.characters.specs.Answers.{is_true, need}
use Rattle.groups.proofs.Pictures.{all_taken, not_taken}
use Rattle.groups.specs.Fields.{checked, kind_right, width_right}
use Rattle.groups.specs.Formats.{forms}
use Rattle.groups.specs.Forms.{some_fits}
use Rattle.groups.specs.Stamps.{stamp_as}
use Rattle.groups.specs.Stored.{formats_from}
use Rattle.groups.proofs.fitting.fit_forms.Goals as goal
use Rattle.groups.proofs.fitting.fit_forms.Goals.{then-n-forms-via-then-n-forms, then-n-forms-via-else-n-forms+then-forms-n}

pub returns-then-not-is_empty : goal.returns-then-not-is_empty
unfolding checked need stamp_as
returns-then-not-is_empty c = rw (sym c.is_empty.ensures ∙ c.if-not-is_empty.true)

pub returns-then-n-forms : goal.returns-then-n-forms
unfolding checked need stamp_as width_right
returns-then-n-forms c =
    let empty = sym c.is_empty.ensures ∙ c.if-not-is_empty.false in
    elim c.then-n-forms.branch [
      | then-n-forms-via-then-n-forms w ↦ rw (empty, lt-leb _ _ w.if-n-forms.true)
      | then-n-forms-via-else-n-forms+then-forms-n w ↦ rw (empty, le-leb _ _ w.if-n-forms.false, lt-leb _ _ w.if-forms-n.true)
    ]

pub returns-then-surely_fits : goal.returns-then-surely_fits
unfolding checked need stamp_as width_right kind_right
returns-then-surely_fits c =
    let taken : some_fits (forms (formats_from c.args.forms.first c.args.forms.count)) c.args.group.«data».now ≡ true =
    is_true (c.surely_fits.ensures c.if-surely_fits.true) in
    rw (
      sym c.is_empty.ensures ∙ c.if-not-is_empty.false,
      le-leb _ _ c.if-n-forms.false,
      le-leb _ _ c.if-forms-n.false,
      taken,
    )

pub returns-then-furthest-n : goal.returns-then-furthest-n
unfolding checked need stamp_as width_right kind_right
returns-then-furthest-n c = rw (
  sym c.is_empty.ensures ∙ c.if-not-is_empty.false,
  le-leb _ _ c.if-n-forms.false,
  le-leb _ _ c.if-forms-n.false,
  all_taken (forms (formats_from c.args.forms.first c.args.forms.count)) c.args.group.«data».now (sym c.furthest.ensures ∙ c.if-furthest-n.true),
)

pub returns : goal.returns
unfolding checked need stamp_as width_right kind_right
returns c = rw (
  sym c.is_empty.ensures ∙ c.if-not-is_empty.false,
  le-leb _ _ c.if-n-forms.false,
  le-leb _ _ c.if-forms-n.false,
  not_taken (forms (formats_from c.args.forms.first c.args.forms.count)) c.args.group.«data».now (λ z. c.if-furthest-n.false (c.furthest.ensures ∙ z)),
)
