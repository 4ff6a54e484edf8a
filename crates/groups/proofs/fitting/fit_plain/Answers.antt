-- Each answer by the tests that led to it.
use Rattle.std.proofs.Common.{◌∙◌, sym, eq-eqb, ne_eqb}
use Rattle.characters.specs.Answers.{need}
use Rattle.groups.proofs.Pictures.{plain_kind, plain_width}
use Rattle.groups.proofs.Walks.{all_right, some_wrong}
use Rattle.groups.specs.Fields.{checked}
use Rattle.groups.specs.Kinds.{of_kind}
use Rattle.groups.proofs.fitting.fit_plain.Goals as goal

pub returns-then-not-stamp_right : goal.returns-then-not-stamp_right
unfolding checked need
returns-then-not-stamp_right c = rw (sym c.stamp_right.ensures ∙ c.if-not-stamp_right.true)

pub returns-then-data-rule : goal.returns-then-data-rule
unfolding checked need
returns-then-data-rule c = rw (
  sym c.stamp_right.ensures ∙ c.if-not-stamp_right.false,
  plain_width c.args.rule c.args.group.«data».now,
  ne_eqb _ _ c.if-data-rule.true,
)

pub returns-then-wrong_at-data : goal.returns-then-wrong_at-data
unfolding checked need
returns-then-wrong_at-data c = rw (
  sym c.stamp_right.ensures ∙ c.if-not-stamp_right.false,
  plain_width c.args.rule c.args.group.«data».now,
  eq-eqb _ _ c.if-data-rule.false,
  plain_kind c.args.rule c.args.group.«data».now c.if-data-rule.false,
  some_wrong (of_kind c.args.rule.kind) c.args.group.«data».now (λ z. c.if-wrong_at-data.true (c.wrong_at.ensures ∙ z)),
)

pub returns : goal.returns
unfolding checked need
returns c = rw (
  sym c.stamp_right.ensures ∙ c.if-not-stamp_right.false,
  plain_width c.args.rule c.args.group.«data».now,
  eq-eqb _ _ c.if-data-rule.false,
  plain_kind c.args.rule c.args.group.«data».now c.if-data-rule.false,
  all_right (of_kind c.args.rule.kind) c.args.group.«data».now (sym c.wrong_at.ensures ∙ c.if-wrong_at-data.false),
)
