-- Each answer by the tests that led to it.
use Rattle.std.proofs.Common.{◌∙◌, sym, eq-eqb, ne_eqb}
use Rattle.groups.specs.Stamps.{stamp_as}
use Rattle.groups.proofs.stamps.stamp_right.Goals as goal

pub returns-then-not-is_stamped : goal.returns-then-not-is_stamped
unfolding stamp_as
returns-then-not-is_stamped c = c.is_empty.ensures ∙ rw (sym c.is_stamped.ensures ∙ c.if-not-is_stamped.true)

pub returns-then-stamp-ne13 : goal.returns-then-stamp-ne13
unfolding stamp_as
returns-then-stamp-ne13 c =
    rw (sym c.is_stamped.ensures ∙ c.if-not-is_stamped.false, ne_eqb _ _ c.if-stamp-ne13.true)

pub returns : goal.returns
unfolding stamp_as
returns c = rw (
  sym c.is_stamped.ensures ∙ c.if-not-is_stamped.false,
  eq-eqb _ _ c.if-stamp-ne13.false,
  c.season_right.ensures,
  c.date_right.ensures,
)
