-- Each arm is the definition at its month.
use Rattle.std.proofs.Common.{⊎_elim, arith, eq-eqb, ne_eqb}
use Rattle.characters.specs.Answers.{pick}
use Rattle.groups.specs.Stamps.{days_in}
use Rattle.groups.proofs.stamps.days_in.Goals as goal

pub returns-in-2 : goal.returns-in-2
unfolding days_in pick
returns-in-2 c = rw (c.in-2.is, eq-eqb _ _ c.if-year-eq0.true)

pub returns-in-2-2 : goal.returns-in-2-2
unfolding days_in pick
returns-in-2-2 c = rw (c.in-2.is, ne_eqb _ _ c.if-year-eq0.false)

pub returns-in-4 : goal.returns-in-4
unfolding days_in pick
returns-in-4 c =
    ⊎_elim (λ e. rw e)
    (⊎_elim (λ e. rw e) (⊎_elim (λ e. rw e) (λ e. rw e)))
    c.in-4.is

pub returns-in_default : goal.returns-in_default
unfolding days_in pick
returns-in_default c =
    rw (
      ne_eqb c.args.month 2 (grind arith),
      ne_eqb c.args.month 4 (grind arith),
      ne_eqb c.args.month 6 (grind arith),
      ne_eqb c.args.month 9 (grind arith),
      ne_eqb c.args.month 11 (grind arith),
    )
