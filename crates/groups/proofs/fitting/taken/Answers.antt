-- Each arm is the definition at its character.
use Rattle.std.proofs.Common.{◌∙◌, ⊎_elim, eqb, arith, eq-eqb, ne_eqb}
use Rattle.characters.specs.Answers.{pick}
use Rattle.groups.specs.Forms.{takes}
use Rattle.std.proofs.Math.Bool.{or-true}
use Rattle.groups.proofs.fitting.taken.Goals as goal

pub returns-in-57 : goal.returns-in-57
unfolding takes pick
returns-in-57 c = c.of_kind.ensures ∙ rw c.in-57.is

pub returns-in-48 : goal.returns-in-48
unfolding takes pick
returns-in-48 c = c.of_kind-in-48.ensures ∙ rw c.in-48.is

pub returns-in-42 : goal.returns-in-42
unfolding takes pick
returns-in-42 c = c.of_kind-in-42.ensures ∙ rw c.in-42.is

pub returns-in-44-matches : goal.returns-in-44-matches
unfolding takes pick
returns-in-44-matches c =
    rw c.in-44.is (⊎_elim (λ e. rw (eq-eqb c.args.code 44 e)) (λ e. rw (eq-eqb c.args.code 46 e, or-true (eqb c.args.code 44))) c.in-44-matches.is)

pub returns-in_default-matches : goal.returns-in_default-matches
unfolding takes pick
returns-in_default-matches c =
    rw (c.in-44.is, ne_eqb c.args.code 44 (grind arith), ne_eqb c.args.code 46 (grind arith))

pub returns-in_default : goal.returns-in_default
unfolding takes pick
returns-in_default c =
    rw (
      ne_eqb c.args.picture 57 (grind arith),
      ne_eqb c.args.picture 48 (grind arith),
      ne_eqb c.args.picture 42 (grind arith),
      ne_eqb c.args.picture 44 (grind arith),
    )
