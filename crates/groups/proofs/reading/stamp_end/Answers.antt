-- Each answer is the definition at the tests that led to it.
use Rattle.std.proofs.Common.{◌∙◌, ap, sym, arith, Bool}
use Rattle.characters.specs.Answers.{pick}
use Rattle.groups.specs.Judging.{stamp_span}
use Rattle.groups.proofs.Laws.Places.{fields_plain, fields_short, fields_stamped, fields_unparted}
use Rattle.groups.specs.Stamps.{is_stamped}
use Rattle.groups.specs.Stored.{rule_of}
use Rattle.groups.proofs.reading.stamp_end.Goals as goal

pub returns-then-not-is_stamped : goal.returns-then-not-is_stamped
unfolding stamp_span pick
returns-then-not-is_stamped c =
    let plain = ap is_stamped (sym c.mark.ensures) ∙ sym c.is_stamped.ensures ∙ c.if-not-is_stamped.true in (
      omega arith,
      omega arith,
      ap (λ (k : Bool). pick k 14 0) (sym plain),
      λ label. fields_plain c.args.mode (rule_of c.args.rule) label c.args.body.now plain,
    )

pub returns-then-body-lt14 : goal.returns-then-body-lt14
returns-then-body-lt14 c = λ label. fields_short c.args.mode (rule_of c.args.rule) label c.args.body.now
    (ap is_stamped (sym c.mark.ensures) ∙ sym c.is_stamped.ensures ∙ c.if-not-is_stamped.false) c.if-body-lt14.true

pub returns-then-body-separator : goal.returns-then-body-separator
unfolding stamp_span pick
returns-then-body-separator c =
    let stamped = ap is_stamped (sym c.mark.ensures) ∙ sym c.is_stamped.ensures ∙ c.if-not-is_stamped.false in (
      omega arith,
      omega arith,
      ap (λ (k : Bool). pick k 14 0) (sym stamped),
      λ label. fields_stamped c.args.mode (rule_of c.args.rule) label c.args.body.now stamped c.if-body-lt14.false
          (c.if-body-separator.true ∙ c.separator.ensures),
    )

pub returns-else-body-separator : goal.returns-else-body-separator
returns-else-body-separator c =
    λ label. fields_unparted c.args.mode (rule_of c.args.rule) label c.args.body.now
    (ap is_stamped (sym c.mark.ensures) ∙ sym c.is_stamped.ensures ∙ c.if-not-is_stamped.false) c.if-body-lt14.false
    (λ z. c.if-body-separator.false (z ∙ sym c.separator.ensures))
