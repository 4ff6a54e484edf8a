-- Each answer is the definition at the tests that led to it.
use Rattle.std.proofs.Common.{◌+◌, ℕ, Err, length-take, ◌∙◌, ap, subst, arith}
use Rattle.groups.proofs.Walks.{front_summed, starts_with, to_end}
use Rattle.groups.specs.Conditions.{first_at}
use Rattle.groups.specs.Inside.{ContentWalk}
use Rattle.groups.proofs.Telling.{told_cut, told_nowhere}
use Rattle.groups.specs.declared.Refusal.TheVariants.{Misshapen, TooLong}
use Rattle.groups.proofs.Laws.Places.{read_long, read_uncut, read_unlabelled}
use Rattle.groups.proofs.reading.read.Goals as goal

pub returns-then-n-gt128 : goal.returns-then-n-gt128
returns-then-n-gt128 c =
    ap Err c.into.ensures ∙ told_nowhere _ _ _ TooLong tt tt (read_long c.args.mode c.args.content.now c.if-n-gt128.true)

pub returns-then-n-at : goal.returns-then-n-at
returns-then-n-at c =
    ap Err c.into-then-n-at.ensures ∙ told_nowhere _ _ _ Misshapen tt tt (read_uncut c.args.mode c.args.content.now _ (c.walk-walked.ensures.first_is ∙
    ap (λ (s : ℕ). first_at s c.args.content.now) c.separator.ensures) c.if-n-gt128.false
    c.if-n-at.true)

pub returns-then-at-lt1 : goal.returns-then-at-lt1
returns-then-at-lt1 c =
    ap Err c.into-then-at-lt1.ensures ∙ told_nowhere _ _ _ Misshapen tt tt (read_unlabelled c.args.mode c.args.content.now _ (c.walk-walked.ensures.first_is ∙ ap
    (λ (s : ℕ). first_at s c.args.content.now) c.separator.ensures) c.if-n-gt128.false
    c.if-n-at.false c.if-at-lt1.true)

pub behind_label-requires : goal.behind_label-requires
behind_label-requires c = (
  rw (to_end (c.walk-walked.result.first + 1) c.args.content.now) (front_summed c.args.mode c.args.content.now _ _
      (subst (λ (s : ℕ). ContentWalk s c.args.content.now c.walk-walked.result.first c.walk-walked.result.sum)
      c.separator.ensures c.walk-walked.ensures)),
  starts_with c.walk-walked.result.first c.args.content.now,
  simp length-take (omega arith),
)

pub returns : goal.returns
returns c = c.behind_label.ensures ∙ rw (to_end (c.walk-walked.result.first + 1) c.args.content.now) (told_cut
    c.args.mode c.args.content.now _ (c.walk-walked.ensures.first_is ∙ ap (λ (s : ℕ). first_at s c.args.content.now)
    c.separator.ensures) c.if-n-gt128.false c.if-n-at.false c.if-at-lt1.false)
