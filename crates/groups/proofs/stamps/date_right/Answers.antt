-- Past the test of the digits, every test is that of the definition.
use Rattle.std.proofs.Common.{◌-◌, ℕ, eq-eqb, le-leb, ne_eqb, eqb, drop, length, length-drop, take, true, List, ◌∙◌, ◌≡◌, sym, arith}
use Rattle.characters.specs.Answers.{every}
use Rattle.groups.proofs.Walks.{to_end, two_digits_at, wrong_none}
use Rattle.std.specs.List.{prefix_len}
use Rattle.groups.specs.Kinds.{of_kind}
use Rattle.groups.specs.Stamps.{two_digits, date_right}
use Rattle.groups.specs.declared.table.Kind.TheVariants.{Digits}
use Rattle.groups.proofs.stamps.date_right.Goals as goal

-- what the code finds wrong behind the season tells whether all there are digits
module _ (s : List ℕ) (n : length s ≡ 13) {wrong : ℕ} (e : wrong ≡ prefix_len (of_kind Digits) (take (length s - 1) (drop 1 s))) where
  tested : every (of_kind Digits) (drop 1 s) ≡ eqb wrong 12
  tested = rw (e, to_end 1 s) (sym (wrong_none (of_kind Digits) (drop 1 s) 12 (simp length-drop (omega arith))))

  all_digits : wrong ≡ 12 → every (of_kind Digits) (drop 1 s) ≡ true
  all_digits w = tested ∙ eq-eqb _ _ w

pub returns-then-wrong_at-ne12 : goal.returns-then-wrong_at-ne12
unfolding date_right
returns-then-wrong_at-ne12 c =
    rw (tested c.args.stamp.now c.requires c.wrong_at.ensures ∙ ne_eqb _ _ c.if-wrong_at-ne12.true)

pub two_digits-month-requires : goal.two_digits-month-requires
two_digits-month-requires c =
    let digits = all_digits c.args.stamp.now c.requires c.wrong_at.ensures c.if-wrong_at-ne12.false in
    two_digits_at c.args.stamp.now c.requires digits 3 (omega arith) (omega arith)

pub two_digits-requires : goal.two_digits-requires
two_digits-requires c =
    let digits = all_digits c.args.stamp.now c.requires c.wrong_at.ensures c.if-wrong_at-ne12.false in
    two_digits_at c.args.stamp.now c.requires digits 1 (omega arith) (omega arith)

pub two_digits-day-requires : goal.two_digits-day-requires
two_digits-day-requires c =
    let digits = all_digits c.args.stamp.now c.requires c.wrong_at.ensures c.if-wrong_at-ne12.false in
    two_digits_at c.args.stamp.now c.requires digits 5 (omega arith) (omega arith)

pub two_digits-requires-2 : goal.two_digits-requires-2
two_digits-requires-2 c =
    let digits = all_digits c.args.stamp.now c.requires c.wrong_at.ensures c.if-wrong_at-ne12.false in
    two_digits_at c.args.stamp.now c.requires digits 7 (omega arith) (omega arith)

pub two_digits-requires-3 : goal.two_digits-requires-3
two_digits-requires-3 c =
    let digits = all_digits c.args.stamp.now c.requires c.wrong_at.ensures c.if-wrong_at-ne12.false in
    two_digits_at c.args.stamp.now c.requires digits 9 (omega arith) (omega arith)

pub two_digits-requires-4 : goal.two_digits-requires-4
two_digits-requires-4 c =
    let digits = all_digits c.args.stamp.now c.requires c.wrong_at.ensures c.if-wrong_at-ne12.false in
    two_digits_at c.args.stamp.now c.requires digits 11 (omega arith) (omega arith)

pub returns : goal.returns
unfolding date_right
returns c = rw (
  c.two_digits-4.ensures.0,
  c.two_digits-3.ensures.0,
  c.two_digits-2.ensures.0,
  c.two_digits-day.ensures.0,
  c.days_in-days.ensures,
  c.two_digits.ensures.0,
  c.two_digits-month.ensures.0,
  all_digits c.args.stamp.now c.requires c.wrong_at.ensures c.if-wrong_at-ne12.false,
  le-leb 0 (two_digits c.args.stamp.now 7) (omega arith),
  le-leb 0 (two_digits c.args.stamp.now 9) (omega arith),
  le-leb 0 (two_digits c.args.stamp.now 11) (omega arith),
)
