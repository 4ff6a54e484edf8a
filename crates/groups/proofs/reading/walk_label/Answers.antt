-- What is left decides the place; what was gone over is summed.
use Rattle.std.proofs.Common.{◌≡◌, ℕ, ◌%◌, ◌∙◌, ap, take, arith, length}
use Rattle.groups.specs.Groups.{total}
use Rattle.groups.proofs.Walks.{first_here, first_on, first_over, total_upto}
use Rattle.groups.proofs.reading.walk_label.Goals as goal

pub returns-then-one-code : goal.returns-then-one-code
returns-then-one-code c = record {
  first_is = omega (arith, c.loop-first.invariant.0, first_here c.args.code c.args.text.now c.loop-first.first (omega arith) c.if-one-code.true);
  first_most = omega arith;
  sum_is = c.loop-first.invariant.1;
}

pub loop-first-preserved : goal.loop-first-preserved
loop-first-preserved c =
    let on = first_on c.args.code c.args.text.now c.loop-first.first (omega arith) c.if-one-code.false in
    let more = total_upto c.args.text.now c.loop-first.first (omega arith) in
    (omega (arith, c.loop-first.invariant.0, on), omega (arith, c.loop-first.invariant.1, more))

pub returns : goal.returns
returns c =
    let n = length c.args.text.now in
    let at : c.loop-first.first ≡ n = omega arith in
    let over = first_over c.args.code c.args.text.now c.loop-first.first (omega arith) in
    record {
      first_is = omega (arith, c.loop-first.invariant.0, over);
      first_most = omega arith;
      sum_is = c.loop-first.invariant.1 ∙ ap (λ (i : ℕ). total (take i c.args.text.now) % 256) at;
    }
