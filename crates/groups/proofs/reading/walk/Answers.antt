-- The sum goes on from the first separator, where that is none of the last two characters.
use Rattle.std.proofs.Common.{◌-◌, length, arith}
use Rattle.groups.proofs.Walks.{total_between}
use Rattle.groups.proofs.reading.walk.Goals as goal

pub returns : goal.returns
returns c =
    let end = length c.args.content.now - 2 in
    let between = total_between c.args.content.now c.walk_label-label.result.first end (omega arith) in
    record {
      first_is = c.walk_label-label.ensures.first_is;
      sum_is = λ h. omega (arith, c.walk_label-label.ensures.sum_is, c.sum-behind.ensures, between);
    }
