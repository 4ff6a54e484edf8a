-- How far data get counts from 1, and 0 is a length that no form has.
use Rattle.std.proofs.Common.{arith}
use Rattle.groups.proofs.Pictures.{formed_wrong, wrong_most}
use Rattle.groups.proofs.fitting.wrong_formed.Goals as goal

pub returns : goal.returns
returns c =
    let e = formed_wrong c.args.forms c.args.«data».now in (
      omega (arith, c.saturating_sub.ensures, c.furthest.ensures, e),
      omega (arith, c.saturating_sub.ensures, c.furthest.ensures, e, wrong_most c.args.forms c.args.«data».now),
    )
