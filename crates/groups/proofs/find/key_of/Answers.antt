-- The first eight bytes of the text, cut to the label; byte by byte where there are not so many.
use Rattle.groups.proofs.Keys.{key_cut}
use Rattle.std.proofs.Common.{◌∙◌, arith}
use Rattle.groups.proofs.find.key_of.Goals as goal

pub returns : goal.returns
returns c = c.cut.ensures ∙ rw c.first_eight.ensures
    (key_cut c.args.text.now c.if-text-lt8.false (λ i. omega (arith, c.type_inv.text i)) c.args.n)
