-- Eight that are of the kind are eight more.
use Rattle.std.proofs.Common.{◌∙◌, sym, rules}
use Rattle.groups.specs.Kinds.{of_kind}
use Rattle.groups.proofs.Walks.{eight_further}
use Rattle.groups.proofs.fitting.eights_of_kind.Goals as goal

pub loop-eight-preserved : goal.loop-eight-preserved
loop-eight-preserved c =
    eight_further (of_kind c.args.kind) c.args.text.now c.loop-eight.count c.in-Some.eight.now c.loop-eight.invariant
    (search rules) (search rules) (sym c.eight_of_kind.ensures ∙ c.if-not-eight_of_kind.false)
