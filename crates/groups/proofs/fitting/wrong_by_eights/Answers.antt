-- The eights, and behind them what is left.
use Rattle.std.proofs.Common.{◌∙◌, ap, ◌+◌, ℕ, arith}
use Rattle.std.proofs.lemmas.List.Sums.{prefix_len-le-length}
use Rattle.groups.specs.Kinds.{of_kind}
use Rattle.groups.proofs.Walks.{right_to_end}
use Rattle.groups.proofs.fitting.wrong_by_eights.Goals as goal

pub returns : goal.returns
returns c =
    let count = c.eights_of_kind-count.result in
    ap (λ (n : ℕ). count + n) c.wrong_among.ensures
    ∙ right_to_end (of_kind c.args.kind) c.args.text.now count c.eights_of_kind-count.ensures

pub overflow_add-result : goal.overflow_add-result
overflow_add-result c =
    let all = right_to_end (of_kind c.args.kind) c.args.text.now c.eights_of_kind-count.result c.eights_of_kind-count.ensures in
    let most = prefix_len-le-length (of_kind c.args.kind) c.args.text.now in
    omega (arith, c.wrong_among.ensures, all, most)
