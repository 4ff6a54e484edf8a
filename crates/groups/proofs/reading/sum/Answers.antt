-- What the bytes add up to, one after the other, is their sum.
use Rattle.std.proofs.Common.{◌≡◌, ◌+◌, ◌%◌, ℕ, arith, rules}
use Rattle.std.specs.List.{fold}
use Rattle.groups.proofs.Walks.{folded_total}
use Rattle.groups.proofs.reading.sum.Goals as goal

pub returns : goal.returns
returns c =
    let folded : c.fold.result ≡ fold (λ (s x : ℕ). (s + x) % 256) 0 c.args.text.now = search rules in
    omega (arith, folded, folded_total 0 c.args.text.now, c.fold.type_inv)
