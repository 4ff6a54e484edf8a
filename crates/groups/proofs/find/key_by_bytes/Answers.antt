-- Each byte goes on top of those behind it.
use Rattle.std.proofs.Common.{◌≡◌, ◌∙◌, ◌+◌, ◌*◌, ◌/◌, ℕ, take, reverse, arith, rules}
use Rattle.std.specs.List.{fold}
use Rattle.groups.proofs.Keys.{bytes_take, folded_key}
use Rattle.groups.proofs.find.key_by_bytes.Goals as goal

pub returns : goal.returns
returns c =
    let front = take c.args.n c.args.text.now in
    let folded : c.fold.result ≡ fold (λ (key byte : ℕ). key / 256 + byte * 72057594037927936) 0 (reverse front) = search rules in
    folded ∙ folded_key front (bytes_take c.args.n c.args.text.now (λ i. omega (arith, c.type_inv.text i)))
