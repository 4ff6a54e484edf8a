-- The row that has the label's key, if there is one, decides.
use Rattle.std.proofs.Common.{◌≡◌, ◌∙◌, sym, arith, length, take, length-take}
use Rattle.characters.specs.Answers.{pick}
use Rattle.groups.proofs.Search.{short, no_bytes, too_many}
use Rattle.groups.proofs.find.find.Goals as goal
use Rattle.groups.proofs.find.find.Goals.{then-n-eq0-via-then-n-eq0, then-n-eq0-via-else-n-eq0+then-n-gt-LONGEST}

pub returns-then-n-eq0 : goal.returns-then-n-eq0
returns-then-n-eq0 c =
    elim c.then-n-eq0.branch [
      | then-n-eq0-via-then-n-eq0 w ↦ no_bytes c.args.mode c.args.n c.args.text.now w.if-n-eq0.true
      | then-n-eq0-via-else-n-eq0+then-n-gt-LONGEST w ↦ too_many c.args.mode c.args.n c.args.text.now c.requires w.if-n-gt-LONGEST.true
    ]

-- no row has the key
pub returns-in_err-row : goal.returns-in_err-row
returns-in_err-row c =
    let fits = short c.args.n c.args.text.now (λ i. omega (arith, c.type_inv.text i)) c.requires c.if-n-eq0.false c.if-n-gt-LONGEST.false in
    rw c.from_residual.ensures (sym (c.in_err-row.ensures _ fits (sym c.key_of.ensures)))

-- one has, and is the label's
pub returns-then-is_named : goal.returns-then-is_named
unfolding pick
returns-then-is_named c =
    let fits = short c.args.n c.args.text.now (λ i. omega (arith, c.type_inv.text i)) c.requires c.if-n-eq0.false c.if-n-gt-LONGEST.false in
    let long : length (take c.args.n c.args.text.now) ≡ c.args.n = simp length-take (omega (arith, c.requires)) in
    let named = sym c.is_named.ensures ∙ c.if-is_named.true in
    sym (c.in_ok-row.ensures _ fits (sym c.key_of.ensures) ∙ rw (long, ← c.ninth_of.ensures, named))

-- one has, and is of another label
pub returns-else-is_named : goal.returns-else-is_named
unfolding pick
returns-else-is_named c =
    let fits = short c.args.n c.args.text.now (λ i. omega (arith, c.type_inv.text i)) c.requires c.if-n-eq0.false c.if-n-gt-LONGEST.false in
    let long : length (take c.args.n c.args.text.now) ≡ c.args.n = simp length-take (omega (arith, c.requires)) in
    let other = sym c.is_named.ensures ∙ c.if-is_named.false in
    sym (c.in_ok-row.ensures _ fits (sym c.key_of.ensures) ∙ rw (long, ← c.ninth_of.ensures, other))
