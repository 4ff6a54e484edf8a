-- Each answer by the tests that led to it.
use Rattle.std.proofs.Common.{ℕ, ◌-◌, ◌≤◌, rules, drop, length, length-drop, length-take, take, List, ◌≡◌, ap, subst, sym, arith}
use Rattle.groups.proofs.Pictures.{reached, too_long, too_short}
use Rattle.groups.proofs.Walks.{to_end}
use Rattle.groups.proofs.Laws.Forms.{agreed_most}
use Rattle.groups.specs.Place.{agreed}
use Rattle.groups.proofs.fitting.reach.Goals as goal
use Rattle.groups.proofs.fitting.reach.Goals.{then-n-least-via-then-n-least, then-n-least-via-else-n-least+then-most-n}

pub returns-then-n-least : goal.returns-then-n-least
returns-then-n-least c =
    let h : length c.args.form.2 ≡ 21 = search rules in
    elim c.then-n-least.branch [
      | then-n-least-via-then-n-least w ↦ sym (too_short c.args.form c.args.«data».now w.if-n-least.true)
      | then-n-least-via-else-n-least+then-most-n w ↦ sym (too_long c.args.form c.args.«data».now h c.requires w.if-most-n.true)
    ]

pub slice_bounds-agreed-end : goal.slice_bounds-agreed-end
slice_bounds-agreed-end c =
    let h : length c.args.form.2 ≡ 21 = search rules in
    omega arith

pub agreed-requires : goal.agreed-requires
agreed-requires c =
    let h : length c.args.form.2 ≡ 21 = search rules in
    let k : length c.args.«data».now ≤ 21 = omega (arith, c.requires) in
    simp (length-take, length-drop) (omega (arith, h, k))

pub overflow_add-result : goal.overflow_add-result
overflow_add-result c =
    let k = agreed_most (take (21 - (21 - length c.args.«data».now)) (drop (21 - length c.args.«data».now) c.args.form.2)) c.args.«data».now in
    search rules

pub returns : goal.returns
returns c =
    let h : length c.args.form.2 ≡ 21 = search rules in
    let at = 21 - length c.args.«data».now in
    let end : take (21 - at) (drop at c.args.form.2) ≡ drop at c.args.form.2 =
    subst (λ (n : ℕ). take (n - at) (drop at c.args.form.2) ≡ drop at c.args.form.2) h (to_end at c.args.form.2) in
    omega (
      arith,
      c.agreed.ensures,
      ap (λ (x : List ℕ). agreed x c.args.«data».now) end,
      reached c.args.form c.args.«data».now h c.requires (omega arith) (omega arith),
    )
