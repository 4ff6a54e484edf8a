-- Eight plain bytes more.
use Rattle.std.proofs.Common.{◌≡◌, ◌+◌, ◌-◌, ◌∙◌, sym, rules, arith}
use Rattle.line.proofs.InRows.{lays_eight, cut_eight}
use Rattle.line.proofs.rows.add_eights.Goals as goal

pub loop-eight-preserved : goal.loop-eight-preserved
loop-eight-preserved c =
    let cut = cut_eight c.args.bytes.now c.loop-eight.count c.in-Some.eight.now c.loop-eight.invariant.most (search rules) (search rules) in
    let eight : c.loop-eight.count + 8 - c.loop-eight.count ≡ 8 = omega arith in
    lays_eight _ _ _ _ _ c.loop-eight.invariant cut.0 (omega arith)
    (rw (← cut.1) (sym c.are_plain.ensures ∙ c.if-not-are_plain.false))
    (rw (eight, c.copy_from_slice.ensures.after, c.codes_of-codes.ensures, ← cut.1))
