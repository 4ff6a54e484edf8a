-- One character more.
use Rattle.std.proofs.Common.{◌∙◌, sym, arith}
use Rattle.line.proofs.InRows.{lays_one}
use Rattle.line.proofs.rows.add_rest.Goals as goal

pub loop-i-preserved : goal.loop-i-preserved
loop-i-preserved c = λ old first.
    lays_one old c.args.bytes.now c.loop-i.room c.loop-i.i _ (c.loop-i.invariant old first) (omega arith) (omega arith)
    (sym c.symbol_of.ensures ∙ c.in-Text.is)
