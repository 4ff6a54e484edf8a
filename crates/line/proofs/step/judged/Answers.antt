-- Damaged, too long, or what the reader says.
use Rattle.groups.proofs.Laws.Place.{placed_small}
use Rattle.groups.proofs.Promises.{place_exactly}
use Rattle.groups.specs.Place.{place_told}
use Rattle.std.proofs.Common.{◌∙◌, ap, sym, arith}
use Rattle.line.proofs.step.judged.Goals as goal

-- a place fits a byte
pub overflow_cast-result : goal.overflow_cast-result
overflow_cast-result c =
    let told = ap place_told (sym c.in-Err.is ∙ c.judge.ensures) ∙ place_exactly c.args.mode c.args.content.now in
    omega (arith, told, placed_small c.args.mode c.args.content.now)
