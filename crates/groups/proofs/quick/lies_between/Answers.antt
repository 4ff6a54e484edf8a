-- Data behind the front of the lowest text lie between the ends of both.
use Rattle.std.proofs.Common.{rules, sym, ◌∙◌, ◌+◌, ◌-◌, length, arith}
use Rattle.std.proofs.lemmas.Slice.{between-put_mid}
use Rattle.groups.proofs.Between.{bounded_behind}
use Rattle.groups.proofs.quick.lies_between.Goals as goal

pub returns : goal.returns
returns g c = λ e.
    let start = g.row.N - length c.args.«data».now in
    bounded_behind c.args.least c.args.low.now c.args.high.now c.args.«data».now _ start (search rules) (search rules)
    (omega arith) (search rules)
    (between-put_mid start _ c.args.low.now c.copy_from_slice.new.self (start + length c.args.«data».now) (search rules) (search rules) ∙ c.copy_from_slice.ensures.after)
    (sym c.all_between.ensures ∙ e)
