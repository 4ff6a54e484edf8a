-- The label is looked up, and its rule decides.
use Rattle.std.proofs.Common.{sym, arith, length, take_all}
use Rattle.groups.proofs.Laying.{listed_short, write_listed, write_unlisted, wrote_as, wrote_nothing}
use Rattle.groups.specs.Inside.{fields_in}
use Rattle.groups.proofs.writing.write_in.Goals as goal

pub returns-in_default : goal.returns-in_default
returns-in_default c =
    let l = c.args.group.label.now in
    let whole = take_all (length l) l (omega arith) in
    wrote_nothing c.args.buffer.now _ (write_unlisted c.args.mode (fields_in c.args.group) (length c.args.buffer.now)
    (rw whole at (sym c.in_default.ensures)))

pub write_by-requires : goal.write_by-requires
write_by-requires c =
    let l = c.args.group.label.now in
    let whole = take_all (length l) l (omega arith) in
    listed_short c.args.mode l _ (rw whole at (sym c.in-Some.ensures))

pub returns : goal.returns
returns c =
    let l = c.args.group.label.now in
    let whole = take_all (length l) l (omega arith) in
    wrote_as c.args.buffer.now _ _ (write_listed c.args.mode (fields_in c.args.group) (length c.args.buffer.now) _ (rw whole at (sym c.in-Some.ensures)))
    c.write_by.ensures
