-- A part that fits, and the empty part where it does not.
use Rattle.std.proofs.Common.{ℕ, ◌+◌, ◌-◌, le-leb, length, ◌≡◌, arith}
use Rattle.std.proofs.lemmas.Bool.{lt-leb}
use Rattle.characters.specs.Answers.{pick}
use Rattle.groups.specs.Judging.{part_of, part_start}
use Rattle.groups.proofs.part.Goals as goal

-- a part at the start lies where the content does
at-start : (p : ℕ × ℕ) → p ≡ (p.0, 0 + p.1)
at-start p =
    let e : 0 + p.1 ≡ p.1 = omega arith in
    rw e

pub returns-then-content-start : goal.returns-then-content-start
unfolding part_of part_start pick
returns-then-content-start c =
    let over = lt-leb (c.args.stretch.start + c.args.stretch.length) (length c.args.content.now) (omega arith) in
    record { lies = rw over (at-start c.args.content.ref_ptr); bytes = rw over }

pub returns-then-content-start-2 : goal.returns-then-content-start-2
unfolding part_of part_start pick
returns-then-content-start-2 c =
    let over = lt-leb (c.args.stretch.start + c.args.stretch.length) (length c.args.content.now) (omega arith) in
    record { lies = rw over (at-start c.args.content.ref_ptr); bytes = rw over }

pub returns : goal.returns
unfolding part_of part_start pick
returns c =
    let e : c.args.stretch.start + c.args.stretch.length - c.args.stretch.start ≡ c.args.stretch.length = omega arith in
    let fits = le-leb (c.args.stretch.start + c.args.stretch.length) (length c.args.content.now) (omega arith) in
    record { lies = rw fits; bytes = rw (e, fits) }
