-- A turn of a closed line, and of an open one.
use Rattle.std.proofs.Common.{◌∙◌, ap, sym, arith}
use Rattle.station.proofs.Inboxes.{waits_are}
use Rattle.station.proofs.Turns.{took_few, turn_closed, turn_open}
use Rattle.station.specs.Memory.{rows_behind}
use Rattle.station.specs.declared.row.Row.{Row}
use Rattle.station.proofs.turn.turn.Goals as goal

pub returns-then-row-eq0 : goal.returns-then-row-eq0
returns-then-row-eq0 c =
    turn_closed (rows_behind c.args.marks.now c.args.places.now c.args.content.now c.args.inbox.now)
    (record { content = c.told-content; inbox = c.told-inbox })
    (ap (λ (r : Row). r.opened) (sym c.read-row.ensures) ∙ c.if-row-eq0.true)

pub overflow_cast-count : goal.overflow_cast-count
overflow_cast-count c = omega (arith, (took_few _ _ _ _ c.told-content (rw c.bytes_of_turn.ensures at c.feed-taken.ensures.results)).0)

pub overflow_add-then : goal.overflow_add-then
overflow_add-then c =
    omega (arith, (took_few _ _ _ _ c.told-content (rw c.bytes_of_turn.ensures at c.feed-taken.ensures.results)).0, c.min.ensures, c.from.ensures)

pub overflow_sub-then : goal.overflow_sub-then
overflow_sub-then c = (took_few _ _ _ _ c.told-content (rw c.bytes_of_turn.ensures at c.feed-taken.ensures.results)).1

pub returns : goal.returns
returns c =
    rw (c.marks.ensures, c.places.ensures, c.read-row.ensures, c.from.ensures)
    (turn_open (rows_behind c.args.marks.now c.args.places.now c.args.content.now c.args.inbox.now)
    (record { content = c.told-content; inbox = c.told-inbox }) _
    (waits_are c.args.marks.now c.args.places.now c.args.content.now _ _ _ c.read-row.ensures c.waiting-waiting.ensures)
    _ (rw (c.read-row.ensures, c.bytes_of_turn.ensures) at c.feed-taken.ensures.results)
    (λ z. c.if-row-eq0.false (ap (λ (r : Row). r.opened) c.read-row.ensures ∙ z)) _
    (rw (c.read-row.ensures, c.bytes_of_turn.ensures) at c.feed-taken.ensures.leaves) _
    (rw c.read-row.ensures at c.min.ensures))
