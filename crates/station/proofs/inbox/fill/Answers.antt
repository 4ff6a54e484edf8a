-- A delivery: to a closed line, without room, with room.
use Rattle.std.specs.Prelude.{replicate}
use Rattle.std.proofs.Common.{◌∙◌, ap, sym, refl, arith}
use Rattle.std.proofs.lemmas.Slice.{put_mid-paste}
use Rattle.station.proofs.Inboxes.{waits_are, fill_closed, fill_over, fill_done}
use Rattle.station.specs.Memory.{rows_behind}
use Rattle.station.specs.declared.row.Row.{Row}
use Rattle.station.proofs.inbox.fill.Goals as goal

pub returns-then-row-eq0 : goal.returns-then-row-eq0
returns-then-row-eq0 c =
    fill_closed _ c.args.bytes.now (ap (λ (r : Row). r.opened) (sym c.read-row.ensures) ∙ c.if-row-eq0.true)

pub returns-then-count-bytes : goal.returns-then-count-bytes
returns-then-count-bytes c =
    fill_over (rows_behind c.args.marks.now c.args.places.now c.args.content.now c.args.inbox.now) c.told-inbox _
    (waits_are c.args.marks.now c.args.places.now c.args.content.now _ _ _ c.read-row.ensures c.waiting-oldest.ensures)
    (λ z. c.if-row-eq0.false (ap (λ (r : Row). r.opened) c.read-row.ensures ∙ z)) c.args.bytes.now c.if-count-bytes.true

pub returns : goal.returns
returns c =
    rw (c.places.ensures, c.read-row.ensures)
    (fill_done (rows_behind c.args.marks.now c.args.places.now c.args.content.now c.args.inbox.now) c.told-inbox _
    (waits_are c.args.marks.now c.args.places.now c.args.content.now _ _ _ c.read-row.ensures c.waiting-oldest.ensures)
    (λ z. c.if-row-eq0.false (ap (λ (r : Row). r.opened) c.read-row.ensures ∙ z)) c.args.bytes.now c.if-count-bytes.false
    (replicate 256 0) _ _ _ _ _ refl
    (put_mid-paste 0 _ _ _ _ _ c.copy_from_slice.ensures.after refl refl)
    (put_mid-paste _ _ _ _ c.args.bytes.now _ c.copy_from_slice-2.ensures.after (omega arith) refl)
    refl c.copy_from_slice-3.ensures.after refl)
