-- `put_array`: once room was made, the array is laid at once.
use Rattle.std.proofs.Common.{rules, ◌∙◌}
use Rattle.streams.proofs.Fitting.{laid_at_once, room_made}
use Rattle.streams.proofs.page.Page.put_array.Goals as goal

pub returns-clause-ok : goal.returns-clause-ok
returns-clause-ok g c =
    rw c.fill.ensures
    (rw (← c.told-bytes)
    (laid_at_once c.self.inside.bytes _ c.args.bytes.now c.self.inside.end _
    (rw c.told-bytes (c.self.view_is ∙ c.in_ok-make_room.ensures.ok))
    (room_made c.args.self.now _ (rw c.told-bytes c.if-this-gt-SIZE.false))
    (search rules)))
