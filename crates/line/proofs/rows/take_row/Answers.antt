-- One row behind the other.
use Rattle.std.proofs.Common.{◌≡◌, [], ◌++◌, ◌-◌, take, drop, append-nil, drop_of_length-le, length-drop, arith}
use borrow.Rule.Slice.PartMut.{put_mid, mid_of}
use Rattle.line.proofs.InRows.{rest_is, row_joined}
use Rattle.line.proofs.rows.take_row.Goals as goal

pub slice_bounds-rest-count : goal.slice_bounds-rest-count
slice_bounds-rest-count c = (c.take_quiet-quiet.ensures c.args.content.now).most

pub slice_bounds-rest-start : goal.slice_bounds-rest-start
slice_bounds-rest-start c = omega (arith, (c.take_quiet-quiet.ensures c.args.content.now).most)

pub returns-in-Group : goal.returns-in-Group
returns-in-Group c =
    let a = c.take_quiet-quiet.result in
    let behind : drop (128 - a.line.held) (drop a.line.held c.args.content.now) ≡ [] =
    drop_of_length-le (drop a.line.held c.args.content.now) {i = 128 - a.line.held} (simp length-drop (omega (arith, c.told-content))) in
    let whole : put_mid a.line.held (128 - a.line.held) c.args.content.now c.add_text-more.new.room
    ≡ take a.line.held c.args.content.now ++ c.add_text-more.new.room = rw (behind, append-nil) in
    let part : mid_of a.line.held (128 - a.line.held) c.args.content.now ≡ drop a.line.held c.args.content.now =
    rw (← c.told-content) (rest_is c.args.content.now a.line.held) in
    rw whole (row_joined c.args.line c.args.content.now c.args.bytes.now a _ _ _ c.add_text-more.result
    c.add_text-more.new.room c.turned.result c.told-content (c.take_quiet-quiet.ensures c.args.content.now) c.in-Group.is
    (rw (part, rest_is c.args.bytes.now a.count) at c.add_text-more.ensures) c.turned.ensures)

pub returns-in_default : goal.returns-in_default
returns-in_default c = c.take_quiet-quiet.ensures c.args.content.now
