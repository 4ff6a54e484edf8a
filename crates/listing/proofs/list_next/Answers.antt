-- The line of what was heard.
use Rattle.std.proofs.Common.{rules}
use Rattle.listing.proofs.Pieces.{taken_inside, taken_lists}
use Rattle.listing.proofs.list_next.Goals as goal

pub put_line-requires : goal.put_line-requires
put_line-requires c = taken_inside (record { line = c.args.line; content = c.args.content.now }) c.args.bytes.now (search rules) _ _ c.feed-taken.ensures

pub returns : goal.returns
returns c = taken_lists (record { line = c.args.line; content = c.args.content.now }) c.args.bytes.now (search rules) _ _ c.feed-taken.ensures _ c.put_line.ensures
