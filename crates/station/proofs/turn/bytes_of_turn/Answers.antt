-- The oldest 64.
use Rattle.station.proofs.Turns.{oldest_taken}
use Rattle.station.proofs.turn.bytes_of_turn.Goals as goal

pub returns : goal.returns
returns c = rw c.min.ensures (oldest_taken c.args.waiting.now)
