-- What is left of the bytes decides.
use Rattle.std.proofs.Common.{◌≡◌, ◌-◌, ◌≤◌, length}
use Rattle.line.specs.State.{written}
use Rattle.line.specs.Steps.{fed}
use Rattle.line.proofs.feed.Given as goal

abbrev pub invariant-loop-rest : goal.invariant-loop-rest
invariant-loop-rest l = record {
  within : length l.rest ≤ length l.bytes;
  same : fed 0 l.fn.line l.initial.content l.bytes ≡ fed (length l.bytes - length l.rest) (written l.at) l.content l.rest;
}

abbrev pub decreases-loop-rest : goal.decreases-loop-rest
decreases-loop-rest l = length l.rest
