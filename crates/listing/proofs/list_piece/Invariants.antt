-- From where the line is, what is left of the piece leads where all of it leads from the start.
use Rattle.std.proofs.Common.{◌≡◌, length}
use Rattle.line.specs.Lines.{after}
use Rattle.line.specs.State.{line_of}
use Rattle.listing.specs.Parts.{heard_by}
use Rattle.listing.proofs.list_piece.Given as goal

abbrev pub invariant-loop-rest : goal.invariant-loop-rest
invariant-loop-rest l = record {
  same_mode : l.line.mode ≡ l.initial.ear.line.mode;
  leads : after l.line.mode (line_of l.line l.ear.content) l.rest ≡ after l.initial.ear.line.mode (heard_by l.initial.ear) l.piece;
}

abbrev pub decreases-loop-rest : goal.decreases-loop-rest
decreases-loop-rest l = length l.rest
