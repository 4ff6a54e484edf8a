-- What is left decides the place; what was gone over is summed.
use Rattle.std.proofs.Common.{◌≡◌, ◌+◌, ◌%◌, take, drop}
use Rattle.groups.specs.Conditions.{first_at}
use Rattle.groups.specs.Groups.{total}
use Rattle.groups.proofs.reading.walk_label.Given as goal

abbrev pub invariant-loop-first : goal.invariant-loop-first
invariant-loop-first l =
    (first_at l.code l.text ≡ l.first + first_at l.code (drop l.first l.text)) × (l.sum ≡ total (take l.first l.text) % 256)
