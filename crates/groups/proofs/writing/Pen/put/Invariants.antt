-- What is laid and what is still to be laid are the whole text.
use Rattle.std.specs.Prelude.{◌≡◌, map, ◌+◌, ◌-◌, ◌≤◌, length, drop}
use Rattle.std.proofs.lemmas.List.Edits.{sets}
use Rattle.characters.specs.Wire.{wire_byte_of}
use Rattle.groups.proofs.writing.Pen.put.Given as goal

abbrev pub invariant-loop-i : goal.invariant-loop-i
invariant-loop-i l =
    (l.i ≤ length l.text) × (l.self.buffer.ghost_name ≡ l.fn.self.buffer.ghost_name)
    × (length l.self.buffer.now ≡ length l.fn.self.buffer.now) × (sets l.fn.self.buffer.now l.at (map wire_byte_of l.text) ≡ sets l.self.buffer.now (l.at + l.i) (map wire_byte_of (drop l.i l.text)))

abbrev pub decreases-loop-i : goal.decreases-loop-i
decreases-loop-i l = length l.text - l.i
