-- How many bytes a frame has at most: document 02's M-113 asks how long noise can mislead a line, and that is at most up to the
-- next sound STX.
use Rattle.std.specs.Prelude.{List, [], ◌∷◌, ℕ}
use Rattle.groups.specs.Table.{Entry}
use Rattle.groups.specs.declared.Mode.{Mode}
use Rattle.groups.specs.declared.Mode.TheVariants.{Historic, Standard, Business}
use Rattle.line.specs.ByBytes.{RightFrame, empty, group}

-- the rows of the labels in a frame, in order
abbrev pub rows_in : {m : Mode} (since : List ℕ) → RightFrame m since → List Entry
rows_in since empty = []
rows_in since (group lf cr inner more g l s r c rest) = record { label = g.label; rule = r.rule } ∷ rows_in more rest

-- STX, a group of every label of the mode's list, each as long as it can be, and ETX
abbrev pub longest_frame : Mode → ℕ
longest_frame Historic = 536
longest_frame Standard = 1727
longest_frame Business = 1693
