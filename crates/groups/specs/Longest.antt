-- How many bytes the groups of a mode have at most. Document 02's M-113 asks how long noise can mislead a line, at most up to
-- the next STX, and that is a question of how long a frame is.
use Rattle.std.specs.Prelude.{List, [], ◌∷◌, ℕ, ◌+◌, length}
use Rattle.groups.specs.Stamps.{is_stamped}
use Rattle.groups.specs.Fields.{longest}
use Rattle.groups.specs.Inside.{stamp_room}
use Rattle.groups.specs.Table.{Entry}

-- the content: the label, its separator, the stamp and its separator where the label has one, the data, the final separator
-- and the check character
abbrev pub longest_content : Entry → ℕ
longest_content e = length e.label + 1 + stamp_room (is_stamped e.rule.mark) + longest e.rule + 2

-- with LF and CR
abbrev pub longest_group : Entry → ℕ
longest_group e = longest_content e + 2

-- one group of each of these labels
abbrev pub longest_groups : List Entry → ℕ
longest_groups [] = 0
longest_groups (e ∷ more) = longest_group e + longest_groups more
