-- A frame of right groups has no more bytes than the rows of its labels allow, and so, with no label twice, than a group of every
-- label of the list.
use Rattle.std.specs.Prelude.{◌≡◌, List, map, ℕ, ◌+◌, ◌≤◌, T, length}
use Rattle.std.proofs.Common.{arith, length-append}
use Rattle.std.proofs.lemmas.List.{length-map}
use Rattle.characters.specs.Wire.{character_of}
use Rattle.groups.specs.Table.{rows}
use Rattle.groups.specs.Longest.{longest_groups}
use Rattle.groups.proofs.Laws.Table.{distinct}
use Rattle.groups.proofs.Laws.Longest.{content_most, row_found, AllFound, each_once, lists_long}
use Rattle.groups.specs.declared.Mode.{Mode}
use Rattle.groups.specs.declared.Mode.TheVariants.{Historic, Standard, Business}
use Rattle.line.specs.ByBytes.{RightFrame, empty, group}
use Rattle.line.specs.Longest.{rows_in, longest_frame}

rows_most : (m : Mode) (since : List ℕ) (f : RightFrame m since) → length since ≤ longest_groups (rows_in since f)
rows_most m since empty = omega arith
rows_most m since (group lf cr inner more g l s r c rest) =
    simp length-append (omega (
      arith,
      content_most m (map character_of inner) g r,
      length-map inner character_of,
      rows_most m more rest,
    ))

rows_found : (m : Mode) (since : List ℕ) (f : RightFrame m since) → AllFound (rows_in since f) (rows m)
rows_found m since empty = tt
rows_found m since (group lf cr inner more g l s r c rest) =
    (row_found m (map character_of inner) g r, rows_found m more rest)

-- the numbers are those of the lists, with STX and ETX
longest_is : (m : Mode) → longest_groups (rows m) + 2 ≡ longest_frame m
longest_is Historic = rw lists_long.0
longest_is Standard = rw lists_long.1
longest_is Business = rw lists_long.2

pub frame_most : (m : Mode) (since : List ℕ) (f : RightFrame m since) → T (distinct (rows_in since f))
    → length since + 2 ≤ longest_frame m
frame_most m since f t =
    let most = rows_most m since f in
    let all = each_once (rows_in since f) (rows m) t (rows_found m since f) in
    let is = longest_is m in
    omega arith
