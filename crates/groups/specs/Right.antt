-- What a right group is, in the documents' own terms. Nothing here says how a reader or a writer works.
use Rattle.std.specs.Prelude.{◌≡◌, ℕ, ◌+◌, ◌%◌, ◌≤◌, T, length}
use mathlib.Core.List.{List, [], ◌∷◌, ◌++◌, Memᴰ}
use Rattle.characters.specs.Wire.{HT}
use Rattle.groups.specs.Modes.{separator}
use Rattle.groups.specs.Formats.{Field, Rule}
use Rattle.groups.specs.Table.{rows}
use Rattle.groups.specs.Groups.{Group, total}
use Rattle.groups.specs.Made.{made_of}
use Rattle.groups.specs.RightStamps.{RightStamp}
use Rattle.groups.specs.declared.Mode.{Mode}
use Rattle.groups.specs.declared.Mode.TheVariants.{Historic, Standard, Business}
use Rattle.groups.specs.declared.table.Mark.{Mark}
use Rattle.groups.specs.declared.table.Mark.TheVariants.{Unstamped, Letter, Space}

-- a group's fields with the separators between them: all that stands before the final separator
abbrev pub parted : Mode → Mark → Group → List ℕ
parted m Unstamped g = g.label ++ separator m ∷ g.«data»
parted m Letter g = g.label ++ separator m ∷ (g.stamp ++ separator m ∷ g.«data»)
parted m Space g = g.label ++ separator m ∷ (g.stamp ++ separator m ∷ g.«data»)

-- what is counted of it: "Historic: .. the final separator is not counted. Standard: it is counted too"; in mode 2 it is not
-- (document 003, 1.5.2 and 2.9.1)
abbrev pub counted : Mode → List ℕ → List ℕ
counted Historic front = front
counted Standard front = front ++ HT ∷ []
counted Business front = front

-- the content c is that of a right group with the fields g
pub record RightGroup (m : Mode) (c : List ℕ) (g : Group) : Type 0 where
  pub rule : Rule
  pub check_character : ℕ
  -- "label not in the mode's list" is not so: the list has it, with this rule
  pub listed : Memᴰ (record { label = g.label; rule = rule }) (rows m)
  -- "The last character is the check character, the one before it must be a separator."
  pub separated : c ≡ parted m rule.mark g ++ separator m ∷ check_character ∷ []
  -- "add the character codes, take the remainder by 64, add 32"
  pub check_right : check_character ≡ total (counted m (parted m rule.mark g)) % 64 + 32
  -- the stamp is right, or absent where the label has none
  pub stamp_is_right : RightStamp rule.mark g.stamp
  -- the data have a length that the row allows, and are made of the fields of one of its formats
  pub long_enough : rule.smallest ≤ length g.«data»
  pub short_enough : length g.«data» ≤ rule.largest
  pub format : List Field
  pub format_listed : Memᴰ format rule.formats
  pub data_made : T (made_of format g.«data»)
