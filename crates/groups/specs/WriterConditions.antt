-- Document 01's column "Given exactly when", for fields that are to be written: "Writer: 19, 11, 12, 13, 14, 15". Nothing
-- here makes a content; `Promises.antt` says that the number that writing tells is the first of these whose condition holds.
use Rattle.std.specs.Prelude.{◌≡◌, Bool, true, false, not, ◌||◌, List, [], ◌∷◌, ℕ, zero, suc, ◌+◌, ◌≤◌, eqb, ltb, length, take, get_or}
use Rattle.std.proofs.Math.Option.{Option, none, some}
use Rattle.characters.specs.Answers.{Answer, refused, given, pick, first_of}
use Rattle.groups.specs.Formats.{Rule}
use Rattle.groups.specs.Table.{historic_rows, standard_rows, business_rows, lookup}
use Rattle.groups.specs.Stamps.{stamp_right}
use Rattle.groups.specs.Groups.{Group}
use Rattle.groups.specs.Made.{some_made}
use Rattle.groups.specs.Conditions.{outside}
use Rattle.groups.specs.declared.Refusal.{Refusal}
use Rattle.groups.specs.declared.table.Mark.{Mark}
use Rattle.groups.specs.declared.table.Mark.TheVariants.{Unstamped, Letter, Space}

-- 12: "writer: stamp not right, missing, or given for an unstamped label"; one that is not given is empty
abbrev pub stamp_unfit : Mark → List ℕ → Bool
stamp_unfit Unstamped stamp = ltb 0 (length stamp)
stamp_unfit Letter stamp = eqb (length stamp) 0 || not (stamp_right Letter stamp)
stamp_unfit Space stamp = eqb (length stamp) 0 || not (stamp_right Space stamp)

-- "13 characters of stamp and an HT"
abbrev pub room_for_stamp : Mark → ℕ
room_for_stamp Unstamped = 0
room_for_stamp Letter = 13 + 1
room_for_stamp Space = 13 + 1

-- "LF, content and CR": LF, label, separator, stamp and separator where the label is stamped, data, separator, check
-- character, CR
unfoldable pub room_for : Mark → Group → ℕ
room_for mark g = 1 + length g.label + 1 + room_for_stamp mark + length g.«data» + 1 + 1 + 1

-- by the rule that the label has, if it has one: 11, "label not in the mode's list"; 13, "a length outside" the smallest and
-- largest; 14, "any other data that don't fit the fields"; 15, "lent buffer too short for all"
abbrev pub fields_unfit : Group → ℕ → Option Rule → List (ℕ × Bool)
fields_unfit g room none = (11, true) ∷ []
fields_unfit g room (some rule) =
    (11, false)
    ∷ (12, stamp_unfit rule.mark g.stamp)
    ∷ (13, outside rule g.«data»)
    ∷ (14, not (some_made rule.formats g.«data»))
    ∷ (15, ltb room (room_for rule.mark g))
    ∷ []

-- 19, "a mode not 0 to 2", first
unfoldable pub written_when : ℕ → Group → ℕ → List (ℕ × Bool)
written_when zero g room = (19, false) ∷ fields_unfit g room (lookup g.label historic_rows)
written_when (suc zero) g room = (19, false) ∷ fields_unfit g room (lookup g.label standard_rows)
written_when (suc (suc zero)) g room = (19, false) ∷ fields_unfit g room (lookup g.label business_rows)
written_when (suc (suc (suc number))) g room = (19, true) ∷ []

-- "The writer also tells how many bytes it wrote, 0 when it refuses."
abbrev pub count_for : Group → Option Rule → ℕ
count_for g none = 0
count_for g (some rule) = room_for rule.mark g

unfoldable pub count_due : ℕ → Group → ℕ → ℕ
count_due zero g room =
    pick (eqb (first_of 0 (written_when 0 g room)) 0) (count_for g (lookup g.label historic_rows)) 0
count_due (suc zero) g room =
    pick (eqb (first_of 0 (written_when 1 g room)) 0) (count_for g (lookup g.label standard_rows)) 0
count_due (suc (suc zero)) g room =
    pick (eqb (first_of 0 (written_when 2 g room)) 0) (count_for g (lookup g.label business_rows)) 0
count_due (suc (suc (suc number))) g room = 0

-- a buffer begins with these bytes, "the rest unchanged"
pub record Leaves (bytes before after : List ℕ) : Type 0 where
  pub begins : take (length bytes) after ≡ bytes
  pub unchanged : (i : ℕ) → length bytes ≤ i → get_or after i 0 ≡ get_or before i 0
  pub as_long : length after ≡ length before

-- "Every refused writing changes no lent byte."
abbrev pub bytes_of : Answer Refusal (List ℕ) → List ℕ
bytes_of (refused refusal) = []
bytes_of (given bytes) = bytes
