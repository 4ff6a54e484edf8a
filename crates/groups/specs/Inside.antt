-- What only the contracts of private functions cite: views of the definitions in the code's own types, and how the code
-- goes about its work. No promise rests on a reader's belief in these.
use Rattle.std.specs.Prelude.{◌≡◌, Bool, List, ◌∷◌, ◌++◌, ℕ, ◌+◌, ◌-◌, ◌%◌, ◌≤◌, T as So, length, take, drop, Result, Ok, Err, Option as StoredOption, Some, None}
use Rattle.std.specs.List.{prefix_len}
use Rattle.std.proofs.Math.Option.{some}
use Rattle.std.proofs.lemmas.List.Edits.{sets}
use Rattle.characters.specs.Answers.{Answer, refused, given, pick}
use Rattle.groups.specs.Modes.{separator, counted_at_end}
use Rattle.groups.specs.Formats.{Rule}
use Rattle.groups.specs.Stamps.{is_stamped, stamp_right}
use Rattle.groups.specs.Fields.{longest, width_right, kind_right, checked}
use Rattle.groups.specs.Groups.{Group, group_of, content, body, total, fields_of, behind_label, read}
use Rattle.groups.specs.Table.{lookup, rows}
use Rattle.groups.specs.Numbers.{number_as}
use Rattle.groups.specs.Conditions.{first_at, label_of, body_of}
use Rattle.groups.specs.Judging.{shown, stamp_span}
use Rattle.groups.specs.Place.{first_wrong, next_place, wrong_place, place_for}
use Rattle.groups.specs.Writing.{into}
use Rattle.groups.specs.declared.Mode.{Mode}
use Rattle.groups.specs.declared.Refusal.{Refusal}
use Rattle.groups.specs.declared.Refusal.TheVariants.{StampWrong}
use Rattle.groups.specs.declared.group.Group.{Group as LentGroup}
use Rattle.groups.specs.declared.Fields.{Fields}
use Rattle.groups.specs.declared.Fault.{Fault}

-- ---- Views

-- an answer as the code has it
abbrev pub result_of : {A : Type 0} → Answer Refusal A → Result A Refusal
result_of (refused refusal) = Err refusal
result_of (given a) = Ok a

-- the fields of a group that was lent
abbrev pub fields_in : LentGroup → Group
fields_in g = group_of g.label.now g.stamp.now g.«data».now

-- what a rule says of stamp and data
abbrev pub fitness : Rule → Group → Result (Unit {0}) Refusal
fitness rule g = result_of (checked rule g.stamp g.«data» tt)

-- how many characters a stamp and the separator behind it take, where the label has one
abbrev pub stamp_room : Bool → ℕ
stamp_room b = pick b 14 0

-- ---- What is told: an answer, and the place of its number

abbrev pub refused_at : Refusal → ℕ → Result Fields Fault
refused_at refusal place = Err (record { refusal = refusal; place = place })

-- `next` is the place after the label's separator, `wrong` that of the first wrong data character
abbrev pub told_at : Answer Refusal Group → ℕ → ℕ → Result Fields Fault
told_at a next wrong = shown a (place_for (number_as 1 a) next wrong)

-- the first wrong data character behind a label and a stamp
abbrev pub wrong_behind : Rule → Group → ℕ
wrong_behind rule g = length g.label + 1 + stamp_span (length g.stamp) + first_wrong rule g.«data»

-- of a label's fields
abbrev pub finished : Rule → Group → Result Fields Fault
finished rule g =
    told_at (checked rule g.stamp g.«data» g) (length g.label + 1) (wrong_behind rule g)

-- of a label with its rule, and a body
abbrev pub told_of : Mode → Rule → List ℕ → List ℕ → Result Fields Fault
told_of m rule label b = told_at (fields_of m rule label b) (length label + 1) (wrong_place (length label + 1) b (some rule))

-- of a label and what stands behind its separator
abbrev pub told_behind : Mode → List ℕ → List ℕ → Result Fields Fault
told_behind m label rest =
    told_at (behind_label m label rest) (length label + 1)
    (wrong_place (length label + 1) (take (length rest - 2) rest) (lookup label (rows m)))

-- of a content
abbrev pub judged_in : Mode → List ℕ → Result Fields Fault
judged_in m c =
    told_at (read m c) (next_place m c) (wrong_place (next_place m c) (body_of m c) (lookup (label_of m c) (rows m)))

-- ---- Walks

-- the first n elements pass a test, so that the first that fails is the first in what is left
abbrev pub RightUpTo : (ℕ → Bool) → List ℕ → ℕ → Type 0
RightUpTo f c n = (n ≤ length c) × (prefix_len f c ≡ n + prefix_len f (drop n c))

-- the first of a code in a text, the length where there is none, and the sum of all before it, by 256
pub record LabelWalk (code : ℕ) (text : List ℕ) (first sum : ℕ) : Type 0 where
  pub first_is : first ≡ first_at code text
  pub first_most : first ≤ length text
  pub sum_is : sum ≡ total (take first text) % 256

-- the first separator of a content, and the sum of all but the last two characters, by 256, where the separator is none of them
pub record ContentWalk (s : ℕ) (c : List ℕ) (first sum : ℕ) : Type 0 where
  pub first_is : first ≡ first_at s c
  pub sum_is : first + 3 ≤ length c → sum ≡ total (take (length c - 2) c) % 256

-- where a body's stamp ends, and so what its fields are; or that it is not parted
abbrev pub Split : Mode → Rule → List ℕ → StoredOption ℕ → Type 0
Split m rule b (Some end) =
    (end ≤ length b)
    × (stamp_span end ≤ length b)
    × (stamp_span end ≡ stamp_room (is_stamped rule.mark))
    × ((label : List ℕ) → fields_of m rule label b
    ≡ checked rule (take end b) (drop (stamp_span end) b) (group_of label (take end b) (drop (stamp_span end) b)))
Split m rule b None = (label : List ℕ) → fields_of m rule label b ≡ refused StampWrong

-- the check character from the sum of the body
unfoldable pub check_from : Mode → List ℕ → ℕ → ℕ
check_from m label rest = (total label + separator m + rest + counted_at_end m) % 64 + 32

-- the sum of a label, its separator and what follows up to the last two characters, by 256, where there are two
pub record FrontSum (m : Mode) (label rest : List ℕ) (front : ℕ) : Type 0 where
  pub front_is : 2 ≤ length rest → front ≡ total (label ++ separator m ∷ take (length rest - 2) rest) % 256

-- a content begins with a label
pub record StartsWith (label c : List ℕ) : Type 0 where
  pub inside : length label ≤ length c
  pub begins : take (length label) c ≡ label

-- ---- Writing

-- the bytes w laid from place `at` on, up to place n, turn the buffer b₀ into b
pub record Laid (b₀ : List ℕ) (at : ℕ) (w : List ℕ) (n : ℕ) (b : List ℕ) : Type 0 where
  pub upto : n ≡ at + length w
  pub bytes : b ≡ sets b₀ at w

-- the content of any group of this label and rule has at most 128 characters
abbrev pub ShortRow : Rule → List ℕ → Type 0
ShortRow rule label = length label + 1 + stamp_room (is_stamped rule.mark) + longest rule + 2 ≤ 128

-- stamp and data are what the rule asks for
pub record RightFields (rule : Rule) (stamp d : List ℕ) : Type 0 where
  pub stamp_is_right : So (stamp_right rule.mark stamp)
  pub width_is_right : So (width_right rule (length d))
  pub kind_is_right : So (kind_right rule d)

-- the bytes to write, by the label's rule
unfoldable pub write_by : Mode → Rule → Group → ℕ → Answer Refusal (List ℕ)
write_by m rule g room =
    into room (checked rule g.stamp g.«data» (content m g.label (body m (is_stamped rule.mark) g.stamp g.«data»)))
