-- "Judging one group given alone": what the caller is shown.
use Rattle.std.specs.Prelude.{◌≡◌, List, [], ℕ, ◌+◌, ◌≤◌, eqb, leb, length, take, drop, Result, Ok, Err}
use Rattle.std.specs.Borrow.{Bor}
use Rattle.characters.specs.Answers.{Answer, refused, given, found, pick}
use Rattle.groups.specs.Modes.{mode_of}
use Rattle.groups.specs.Groups.{Group, read}
use Rattle.groups.specs.declared.Refusal.{Refusal}
use Rattle.groups.specs.declared.Refusal.TheVariants.{ModeUnknown}
use Rattle.groups.specs.declared.Stretch.{Stretch}
use Rattle.groups.specs.declared.Fields.{Fields}
use Rattle.groups.specs.declared.Fault.{Fault}

-- a content in the mode of a number: 19 first, "a mode not 0 to 2"
unfoldable pub judging : ℕ → List ℕ → Answer Refusal Group
judging number c = found (mode_of number) ModeUnknown λ m. read m c

abbrev pub nowhere : Stretch
nowhere = record { start = 0; length = 0 }

-- "13 characters of stamp" and the separator behind them, where there is a stamp of so many characters
unfoldable pub stamp_span : ℕ → ℕ
stamp_span n = pick (eqb n 0) 0 14

-- the stamp stands behind the label's separator; "An absent stamp is an empty stretch", at 0
unfoldable pub stamp_stretch : ℕ → ℕ → Stretch
stamp_stretch next n = pick (eqb n 0) nowhere (record { start = next; length = n })

-- "is shown label, stamp and data as stretches of its own bytes": where they stand follows from their lengths
abbrev pub places_of : Group → Fields
places_of g =
    record {
      label = record { start = 0; length = length g.label };
      stamp = stamp_stretch (length g.label + 1) (length g.stamp);
      «data» = record { start = length g.label + 1 + stamp_span (length g.stamp); length = length g.«data» };
    }

-- what the caller is shown: the fields of a group; or why it is none, and a place that goes with the refusal
abbrev pub shown : Answer Refusal Group → ℕ → Result Fields Fault
shown (refused refusal) place = Err (record { refusal = refusal; place = place })
shown (given g) place = Ok (places_of g)

-- "Refused judging shows three empty stretches."
abbrev pub stretches_of : Result Fields Fault → Fields
stretches_of (Ok fields) = fields
stretches_of (Err fault) = record { label = nowhere; stamp = nowhere; «data» = nowhere }

-- the bytes of a stretch; none where it does not fit
unfoldable pub part_of : Stretch → List ℕ → List ℕ
part_of s c = pick (leb (s.start + s.length) (length c)) (take s.length (drop s.start c)) []

-- where they begin; at 0 where it does not fit
unfoldable pub part_start : Stretch → List ℕ → ℕ
part_start s c = pick (leb (s.start + s.length) (length c)) s.start 0

-- "of its own bytes, not copies": the part of a lent content lies in the caller's memory, so far behind its beginning. (A
-- place in memory is a block and how many bytes from the block's beginning.)
pub record Part (s : Stretch) (content part : Bor (List ℕ)) : Type 0 where
  pub lies : part.ref_ptr ≡ (content.ref_ptr.0, part_start s content.now + content.ref_ptr.1)
  pub bytes : part.now ≡ part_of s content.now

-- the bytes of the stretches that are shown of a content are the fields of a group
pub record Shows (c : List ℕ) (f : Fields) (g : Group) : Type 0 where
  pub label_shown : part_of f.label c ≡ g.label
  pub stamp_shown : part_of f.stamp c ≡ g.stamp
  pub data_shown : part_of f.«data» c ≡ g.«data»

-- the stretches lie inside the first n bytes, and together have no more bytes than n
pub record Inside (n : ℕ) (f : Fields) : Type 0 where
  pub label_inside : f.label.start + f.label.length ≤ n
  pub stamp_inside : f.stamp.start + f.stamp.length ≤ n
  pub data_inside : f.«data».start + f.«data».length ≤ n
  pub all_short : f.label.length + f.stamp.length + f.«data».length ≤ n
