-- Where a refused content went wrong (document 02, M-104): "Let judging a group also tell a place in the content, counted from
-- 0". The place stands beside the refusal, which it changes nothing of.
use Rattle.std.proofs.Math.Option.{Option, none, some}
use Rattle.std.specs.Prelude.{List, [], ◌∷◌, ℕ, suc, ◌+◌, ◌-◌, max, eqb, length, Result, Ok, Err}
use Rattle.characters.specs.Answers.{pick}
use Rattle.groups.specs.Modes.{mode_of, separator}
use Rattle.groups.specs.Forms.{Form, takes, last_of, has_length}
use Rattle.groups.specs.Formats.{Rule, forms}
use Rattle.groups.specs.Table.{lookup, rows}
use Rattle.groups.specs.Stamps.{is_stamped}
use Rattle.groups.specs.Numbers.{number_as}
use Rattle.groups.specs.Judging.{judging, shown}
use Rattle.groups.specs.Conditions.{first_at, label_of, body_of, data_in}
use Rattle.groups.specs.declared.Mode.{Mode}
use Rattle.groups.specs.declared.Fields.{Fields}
use Rattle.groups.specs.declared.Fault.{Fault}

-- ---- The first wrong data character, by pictures; `FirstWrong.antt` has it in document 02's words

-- how many characters of data, from the first on, a picture takes
unfoldable pub agreed : List ℕ → List ℕ → ℕ
agreed [] d = 0
agreed (p ∷ picture) [] = 0
agreed (p ∷ picture) (c ∷ d) = pick (takes p c) (suc (agreed picture d)) 0

-- 0 where the form has not their length, else one more than its picture takes of them
unfoldable pub reach : Form → List ℕ → ℕ
reach f d = pick (has_length f (length d)) (suc (agreed (last_of (length d) f.picture) d)) 0

-- in the form in which they get furthest
unfoldable pub furthest : List Form → List ℕ → ℕ
furthest [] d = 0
furthest (f ∷ more) d = max (reach f d) (furthest more d)

-- how many data characters stand before the first wrong one; none where no form has their length
unfoldable pub first_wrong : Rule → List ℕ → ℕ
first_wrong rule d = furthest (forms rule.formats) d - 1

-- ---- Its place, and that of a wrong stamp

-- "the first character after the label's separator"
abbrev pub next_place : Mode → List ℕ → ℕ
next_place m c = first_at (separator m) c + 1

-- the first wrong data character, where `next` is the place after the label's separator: for a stamped label "13 characters of
-- stamp and an HT" stand before the data
abbrev pub wrong_place : ℕ → List ℕ → Option Rule → ℕ
wrong_place next body none = 0
wrong_place next body (some rule) =
    next + pick (is_stamped rule.mark) 14 0 + first_wrong rule (data_in (is_stamped rule.mark) body)

-- "for 14 the first wrong data character ..; for 12 the first character after the label's separator; for all others 0"
unfoldable pub place_for : ℕ → ℕ → ℕ → ℕ
place_for n next wrong = pick (eqb n 12) next (pick (eqb n 14) wrong 0)

-- the place in a content whose number is n
unfoldable pub place_by : Mode → List ℕ → ℕ → ℕ
place_by m c n =
    place_for n (next_place m c) (wrong_place (next_place m c) (body_of m c) (lookup (label_of m c) (rows m)))

abbrev pub place_in : Option Mode → List ℕ → ℕ → ℕ
place_in none c n = 0
place_in (some m) c n = place_by m c n

-- the place that judging tells, by the number that it tells
unfoldable pub place_of : ℕ → List ℕ → ℕ
place_of number c = place_in (mode_of number) c (number_as 1 (judging number c))

-- all that judging tells
abbrev pub judgement : ℕ → List ℕ → Result Fields Fault
judgement number c = shown (judging number c) (place_of number c)

-- the place of a judgement: 0 where it is no refusal
abbrev pub place_told : Result Fields Fault → ℕ
place_told (Ok fields) = 0
place_told (Err fault) = fault.place
