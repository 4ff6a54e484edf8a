-- What a label's rule asks of stamp and data. Reader and writer ask the same, in the order of the refusals.
use Rattle.std.specs.Prelude.{Bool, List, ℕ, length}
use Rattle.characters.specs.Answers.{Answer, given, need}
use Rattle.groups.specs.Kinds.{within}
use Rattle.groups.specs.Forms.{some_fits}
use Rattle.groups.specs.Formats.{Rule, forms}
use Rattle.groups.specs.Stamps.{stamp_right}
use Rattle.groups.specs.declared.Refusal.{Refusal}
use Rattle.groups.specs.declared.Refusal.TheVariants.{StampWrong, WidthWrong, KindWrong}

-- 13: "data not of the width", "a length outside" the smallest and the largest of the row
unfoldable pub width_right : Rule → ℕ → Bool
width_right rule n = within rule.smallest rule.largest n

-- 14: "a data character not of the kind", "any other data that don't fit the fields"
unfoldable pub kind_right : Rule → List ℕ → Bool
kind_right rule d = some_fits (forms rule.formats) d

-- the most characters that such data have
abbrev pub longest : Rule → ℕ
longest rule = rule.largest

-- 12, 13 and 14, in that order, and then what is asked for
unfoldable pub checked : {A : Type 0} → Rule → List ℕ → List ℕ → A → Answer Refusal A
checked rule stamp d a =
    need (stamp_right rule.mark stamp) StampWrong
    (need (width_right rule (length d)) WidthWrong
    (need (kind_right rule d) KindWrong
    (given a)))
