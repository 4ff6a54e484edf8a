-- What a label's row says of its data: "Where a format has several fields or a varying length, the label's row gives the
-- smallest and largest length and the kind at each field" (document 02, M-100). A label of document 01, with one kind and
-- one width, has a format of one field.
use Rattle.std.specs.Prelude.{Bool, true, not, ◌&&◌, List, [], ◌∷◌, ◌++◌, map, ℕ, ◌+◌, eqb, length, replicate}
use Rattle.characters.specs.Answers.{every}
use Rattle.groups.specs.Kinds.{within}
use Rattle.groups.specs.Forms.{Form, picture_of, fewest, most}
use Rattle.groups.specs.declared.table.Kind.{Kind}
use Rattle.groups.specs.declared.table.Mark.{Mark}

-- a field of data: characters of a kind, from the fewest to the most of them; or these very characters, as those of a unit;
-- or a comma or a point (document 003, 2.9.3 (Q))
pub data Field : Type 0 where
  run : Kind → ℕ → ℕ → Field
  text : List ℕ → Field
  comma_or_point : Field

-- what a label asks of stamp and data; the data have one of the formats, each a list of fields in their order
pub record Rule : Type 0 where
  pub mark : Mark
  pub smallest : ℕ
  pub largest : ℕ
  pub formats : List (List Field)

-- ---- The form of a format

-- the fewest characters of a field, and the picture of the most
abbrev pub least_of : Field → ℕ
least_of (run kind fewest most) = fewest
least_of (text t) = length t
least_of comma_or_point = 1

abbrev pub longest_of : Field → List ℕ
longest_of (run kind fewest most) = replicate most (picture_of kind)
longest_of (text t) = t
longest_of comma_or_point = 0x2C ∷ []

-- the form of fields in their order, of which only the first may vary in length
unfoldable pub form_of : List Field → Form
form_of [] = record { least = 0; picture = [] }
form_of (f ∷ more) = record { least = least_of f + (form_of more).least; picture = longest_of f ++ (form_of more).picture }

abbrev pub forms : List (List Field) → List Form
forms formats = map form_of formats

-- the rule with these formats: its smallest and largest length are those of the formats
abbrev pub by_formats : Mark → List (List Field) → Rule
by_formats mark formats =
    record { mark = mark; smallest = fewest (forms formats); largest = most (forms formats); formats = formats }

-- ---- Formats whose form says just what they say

-- of 0x20 to 0x7E, and none of the four that a picture has for others
abbrev pub stands_for_itself : ℕ → Bool
stands_for_itself c =
    within 0x20 0x7E c && not (eqb c 0x39) && not (eqb c 0x30) && not (eqb c 0x2A) && not (eqb c 0x2C)

abbrev pub drawable : Field → Bool
drawable (run kind fewest most) = true
drawable (text t) = every stands_for_itself t
drawable comma_or_point = true

abbrev pub is_fixed : Field → Bool
is_fixed f = eqb (least_of f) (length (longest_of f))

abbrev pub are_fixed : List Field → Bool
are_fixed fields = every (λ f. drawable f && is_fixed f) fields

-- only the first field varies in length
abbrev pub is_drawn : List Field → Bool
is_drawn [] = true
is_drawn (f ∷ more) = drawable f && are_fixed more
