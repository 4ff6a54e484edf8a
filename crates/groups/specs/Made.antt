-- Which data fit, in document 02's words: "the smallest and largest length and the kind at each field". Nothing here holds
-- data against a picture.
use Rattle.std.specs.Prelude.{Bool, false, ◌&&◌, ◌||◌, List, [], ◌∷◌, ℕ, zero, suc, eqb, leb, length, take, drop}
use Rattle.characters.specs.Answers.{every}
use Rattle.groups.specs.Formats.{Field, run, text, comma_or_point}
use Rattle.groups.specs.Table.{codes, same}
use Rattle.groups.specs.Spelled.{among, spelled}

-- whether these characters are a field
abbrev pub is_field : Field → List ℕ → Bool
is_field (run kind fewest most) d = leb fewest (length d) && leb (length d) most && every (among (spelled kind)) d
is_field (text t) d = same d t
is_field comma_or_point d = same d (codes ",") || same d (codes ".")

-- whether 0 passes a test, or 1, or so on up to n
unfoldable pub some_up_to : (ℕ → Bool) → ℕ → Bool
some_up_to f zero = f 0
some_up_to f (suc n) = f (suc n) || some_up_to f n

-- whether data are the fields of a format, one after the other: so many characters are the first, and what is left is the others
unfoldable pub made_of : List Field → List ℕ → Bool
made_of [] d = eqb (length d) 0
made_of (f ∷ more) d = some_up_to (λ n. is_field f (take n d) && made_of more (drop n d)) (length d)

-- of one of these formats
unfoldable pub some_made : List (List Field) → List ℕ → Bool
some_made [] d = false
some_made (format ∷ more) d = made_of format d || some_made more d
