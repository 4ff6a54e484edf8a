-- Data against a form: a picture that is held against them character by character. This is how reader and writer go about
-- it; `Made.antt` says in document 02's words which data fit.
use Rattle.std.specs.Prelude.{Bool, true, false, ◌&&◌, ◌||◌, List, [], ◌∷◌, ℕ, ◌-◌, min, max, eqb, length, drop}
use Rattle.characters.specs.Answers.{pick}
use Rattle.groups.specs.Kinds.{within, of_kind}
use Rattle.groups.specs.declared.table.Kind.{Kind}
use Rattle.groups.specs.declared.table.Kind.TheVariants.{Digits, Hex, Text}

-- A picture has a character for each character of data: 9 for a digit (kind N), 0 for a digit or A to F (kind X), * for any
-- of 0x20 to 0x7E (kind T), a comma for a comma or a point, any other for itself.
abbrev pub picture_of : Kind → ℕ
picture_of Digits = 0x39
picture_of Hex = 0x30
picture_of Text = 0x2A

unfoldable pub takes : ℕ → ℕ → Bool
takes p c =
    pick (eqb p 0x39) (of_kind Digits c)
    (pick (eqb p 0x30) (of_kind Hex c)
    (pick (eqb p 0x2A) (of_kind Text c)
    (pick (eqb p 0x2C) (eqb c 0x2C || eqb c 0x2E)
    (eqb c p))))

-- A form is the picture of the longest data, and how many characters the shortest have. What varies is a run of one
-- character in front, so shorter data stand against the picture's end.
pub record Form : Type 0 where
  pub least : ℕ
  pub picture : List ℕ

abbrev pub last_of : ℕ → List ℕ → List ℕ
last_of n picture = drop (length picture - n) picture

-- whether a picture takes data, character by character
unfoldable pub matches : List ℕ → List ℕ → Bool
matches [] [] = true
matches [] (c ∷ d) = false
matches (p ∷ picture) [] = false
matches (p ∷ picture) (c ∷ d) = takes p c && matches picture d

unfoldable pub has_length : Form → ℕ → Bool
has_length f n = within f.least (length f.picture) n

unfoldable pub fits : Form → List ℕ → Bool
fits f d = has_length f (length d) && matches (last_of (length d) f.picture) d

unfoldable pub some_fits : List Form → List ℕ → Bool
some_fits [] d = false
some_fits (f ∷ more) d = fits f d || some_fits more d

-- the fewest and the most characters that some form has
abbrev pub fewest : List Form → ℕ
fewest [] = 0
fewest (f ∷ []) = f.least
fewest (f ∷ g ∷ more) = min f.least (fewest (g ∷ more))

abbrev pub most : List Form → ℕ
most [] = 0
most (f ∷ more) = max (length f.picture) (most more)
