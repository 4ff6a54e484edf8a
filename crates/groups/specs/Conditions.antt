-- Document 01's column "Given exactly when", for a content: its numbers, each with what is wrong with the content, by
-- places. Nothing here says how a reader works; `Promises.antt` says that the number that judging tells is the first of
-- these whose condition holds.
use Rattle.std.specs.Prelude.{Bool, true, false, not, ◌&&◌, ◌||◌, List, [], ◌∷◌, ℕ, zero, suc, ◌+◌, ◌-◌, ◌%◌, eqb, ltb, length, take, drop, get_or}
use Rattle.std.proofs.Math.Option.{Option, none, some}
use Rattle.characters.specs.Answers.{pick}
use Rattle.groups.specs.Modes.{separator}
use Rattle.groups.specs.Formats.{Rule}
use Rattle.groups.specs.Table.{lookup, rows}
use Rattle.groups.specs.Stamps.{is_stamped, stamp_right}
use Rattle.groups.specs.Groups.{Group, group_of}
use Rattle.groups.specs.Made.{some_made}
use Rattle.groups.specs.declared.Mode.{Mode}
use Rattle.groups.specs.declared.Mode.TheVariants.{Historic, Standard, Business}

-- the place of the first character of this code; the length where there is none
unfoldable pub first_at : ℕ → List ℕ → ℕ
first_at s [] = 0
first_at s (x ∷ xs) = pick (eqb x s) 0 (suc (first_at s xs))

-- the place of the final separator, "the one before" the last
abbrev pub final_place : List ℕ → ℕ
final_place c = length c - 2

-- "The label ends before the first separator."
unfoldable pub label_of : Mode → List ℕ → List ℕ
label_of m c = take (first_at (separator m) c) c

-- what stands between the first separator and the final one
unfoldable pub body_of : Mode → List ℕ → List ℕ
body_of m c = drop (first_at (separator m) c + 1) (take (final_place c) c)

-- 9: "under 4 characters, or no separator just before the last, or the first separator is first of all or is that final one"
unfoldable pub misshapen : Mode → List ℕ → Bool
misshapen m c =
    ltb (length c) 4
    || not (eqb (get_or c (final_place c) 0) (separator m))
    || eqb (first_at (separator m) c) 0
    || eqb (first_at (separator m) c) (final_place c)

-- how many characters, from the first on, enter the sum: "through the last of the data", and in standard mode the final
-- separator too; in mode 2 by "mode de calcul n°1" (document 003, 2.9.1), without it
abbrev pub summed : Mode → List ℕ → ℕ
summed Historic c = length c - 2
summed Standard c = length c - 1
summed Business c = length c - 2

-- "add the character codes": of the first n
unfoldable pub sum_of : ℕ → List ℕ → ℕ
sum_of zero c = 0
sum_of (suc n) c = sum_of n c + get_or c n 0

-- 10: "check character wrong"
unfoldable pub check_wrong : Mode → List ℕ → Bool
check_wrong m c = not (eqb (get_or c (length c - 1) 0) (sum_of (summed m c) c % 64 + 32))

-- ---- What is wrong with the fields, by the rule that the label has, if it has one

-- 11: "label not in the mode's list"
abbrev pub unlisted : Option Rule → Bool
unlisted none = true
unlisted (some rule) = false

-- a stamp's 13 characters, "and an HT that is not the final separator"
unfoldable pub stamp_followed : Mode → List ℕ → Bool
stamp_followed m body = ltb 13 (length body) && eqb (get_or body 13 0) (separator m)

-- 12: "stamped label whose stamp is not right, or not followed by an HT before the final separator"
abbrev pub stamp_wrong : Mode → List ℕ → Option Rule → Bool
stamp_wrong m body none = false
stamp_wrong m body (some rule) =
    is_stamped rule.mark && not (stamp_followed m body && stamp_right rule.mark (take 13 body))

-- "Data runs from there to the final separator"
unfoldable pub data_in : Bool → List ℕ → List ℕ
data_in false body = body
data_in true body = drop 14 body

-- the stamp, or nothing
unfoldable pub stamp_in : Bool → List ℕ → List ℕ
stamp_in false body = []
stamp_in true body = take 13 body

-- 13: "data not of the width"; "a length outside" the smallest and largest (document 02, M-100)
abbrev pub outside : Rule → List ℕ → Bool
outside rule d = ltb (length d) rule.smallest || ltb rule.largest (length d)

abbrev pub width_wrong : List ℕ → Option Rule → Bool
width_wrong body none = false
width_wrong body (some rule) = outside rule (data_in (is_stamped rule.mark) body)

-- 14: "a data character not of the kind"; "any other data that don't fit the fields"
abbrev pub kind_wrong : List ℕ → Option Rule → Bool
kind_wrong body none = false
kind_wrong body (some rule) = not (some_made rule.formats (data_in (is_stamped rule.mark) body))

-- "Order: 7 to 14 as numbered"; 7 is the line's
abbrev pub field_conditions : Mode → List ℕ → Option Rule → List (ℕ × Bool)
field_conditions m body rule =
    (11, unlisted rule)
    ∷ (12, stamp_wrong m body rule)
    ∷ (13, width_wrong body rule)
    ∷ (14, kind_wrong body rule)
    ∷ []

unfoldable pub conditions : Mode → List ℕ → List (ℕ × Bool)
conditions m c =
    (8, ltb 128 (length c))
    ∷ (9, misshapen m c)
    ∷ (10, check_wrong m c)
    ∷ field_conditions m (body_of m c) (lookup (label_of m c) (rows m))

-- "after 19 where a mode is handed in": 19, "a mode not 0 to 2" (document 02, M-100); "Mode 0 is historic .. Mode 1 is
-- standard", "Add it as mode 2"
unfoldable pub given_when : ℕ → List ℕ → List (ℕ × Bool)
given_when zero c = (19, false) ∷ conditions Historic c
given_when (suc zero) c = (19, false) ∷ conditions Standard c
given_when (suc (suc zero)) c = (19, false) ∷ conditions Business c
given_when (suc (suc (suc number))) c = (19, true) ∷ []

-- the fields of a content with nothing wrong
abbrev pub marked_fields : Mode → List ℕ → Option Rule → Group
marked_fields m c none = group_of (label_of m c) [] (body_of m c)
marked_fields m c (some rule) =
    group_of (label_of m c) (stamp_in (is_stamped rule.mark) (body_of m c)) (data_in (is_stamped rule.mark) (body_of m c))

abbrev pub fields_at : Mode → List ℕ → Group
fields_at m c = marked_fields m c (lookup (label_of m c) (rows m))
