-- One group: the fields that a content has, and the content that fields make (document 01, "One group").
use Rattle.std.specs.Prelude.{Bool, true, false, List, [], ◌∷◌, ◌++◌, ℕ, ◌+◌, ◌%◌, leb, eqb, length, take, drop}
use Rattle.std.proofs.Math.Option.{Option, none, some}
use Rattle.characters.specs.Answers.{Answer, need, found, pick}
use Rattle.groups.specs.Modes.{separator, counted_at_end}
use Rattle.groups.specs.Formats.{Rule}
use Rattle.groups.specs.Table.{lookup, rows}
use Rattle.groups.specs.Stamps.{is_stamped}
use Rattle.groups.specs.Fields.{checked}
use Rattle.groups.specs.Cuts.{cut, ending}
use Rattle.groups.specs.declared.Mode.{Mode}
use Rattle.groups.specs.declared.Refusal.{Refusal}
use Rattle.groups.specs.declared.Refusal.TheVariants.{TooLong, Misshapen, CheckWrong, LabelUnknown, StampWrong}

-- an absent stamp is empty
pub record Group : Type 0 where
  pub label : List ℕ
  pub stamp : List ℕ
  pub «data» : List ℕ

abbrev pub group_of : List ℕ → List ℕ → List ℕ → Group
group_of label stamp d = record { label = label; stamp = stamp; «data» = d }

-- ---- The parts of a content

-- "add the character codes"
abbrev pub total : List ℕ → ℕ
total [] = 0
total (x ∷ xs) = x + total xs

-- "take the remainder by 64, add 32", of the label, its separator, the body and, where it counts, the final separator
unfoldable pub check : Mode → List ℕ → List ℕ → ℕ
check m label body = (total (label ++ separator m ∷ body) + counted_at_end m) % 64 + 32

-- a content: label, separator, body, separator, check character
unfoldable pub content : Mode → List ℕ → List ℕ → List ℕ
content m label body = label ++ separator m ∷ (body ++ separator m ∷ check m label body ∷ [])

-- the body: data, and before them, for a stamped label, "13 characters of stamp and an HT"
unfoldable pub body : Mode → Bool → List ℕ → List ℕ → List ℕ
body m false stamp d = d
body m true stamp d = stamp ++ separator m ∷ d

-- a body parted again
pub record Parts : Type 0 where
  pub stamp : List ℕ
  pub «data» : List ℕ

abbrev pub behind_stamp : Mode → List ℕ → List ℕ → Option Parts
behind_stamp m stamp [] = none
behind_stamp m stamp (x ∷ d) = pick (eqb x (separator m)) (some (record { stamp = stamp; «data» = d })) none

unfoldable pub parts : Mode → Bool → List ℕ → Option Parts
parts m false b = some (record { stamp = []; «data» = b })
parts m true b = behind_stamp m (take 13 b) (drop 13 b)

-- ---- Reading, in the order of the refusals

-- label and body, by the label's rule: 12, 13, 14
unfoldable pub fields_of : Mode → Rule → List ℕ → List ℕ → Answer Refusal Group
fields_of m rule label b =
    found (parts m (is_stamped rule.mark) b) StampWrong λ p.
    checked rule p.stamp p.«data» (group_of label p.stamp p.«data»)

-- a label and what stands behind its separator: 9, 10, 11
unfoldable pub behind_label : Mode → List ℕ → List ℕ → Answer Refusal Group
behind_label m label rest =
    found (ending (separator m) rest) Misshapen λ e.
    need (eqb e.last (check m label e.front)) CheckWrong
    (found (lookup label (rows m)) LabelUnknown λ rule. fields_of m rule label e.front)

-- a content: 8, 9
unfoldable pub read : Mode → List ℕ → Answer Refusal Group
read m c =
    need (leb (length c) 128) TooLong
    (found (cut (separator m) c) Misshapen λ u.
    need (leb 1 (length u.before)) Misshapen
    (behind_label m u.before u.after))

-- ---- Writing: 11, 12, 13, 14

unfoldable pub compose : Mode → Group → Answer Refusal (List ℕ)
compose m g =
    found (lookup g.label (rows m)) LabelUnknown λ rule.
    checked rule g.stamp g.«data» (content m g.label (body m (is_stamped rule.mark) g.stamp g.«data»))
