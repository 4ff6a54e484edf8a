-- "the first wrong data character (mode 2: the first that no fitting data of that length have there after the same beginning)",
-- document 02, M-104. Nothing here holds data against a picture.
use Rattle.std.specs.Prelude.{◌≡◌, List, ℕ, ◌+◌, ◌<◌, T, length, take}
use Rattle.std.proofs.Math.Option.{some}
use Rattle.groups.specs.Formats.{Field, Rule}
use Rattle.groups.specs.Table.{lookup, rows}
use Rattle.groups.specs.Stamps.{is_stamped}
use Rattle.groups.specs.Made.{some_made}
use Rattle.groups.specs.Conditions.{final_place, label_of, body_of, data_in}
use Rattle.groups.specs.declared.Mode.{Mode}

-- some fitting data of the length of these begin with the first n of their characters
pub record Begun (formats : List (List Field)) (d : List ℕ) (n : ℕ) : Type 0 where
  pub other : List ℕ
  pub fitting : T (some_made formats other)
  pub same_length : length other ≡ length d
  pub same_beginning : take n other ≡ take n d

-- the character at place i is the first wrong one: such data have each character before it after the same beginning, and
-- none have this one
pub record FirstWrong (formats : List (List Field)) (d : List ℕ) (i : ℕ) : Type 0 where
  pub inside : i < length d
  pub right_before : (k : ℕ) → k < i → Begun formats d (k + 1)
  pub wrong_there : Begun formats d (i + 1) → ⊥

-- the place of a content's first wrong data character, by the rule of its label; "Data runs .. to the final separator"
pub record WrongDataAt (m : Mode) (c : List ℕ) (place : ℕ) : Type 0 where
  pub rule : Rule
  pub listed : lookup (label_of m c) (rows m) ≡ some rule
  -- how many data characters stand before it
  pub before : ℕ
  pub is_first_wrong : FirstWrong rule.formats (data_in (is_stamped rule.mark) (body_of m c)) before
  pub there : place + length (data_in (is_stamped rule.mark) (body_of m c)) ≡ final_place c + before
