-- The rows of the table (`src/table.rt` says what stands where), and looking a label up by them. Contracts of private
-- functions cite this, and of the statements `keys_as_bytes` alone; that the rows are those of `Table.antt` is computed in the
-- proofs of `historic`, `standard` and `business`.
use Rattle.std.specs.Prelude.{◌≡◌, ◌≢◌, Bool, ◌&&◌, List, [], ◌∷◌, ◌++◌, ℕ, zero, suc, ◌+◌, ◌*◌, ◌/◌, ◌%◌, ◌^◌, ◌≤◌, ◌<◌, eqb, leb, ltb, take, length, get_or, Option as StoredOption, Some, None}
use Rattle.std.proofs.Math.Option.{Option, none, some}
use Rattle.characters.specs.Answers.{every, pick}
use Rattle.groups.specs.Formats.{Rule}
use Rattle.groups.specs.Table.{Entry, rows, lookup}
use Rattle.groups.specs.Order.{ordered}
use Rattle.groups.specs.Stored.{rule_of}
use Rattle.groups.specs.declared.Mode.{Mode}
use Rattle.groups.specs.declared.table.Row.{Row}

-- so many bytes of a text as one number, the first on top; a byte that is missing counts as 0
unfoldable pub packed : ℕ → List ℕ → ℕ
packed zero l = 0
packed (suc n) [] = 0
packed (suc n) (x ∷ l) = x * 256 ^ n + packed n l

abbrev pub key_of : List ℕ → ℕ
key_of l = packed 8 l

-- the ninth byte, or 0 where there is none
abbrev pub ninth_of : List ℕ → ℕ
ninth_of l = get_or l 8 0

-- ---- Rows

unfoldable pub unpacked : ℕ → ℕ → List ℕ
unpacked zero key = []
unpacked (suc n) key = (key / 256 ^ n % 256) ∷ unpacked n key

abbrev pub label_in : Row → List ℕ
label_in r = take r.length (unpacked 8 r.key ++ r.ninth ∷ [])

abbrev pub entry_in : Row → Entry
entry_in r = record { label = label_in r; rule = rule_of r.rule }

-- ---- Looking up

-- key, length and ninth byte of a row are those of its label
abbrev pub is_right : Row → Bool
is_right r =
    eqb r.key (key_of (label_in r))
    && eqb r.length (length (label_in r))
    && eqb r.ninth (ninth_of (label_in r))
    && leb (length (label_in r)) 9
    && every (λ x. ltb x 256) (label_in r)

-- each key is below all that follow it
abbrev pub rising : List Row → Bool
rising rs = ordered ltb (λ r. r.key) rs

-- a row of these that has the key
pub record HasKey (rs : List Row) (key : ℕ) (r : Row) : Type 0 where
  pub place : ℕ
  pub inside : place < length rs
  pub there : r ≡ get_or rs place r
  pub has_key : r.key ≡ key

-- the row that has the key, or none where no row has it
abbrev pub Finds : List Row → ℕ → StoredOption Row → Type 0
Finds rs key None = (i : ℕ) (d : Row) → i < length rs → (get_or rs i d).key ≢ key
Finds rs key (Some r) = HasKey rs key r

-- whether the row that has the key of a label is the label's: whether length and ninth byte are the same too
abbrev pub is_named : ℕ → ℕ → Row → Bool
is_named n ninth r = eqb n r.length && eqb ninth r.ninth

-- a text that could be a label, by its length
pub record Short (l : List ℕ) : Type 0 where
  pub bytes : (i : ℕ) → get_or l i 0 < 256
  pub not_empty : 1 ≤ length l
  pub at_most_nine : length l ≤ 9

-- what the row that has the key of a label says of it, if there is one
abbrev pub rule_by : List ℕ → StoredOption Row → Option Rule
rule_by l None = none
rule_by l (Some r) = pick (is_named (length l) (ninth_of l) r) (some (rule_of r.rule)) none

-- the row, or that there is none, decides of every label of this key
abbrev pub Decides : Mode → ℕ → StoredOption Row → Type 0
Decides m key r = (l : List ℕ) → Short l → key_of l ≡ key → lookup l (rows m) ≡ rule_by l r
