-- Forms and rules as the code stores them (`src/table.rt` says what stands where; its rows are in `Packed.antt`). Only contracts
-- of private functions cite this; that the stored forms are those of `Table.antt` is computed in the proof of `form_of`.
use Rattle.std.proofs.Math.Option.{Option, none, some}
use Rattle.std.specs.Prelude.{List, [], ◌∷◌, ◌++◌, ℕ, zero, suc, ◌+◌, ◌<◌, ◌≤◌, eqb, length, get_or, Option as StoredOption, Some, None}
use Rattle.characters.specs.Answers.{pick}
use Rattle.groups.specs.Forms.{Form, last_of}
use Rattle.groups.specs.Formats.{Field, run, Rule}
use Rattle.groups.specs.Table.{
  plain,
  exactly,
  either,
  name,
  date,
  average_power,
  energy,
  subscribed_power,
  tangent,
  power,
  notice,
  dated_name,
}
use Rattle.groups.specs.declared.table.Kind.TheVariants.{Digits}
use Rattle.groups.specs.declared.table.Mark.TheVariants.{Unstamped}
use Rattle.groups.specs.declared.table.Plain.{Plain}
use Rattle.groups.specs.declared.table.Forms.{Forms}
use Rattle.groups.specs.declared.table.Form.{Form as StoredForm}
use Rattle.groups.specs.declared.table.Rule.{Rule as StoredRule}
use Rattle.groups.specs.declared.table.Rule.TheVariants as stored

-- ---- Forms by their numbers

-- the formats of mode 2, each a form of the table
unfoldable pub numbered : List (List Field)
numbered =
    exactly "TEST"
    ++ date
    ++ energy "Wh"
    ++ energy "varh"
    ++ energy "VAh"
    ++ either "ACTIF" "INACTIF"
    ++ notice
    ++ dated_name
    ++ exactly "CONTROLE"
    ++ either "CONSO" "PROD"
    ++ average_power
    ++ energy "kWh"
    ++ energy "kvarh"
    ++ subscribed_power
    ++ either "DEP" "DEP "
    ++ power
    ++ tangent
    ++ name 12 12
    ++ name 10 10
    ++ name 1 3
    ++ name 3 3

-- what stands under a number, in a list that begins with number k; a format that takes nothing where there is none
unfoldable pub under : ℕ → List (List Field) → ℕ → List Field
under k [] n = run Digits 1 0 ∷ []
under k (format ∷ more) n = pick (eqb n k) format (under (k + 1) more n)

abbrev pub format_at : ℕ → List Field
format_at n = under 0 numbered n

-- so many from a number on
unfoldable pub formats_from : ℕ → ℕ → List (List Field)
formats_from first zero = []
formats_from first (suc count) = format_at first ∷ formats_from (first + 1) count

-- a stored form: its picture stands at the end of its room
unfoldable pub form_in : StoredForm → Form
form_in f = record { least = f.0; picture = last_of f.1 f.2 }

-- ---- Rules

abbrev pub plain_rule : Plain → Rule
plain_rule p = record { mark = p.mark; smallest = p.width; largest = p.width; formats = plain p.kind p.width }

abbrev pub formed_rule : Forms → Rule
formed_rule f =
    record {
      mark = Unstamped;
      smallest = f.smallest;
      largest = f.largest;
      formats = formats_from f.first f.count;
    }

abbrev pub rule_of : StoredRule → Rule
rule_of (stored.Plain p) = plain_rule p
rule_of (stored.Formed f) = formed_rule f

-- the rule that was found, if one was
abbrev pub rule_found : StoredOption StoredRule → Option Rule
rule_found None = none
rule_found (Some r) = some (rule_of r)

-- ---- Data between two texts

-- from a place up to another, each character lies between those of the texts in its place
abbrev pub Between : List ℕ → List ℕ → List ℕ → ℕ → ℕ → Type 0
Between low high d from to =
    (i : ℕ) → from ≤ i → i < to → (get_or low i 0 ≤ get_or d i 0) × (get_or d i 0 ≤ get_or high i 0)

-- data of a right length lie between the ends of the texts
pub record Bounded (least : ℕ) (low high d : List ℕ) : Type 0 where
  pub enough : least ≤ length d
  pub room : length d ≤ length low
  pub between : Between (last_of (length d) low) (last_of (length d) high) d 0 (length d)
