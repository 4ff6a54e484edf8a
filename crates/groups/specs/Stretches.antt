-- Where the stretches stand that judging shows, by places of the content.
use Rattle.std.proofs.Math.Option.{Option, none, some}
use Rattle.std.specs.Prelude.{List, [], ◌∷◌, ℕ, zero, suc, ◌+◌, ◌-◌, eqb}
use Rattle.characters.specs.Answers.{pick, first_of}
use Rattle.groups.specs.Modes.{separator}
use Rattle.groups.specs.Formats.{Rule}
use Rattle.groups.specs.Table.{rows, lookup}
use Rattle.groups.specs.Conditions.{first_at, final_place, label_of, conditions}
use Rattle.groups.specs.declared.Mode.{Mode}
use Rattle.groups.specs.declared.Mode.TheVariants.{Historic, Standard, Business}
use Rattle.groups.specs.declared.Fields.{Fields}
use Rattle.groups.specs.declared.table.Mark.{Mark}
use Rattle.groups.specs.declared.table.Mark.TheVariants.{Unstamped, Letter, Space}

-- start and length of label, stamp and data
abbrev pub six_numbers : Fields → List ℕ
six_numbers f =
    f.label.start ∷ f.label.length
    ∷ f.stamp.start ∷ f.stamp.length
    ∷ f.«data».start ∷ f.«data».length
    ∷ []

-- "Refused judging shows three empty stretches."
abbrev pub no_stretches : List ℕ
no_stretches = 0 ∷ 0 ∷ 0 ∷ 0 ∷ 0 ∷ 0 ∷ []

-- "The label ends before the first separator"; "a stamped label is followed by 13 characters of stamp and an HT"; "Data runs
-- from there to the final separator"; "An absent stamp is an empty stretch", at 0
abbrev pub stretches_by : Mark → ℕ → ℕ → List ℕ
stretches_by Unstamped first final = 0 ∷ first ∷ 0 ∷ 0 ∷ (first + 1) ∷ (final - (first + 1)) ∷ []
stretches_by Letter first final = 0 ∷ first ∷ (first + 1) ∷ 13 ∷ (first + 15) ∷ (final - (first + 15)) ∷ []
stretches_by Space first final = 0 ∷ first ∷ (first + 1) ∷ 13 ∷ (first + 15) ∷ (final - (first + 15)) ∷ []

abbrev pub stretches_as : Option Rule → ℕ → ℕ → List ℕ
stretches_as none first final = no_stretches
stretches_as (some rule) first final = stretches_by rule.mark first final

-- a content's, where none of the mode's conditions holds
unfoldable pub stretches_in : Mode → List ℕ → List ℕ
stretches_in m c =
    pick (eqb (first_of 1 (conditions m c)) 1)
    (stretches_as (lookup (label_of m c) (rows m)) (first_at (separator m) c) (final_place c))
    no_stretches

unfoldable pub stretches_due : ℕ → List ℕ → List ℕ
stretches_due zero c = stretches_in Historic c
stretches_due (suc zero) c = stretches_in Standard c
stretches_due (suc (suc zero)) c = stretches_in Business c
stretches_due (suc (suc (suc number))) c = no_stretches
