-- One group as a caller in C has it judged and written: the answer is document 01's number, and what else is told is set
-- in places that the caller has for it, by every call, refused or not.
use Rattle.std.specs.Prelude.{◌≡◌, List, ℕ, Result}
use Rattle.characters.specs.Answers.{Answer}
use Rattle.groups.specs.Numbers.{number_of, number_of_writing}
use Rattle.groups.specs.Writing.{told, count_of, left}
use Rattle.groups.specs.declared.Refusal.{Refusal}
use Rattle.groups.specs.declared.Fields.{Fields}
use Rattle.groups.specs.declared.Fault.{Fault}
use Rattle.groups.specs.Judging as groups
use Rattle.groups.specs.Place.{place_told}
use Rattle.groups.specs.Stretches.{six_numbers}

-- start and length of label, stamp and data: "shown label, stamp and data as stretches of its own bytes"; "Refused judging
-- shows three empty stretches"
abbrev pub stretches_of : Result Fields Fault → List ℕ
stretches_of j = six_numbers (groups.stretches_of j)

-- what a judging hands back, the number, the six of the stretches and the place, is that of what is told
pub record Judges (j : Result Fields Fault) (number : ℕ) (stretches : List ℕ) (place : ℕ) : Type 0 where
  pub numbers : number ≡ number_of j
  pub stretch : stretches ≡ stretches_of j
  pub places : place ≡ place_told j

-- what a writing hands back, the number and the count, and the lent buffer afterwards are those of an answer
pub record Writes (a : Answer Refusal (List ℕ)) (before : List ℕ) (number : ℕ) (after : List ℕ) (count : ℕ)
    : Type 0 where
  pub numbers : number ≡ number_of_writing (told a)
  pub leaves : after ≡ left a before
  pub counts : count ≡ count_of (told a)
