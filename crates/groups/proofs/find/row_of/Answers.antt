-- The rows are those of the mode's list, one by one, and their keys rise: computed. What is found among them decides.
use Rattle.characters.specs.Answers.{pick}
use Rattle.groups.specs.Formats.{form_of}
use Rattle.groups.specs.Packed.{packed, unpacked}
use Rattle.groups.specs.Stored.{formats_from, numbered, under}
use Rattle.groups.specs.Table.{historic_rows, standard_rows, business_rows}
use Rattle.groups.specs.declared.Mode.TheVariants.{Historic, Standard, Business}
use Rattle.groups.specs.declared.table.TheConstants.{HISTORIC, STANDARD, BUSINESS}
use Rattle.groups.proofs.Search.{decides}
use mathlib.Core.Path.{refl}
use Rattle.groups.proofs.find.row_of.Goals as goal

pub returns-in-Historic : goal.returns-in-Historic
unfolding historic_rows packed unpacked form_of pick
returns-in-Historic c =
    rw c.in-Historic.is (decides Historic HISTORIC (record { listed = refl; right = tt; rise = tt }) _ _ c.row_with.ensures)

pub returns-in-Standard : goal.returns-in-Standard
unfolding standard_rows packed unpacked form_of pick
returns-in-Standard c =
    rw c.in-Standard.is (decides Standard STANDARD (record { listed = refl; right = tt; rise = tt }) _ _ c.row_with-in-Standard.ensures)

pub returns-in-Business : goal.returns-in-Business
unfolding business_rows formats_from numbered under packed unpacked form_of pick
returns-in-Business c =
    rw c.in-Business.is (decides Business BUSINESS (record { listed = refl; right = tt; rise = tt }) _ _ c.row_with-in-Business.ensures)
