-- Where the stretches of an accepted group lie.
use Rattle.groups.specs.Judging.{Inside}
use Rattle.line.specs.declared.Heard.{Heard}
use Rattle.line.specs.declared.Heard.TheVariants.{Nothing, Accepted, Told}

-- the stretches of an accepted group lie inside the 128 lent bytes, and together have no more bytes than these
abbrev pub FieldsInside : Heard → Type 0
FieldsInside Nothing = Unit {0}
FieldsInside (Accepted fields) = Inside 128 fields
FieldsInside (Told notice) = Unit {0}
