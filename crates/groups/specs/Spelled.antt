-- Data kinds by the characters that they have, spelled out: "N decimal digits; X digits and A to F; T any of 0x20 to 0x7E".
use Rattle.std.specs.Prelude.{Bool, false, ◌||◌, List, [], ◌∷◌, ℕ, eqb}
use Rattle.groups.specs.Table.{codes}
use Rattle.groups.specs.declared.table.Kind.{Kind}
use Rattle.groups.specs.declared.table.Kind.TheVariants.{Digits, Hex, Text}

-- whether a character is one of these
abbrev pub among : List ℕ → ℕ → Bool
among [] c = false
among (x ∷ more) c = eqb c x || among more c

abbrev pub spelled : Kind → List ℕ
spelled Digits = codes "0123456789"
spelled Hex = codes "0123456789ABCDEF"
spelled Text = codes " !\"#$%&'()*+,-./0123456789:;<=>?@ABCDEFGHIJKLMNOPQRSTUVWXYZ[\\]^_`abcdefghijklmnopqrstuvwxyz{|}~"
