-- Data kinds: "N decimal digits; X digits and A to F; T any of 0x20 to 0x7E" (document 01, "One group").
use Rattle.std.specs.Prelude.{Bool, ◌&&◌, ◌||◌, ℕ, leb}
use Rattle.groups.specs.declared.table.Kind.{Kind}
use Rattle.groups.specs.declared.table.Kind.TheVariants.{Digits, Hex, Text}

abbrev pub within : ℕ → ℕ → ℕ → Bool
within low high number = leb low number && leb number high

-- whether a character is of a kind; 0x30 to 0x39 are the digits, 0x41 to 0x46 the letters A to F
abbrev pub of_kind : Kind → ℕ → Bool
of_kind Digits c = within 0x30 0x39 c
of_kind Hex c = within 0x30 0x39 c || within 0x41 0x46 c
of_kind Text c = within 0x20 0x7E c
