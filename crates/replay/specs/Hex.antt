-- Bytes as a field of a line. Assumes nothing.
use Rattle.std.specs.Prelude.{ℕ, ◌/◌, ◌%◌, List, [], ◌∷◌}
use Rattle.std.specs.List.{flat_map}
use Rattle.io.specs.Digits.{hex_digit_ascii}

-- a byte in hex, two small digits
abbrev pub byte_in_hex : ℕ → List ℕ
byte_in_hex byte = hex_digit_ascii (byte / 16) ∷ hex_digit_ascii (byte % 16) ∷ []

-- bytes in hex
abbrev pub in_hex : List ℕ → List ℕ
in_hex bytes = flat_map byte_in_hex bytes

-- a field with these bytes: no bytes are `-`
abbrev pub hex_field : List ℕ → List ℕ
hex_field [] = 45 ∷ []
hex_field (byte ∷ bytes) = in_hex (byte ∷ bytes)
