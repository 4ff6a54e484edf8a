-- Characters on the wire (document 01, "Characters on the wire").
use Rattle.std.specs.Prelude.{Bool, ℕ, ◌+◌, ◌*◌, ◌/◌, ◌%◌, eqb}

-- "its count of ones": the sum of the eight binary digits of a byte
unfoldable pub count_of_ones : ℕ → ℕ
count_of_ones byte =
    byte % 2 + byte / 2 % 2 + byte / 4 % 2 + byte / 8 % 2 + byte / 16 % 2 + byte / 32 % 2 + byte / 64 % 2 + byte / 128 % 2

-- "It is sound exactly when its count of ones is even"
unfoldable pub is_sound : ℕ → Bool
is_sound wire = eqb (count_of_ones wire % 2) 0

-- "the character is its low seven bits"
unfoldable pub character_of : ℕ → ℕ
character_of wire = wire % 128

-- "A wire byte is seven data bits with an even parity bit on top." The seven low bits of any number have their wire
-- byte; those of a number below 128, a character, are the number itself.
unfoldable pub wire_byte_of : ℕ → ℕ
wire_byte_of code = code % 128 + 128 * (count_of_ones (code % 128) % 2)

-- the control characters and the two separators, by document 01's names
abbrev pub STX : ℕ
STX = 0x02

abbrev pub ETX : ℕ
ETX = 0x03

abbrev pub EOT : ℕ
EOT = 0x04

abbrev pub HT : ℕ
HT = 0x09

abbrev pub LF : ℕ
LF = 0x0A

abbrev pub CR : ℕ
CR = 0x0D

abbrev pub SP : ℕ
SP = 0x20
