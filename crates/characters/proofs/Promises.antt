-- What the crate promises of characters on the wire: only the statements need to be read.
use Rattle.std.specs.Prelude.{◌≡◌, ◌↔◌, ◌⊎◌, true, not, ℕ, ◌+◌, ◌%◌, ◌<◌}
use Rattle.characters.specs.Wire.{is_sound, character_of, wire_byte_of, STX, ETX, EOT, HT, LF, CR, SP}
use Rattle.characters.specs.Damage.{damaged}
use Rattle.characters.proofs.WireLaws as laws

-- A byte without ones is sound, and one damaged bit makes a sound byte unsound and an unsound one sound.
pub damage_exactly :
    (is_sound 0 ≡ true) × ((wire bit : ℕ) → wire < 256 → bit < 8 → is_sound (damaged bit wire) ≡ not (is_sound wire))
damage_exactly = laws.damage_told

-- The character of a byte is the byte itself, or the byte without its top bit.
pub character_exactly : (wire : ℕ) → wire < 256
    → (character_of wire < 128) × ((wire ≡ character_of wire) ⊎ (wire ≡ 128 + character_of wire))
character_exactly = laws.low_seven

-- The wire byte of a number is sound, and its character is the number's low seven bits.
pub wire_exactly : (code : ℕ) → (is_sound (wire_byte_of code) ≡ true) × (character_of (wire_byte_of code) ≡ code % 128)
wire_exactly = laws.wire_back

-- A byte is sound exactly when it is the wire byte of its character.
pub sound_exactly : (wire : ℕ) → wire < 256 → (is_sound wire ≡ true) ↔ (wire_byte_of (character_of wire) ≡ wire)
sound_exactly = laws.sound_exactly

-- Document 01's control characters and separators, by their wire bytes.
pub control_wires :
    (wire_byte_of STX ≡ 0x82) × (wire_byte_of ETX ≡ 0x03) × (wire_byte_of EOT ≡ 0x84) × (wire_byte_of HT ≡ 0x09)
    × (wire_byte_of LF ≡ 0x0A) × (wire_byte_of CR ≡ 0x8D) × (wire_byte_of SP ≡ 0xA0)
control_wires = laws.control_wires
