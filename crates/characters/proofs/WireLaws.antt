-- Laws of characters on the wire: each is a test that antt computes over every character, or over every byte.
use Rattle.std.specs.Prelude.{◌≡◌, refl, ◌↔◌, ◌⊎◌, Bool, true, false, not, ℕ, ◌+◌, ◌%◌, ◌<◌, T, eqb}
use Rattle.std.proofs.Common.{inl, inr, lt_of_not-le, arith, eqb→eq, eq-eqb}
use Rattle.std.proofs.Math.Decide.{dec_le}
use Rattle.characters.specs.Answers.{below, below_at, is_true, from_true, pick}
use Rattle.characters.specs.Damage.{damaged}
use Rattle.characters.specs.Wire.{
  count_of_ones,
  is_sound,
  character_of,
  wire_byte_of,
  STX,
  ETX,
  EOT,
  HT,
  LF,
  CR,
  SP,
}

-- a character is below 128, and a wire byte below 256
pub character_below : (wire : ℕ) → character_of wire < 128
unfolding character_of
character_below wire = omega arith

pub wire_below : (code : ℕ) → wire_byte_of code < 256
unfolding wire_byte_of
wire_below code = omega arith

-- the wire byte of the seven low bits of a number
low_bits : (code : ℕ) → wire_byte_of (code % 128) ≡ wire_byte_of code
unfolding wire_byte_of
low_bits code = let e : code % 128 % 128 ≡ code % 128 = omega arith in rw e

-- a wire byte that is made from a character is sound, and reads back to it
pub wire_sound : (code : ℕ) → is_sound (wire_byte_of code) ≡ true
unfolding is_sound wire_byte_of count_of_ones
wire_sound code =
    rw (← low_bits code) (is_true (below_at (λ k. is_sound (wire_byte_of k)) 128 tt (code % 128) (omega arith)))

pub wire_character : (code : ℕ) → code < 128 → character_of (wire_byte_of code) ≡ code
unfolding character_of wire_byte_of count_of_ones
wire_character code h = eqb→eq _ _ (below_at (λ k. eqb (character_of (wire_byte_of k)) k) 128 tt code h)

-- "sound exactly when": the sound bytes are the wire bytes of their characters, and no others
agree : Bool → Bool → Bool
agree true b = b
agree false b = not b

agree_both : (a b : Bool) → T (agree a b) → T a ↔ T b
unfolding agree
agree_both true b t = (λ x. t, λ y. tt)
agree_both false true t = absurd t
agree_both false false t = (λ x. x, λ y. y)

agree_same : (a b : Bool) → T (agree a b) → a ≡ b
unfolding agree
agree_same true true t = refl
agree_same true false t = absurd t
agree_same false true t = absurd t
agree_same false false t = refl

pub sound_exactly : (wire : ℕ) → wire < 256 → (is_sound wire ≡ true) ↔ (wire_byte_of (character_of wire) ≡ wire)
unfolding is_sound character_of wire_byte_of count_of_ones agree
sound_exactly wire h =
    let both = agree_both (is_sound wire) (eqb (wire_byte_of (character_of wire)) wire) (below_at (λ k. agree (is_sound k) (eqb (wire_byte_of (character_of k)) k)) 256 tt wire h) in
    (λ e. eqb→eq _ _ (both.0 (from_true e)), λ e. is_true (both.1 (from_true (eq-eqb _ _ e))))

-- ---- Said a second time

-- the low seven bits of a byte
pub low_seven : (wire : ℕ) → wire < 256
    → (character_of wire < 128) × ((wire ≡ character_of wire) ⊎ (wire ≡ 128 + character_of wire))
unfolding character_of
low_seven wire h =
    (character_below wire, elim (dec_le 128 wire) [ yes k ↦ inr (omega arith) | no k ↦ inl (omega (arith, lt_of_not-le k)) ])

-- the wire byte of any number, read back
pub wire_back : (code : ℕ) → (is_sound (wire_byte_of code) ≡ true) × (character_of (wire_byte_of code) ≡ code % 128)
wire_back code = (wire_sound code, rw (← (low_bits code)) (wire_character (code % 128) (omega arith)))

-- one bit of a byte changed
abbrev tells : ℕ → ℕ → Bool
tells wire bit = agree (is_sound (damaged bit wire)) (not (is_sound wire))

all_tell : T (below (λ wire. below (tells wire) 8) 256)
unfolding is_sound count_of_ones damaged pick agree
all_tell = tt

pub damage_told :
    (is_sound 0 ≡ true) × ((wire bit : ℕ) → wire < 256 → bit < 8 → is_sound (damaged bit wire) ≡ not (is_sound wire))
unfolding is_sound count_of_ones
damage_told = (
  refl,
  λ wire bit h k. agree_same _ _ (below_at (tells wire) 8 (below_at (λ wire. below (tells wire) 8) 256 all_tell wire h) bit k),
)

-- each control character and separator, with the wire byte that document 01 gives it or that its two ones leave as it is
pub control_wires :
    (wire_byte_of STX ≡ 0x82) × (wire_byte_of ETX ≡ 0x03) × (wire_byte_of EOT ≡ 0x84) × (wire_byte_of HT ≡ 0x09)
    × (wire_byte_of LF ≡ 0x0A) × (wire_byte_of CR ≡ 0x8D) × (wire_byte_of SP ≡ 0xA0)
unfolding wire_byte_of count_of_ones
control_wires = (refl, refl, refl, refl, refl, refl, refl)

-- P12 of document 01: the wire byte 0x02 is unsound
pub damaged_stx : is_sound 0x02 ≡ false
unfolding is_sound count_of_ones
damaged_stx = refl
