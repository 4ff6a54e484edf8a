-- "Writing: from mode, label, stamp and data, LF, content and CR as sound wire bytes at the start of a lent buffer, the
-- rest unchanged."
use Rattle.std.specs.Prelude.{◌≡◌, List, [], ◌∷◌, ◌++◌, map, ℕ, ◌-◌, leb, length, take, drop, Result, Ok, Err}
use Rattle.characters.specs.Answers.{Answer, refused, given, need, found}
use Rattle.characters.specs.Wire.{character_of, wire_byte_of, LF, CR}
use Rattle.groups.specs.Modes.{mode_of}
use Rattle.groups.specs.Groups.{Group, compose}
use Rattle.groups.specs.declared.Refusal.{Refusal}
use Rattle.groups.specs.declared.Refusal.TheVariants.{NoRoom, ModeUnknown}

-- "LF, content and CR as sound wire bytes"
unfoldable pub on_the_wire : List ℕ → List ℕ
on_the_wire c = wire_byte_of LF ∷ (map wire_byte_of c ++ wire_byte_of CR ∷ [])

-- wire bytes freed of LF, CR and parity
abbrev pub off_the_wire : List ℕ → List ℕ
off_the_wire w = map character_of (take (length w - 2) (drop 1 w))

-- the content that fields make in the mode of a number: 19 first
unfoldable pub composing : ℕ → Group → Answer Refusal (List ℕ)
composing number g = found (mode_of number) ModeUnknown λ m. compose m g

-- a content's bytes into so much room: 15, "lent buffer too short for all"
unfoldable pub into : ℕ → Answer Refusal (List ℕ) → Answer Refusal (List ℕ)
into room (refused refusal) = refused refusal
into room (given c) = need (leb (length (on_the_wire c)) room) NoRoom (given (on_the_wire c))

-- the bytes to write: "Writer: 19, 11, 12, 13, 14, 15"
unfoldable pub writing : ℕ → Group → ℕ → Answer Refusal (List ℕ)
writing number g room = found (mode_of number) ModeUnknown λ m. into room (compose m g)

-- "The writer also tells how many bytes it wrote"
abbrev pub told : Answer Refusal (List ℕ) → Result ℕ Refusal
told (refused refusal) = Err refusal
told (given bytes) = Ok (length bytes)

-- "0 when it refuses"
abbrev pub count_of : Result ℕ Refusal → ℕ
count_of (Ok count) = count
count_of (Err refusal) = 0

-- the buffer afterwards: "Every refused writing changes no lent byte."
abbrev pub left : Answer Refusal (List ℕ) → List ℕ → List ℕ
left (refused refusal) buffer = buffer
left (given bytes) buffer = bytes ++ drop (length bytes) buffer

-- what a writing does: it tells this, and leaves this of the buffer
pub record Wrote (answer : Answer Refusal (List ℕ)) (before : List ℕ) (result : Result ℕ Refusal) (after : List ℕ) : Type 0 where
  pub tells : result ≡ told answer
  pub leaves : after ≡ left answer before
