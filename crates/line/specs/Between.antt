-- What stands between LF and CR, and between STX and ETX, in terms of the bytes alone.
use Rattle.std.specs.Prelude.{◌≡◌, Bool, true, false, not, ◌||◌, List, [], ◌∷◌, ◌++◌, ℕ, T, ltb, length}
use Rattle.characters.specs.Answers.{refused, given, every, pick}
use Rattle.groups.specs.Groups.{Group}
use Rattle.groups.specs.Judging.{judging}
use Rattle.groups.specs.Place.{place_of}
use Rattle.groups.specs.declared.Refusal.TheVariants.{TooLong}
use Rattle.line.specs.Symbols.{symbol_of}
use Rattle.line.specs.Lines.{LineAnswer, of_group}
use Rattle.line.specs.declared.Notice.TheVariants.{GroupDamaged, GroupRefused}
use Rattle.line.specs.declared.rules.Symbol.{Symbol}
use Rattle.line.specs.declared.rules.Symbol.TheVariants.{Stx, Etx, Eot, Lf, Cr, Damaged, Text}

-- no sound control character: content, or damaged
abbrev pub is_inner : Symbol → Bool
is_inner Stx = false
is_inner Etx = false
is_inner Eot = false
is_inner Lf = false
is_inner Cr = false
is_inner Damaged = true
is_inner (Text c) = true

abbrev pub is_damaged : Symbol → Bool
is_damaged Stx = false
is_damaged Etx = false
is_damaged Eot = false
is_damaged Lf = false
is_damaged Cr = false
is_damaged Damaged = true
is_damaged (Text c) = false

abbrev pub is_stx : Symbol → Bool
is_stx Stx = true
is_stx Etx = false
is_stx Eot = false
is_stx Lf = false
is_stx Cr = false
is_stx Damaged = false
is_stx (Text c) = false

abbrev pub no_control : List ℕ → Bool
no_control bs = every (λ b. is_inner (symbol_of b)) bs

abbrev pub no_stx : List ℕ → Bool
no_stx bs = every (λ b. not (is_stx (symbol_of b))) bs

abbrev pub any_damaged : List ℕ → Bool
any_damaged [] = false
any_damaged (b ∷ bs) = is_damaged (symbol_of b) || any_damaged bs

-- the characters of the bytes that are content
abbrev pub with_text : Symbol → List ℕ → List ℕ
with_text Stx more = more
with_text Etx more = more
with_text Eot more = more
with_text Lf more = more
with_text Cr more = more
with_text Damaged more = more
with_text (Text c) more = c ∷ more

abbrev pub text_of : List ℕ → List ℕ
text_of [] = []
text_of (b ∷ bs) = with_text (symbol_of b) (text_of bs)

-- the one answer to a group of these bytes: "7 if one of them is unsound, 8 if more than 128 are sound, otherwise what
-- the groups' reader says of their characters"
unfoldable pub group_answer : ℕ → List ℕ → LineAnswer
group_answer mode bs =
    pick (any_damaged bs) (refused GroupDamaged)
    (pick (ltb 128 (length (text_of bs))) (refused (GroupRefused TooLong 0))
    (of_group (judging mode (text_of bs)) (place_of mode (text_of bs))))

-- the bytes between an STX and an ETX kept the frame sound: they are accepted groups, one behind the other
pub data SoundFrame (mode : ℕ) : List ℕ → Type 0 where
  empty : SoundFrame mode []
  group : (lf cr : ℕ) (inner more : List ℕ) (g : Group) → symbol_of lf ≡ Lf → T (no_control inner)
      → group_answer mode inner ≡ given g → symbol_of cr ≡ Cr → SoundFrame mode more
      → SoundFrame mode (lf ∷ (inner ++ cr ∷ more))
