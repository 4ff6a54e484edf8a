-- Bytes one after the other: where they are cut makes no difference, and a byte does what its symbol does.
use Rattle.std.specs.Prelude.{◌≡◌, refl, false, List, [], ◌∷◌, ◌++◌, ℕ}
use Rattle.std.proofs.Common.{ap, ◌∙◌}
use Rattle.std.proofs.Math.Option.{Option, none, some}
use Rattle.characters.specs.Answers.{pick}
use Rattle.characters.specs.Wire.{is_sound}
use Rattle.line.specs.Symbols.{symbol_of}
use Rattle.line.specs.Rules.{move}
use Rattle.line.specs.Lines.{LineAnswer, State, Step, does, step, after, and_then, answers}
use Rattle.line.specs.declared.rules.Symbol.{Symbol}
use Rattle.line.specs.declared.rules.Symbol.TheVariants.{Damaged}

-- the line after two stretches of bytes is the line after the second, from the line after the first
pub after_append : (mode : ℕ) (s : State) (a b : List ℕ) → after mode s (a ++ b) ≡ after mode (after mode s a) b
unfolding after
after_append mode s [] b = refl
after_append mode s (x ∷ a) b = after_append mode (step mode s x).state a b

-- an answer in front stays in front
then_append : (o : Option LineAnswer) (a b : List LineAnswer) → and_then o (a ++ b) ≡ and_then o a ++ b
then_append none a b = refl
then_append (some x) a b = refl

-- the answers to two stretches of bytes are those to the first, then those to the second from the line after the first
pub answers_append : (mode : ℕ) (s : State) (a b : List ℕ)
    → answers mode s (a ++ b) ≡ answers mode s a ++ answers mode (after mode s a) b
unfolding after answers
answers_append mode s [] b = refl
answers_append mode s (x ∷ a) b =
    ap (and_then (step mode s x).answer) (answers_append mode (step mode s x).state a b)
    ∙ then_append (step mode s x).answer (answers mode (step mode s x).state a) _

-- a byte does what the rules say of its symbol
pub step_at : (mode : ℕ) (s : State) (b : ℕ) {y : Symbol} → symbol_of b ≡ y
    → step mode s b ≡ does mode s.content (move s.phase y)
unfolding step
step_at mode s b e = ap (λ y. does mode s.content (move s.phase y)) e

-- and the bytes behind it find the line that this leaves
pub after_at : (mode : ℕ) (s : State) (b : ℕ) (bs : List ℕ) {y : Symbol} → symbol_of b ≡ y
    → after mode s (b ∷ bs) ≡ after mode (does mode s.content (move s.phase y)).state bs
unfolding after
after_at mode s b bs e = ap (λ (u : Step). after mode u.state bs) (step_at mode s b e)

-- its answer comes first
pub answers_at : (mode : ℕ) (s : State) (b : ℕ) (bs : List ℕ) {y : Symbol} → symbol_of b ≡ y
    → answers mode s (b ∷ bs)
    ≡ and_then (does mode s.content (move s.phase y)).answer
    (answers mode (does mode s.content (move s.phase y)).state bs)
unfolding answers
answers_at mode s b bs e = ap (λ (u : Step). and_then u.answer (answers mode u.state bs)) (step_at mode s b e)

-- an unsound byte is damaged, whatever its low bits are
pub unsound_damaged : (b : ℕ) → is_sound b ≡ false → symbol_of b ≡ Damaged
unfolding symbol_of pick
unsound_damaged b e = rw e
