-- Stretches of bytes: no bytes, and those up to the first that gives an answer.
use Rattle.std.specs.Prelude.{◌≡◌, refl, List, [], ◌∷◌, ℕ, ◌≤◌, ◌<◌, length, take}
use Rattle.std.proofs.Math.Option.{Option, none, some}
use Rattle.std.proofs.Common.{arith}
use Rattle.line.specs.Lines.{LineAnswer, State, step, after, answers, onward, until_answer}

-- no bytes leave the line as it is
pub after_none : (mode : ℕ) (s : State) → after mode s [] ≡ s
unfolding after
after_none mode s = refl

-- and have no answers
pub answers_none : (mode : ℕ) (s : State) → answers mode s [] ≡ []
unfolding answers
answers_none mode s = refl

-- a byte and, where it gives no answer, those behind it have one answer at most where those behind it have
one_here : (mode : ℕ) (s : State) (b : ℕ) (bs : List ℕ) (k : ℕ) (o : Option LineAnswer) → (step mode s b).answer ≡ o
    → length (answers mode (step mode s b).state (take k bs)) ≤ 1
    → length (answers mode s (take (onward o k) (b ∷ bs))) ≤ 1
unfolding answers
one_here mode s b bs k none e h = rw e h
one_here mode s b bs k (some a) e h = rw e (omega arith)

-- a stretch up to the first answer has one answer at most
pub until_one : (mode : ℕ) (s : State) (bs : List ℕ) → length (answers mode s (take (until_answer mode s bs) bs)) ≤ 1
unfolding until_answer answers
until_one mode s [] = omega arith
until_one mode s (b ∷ bs) =
    one_here mode s b bs _ (step mode s b).answer refl (until_one mode (step mode s b).state bs)

-- a byte that gives an answer ends the stretch, and one that gives none leaves it to those behind it
stops_here : (mode : ℕ) (s : State) (b : ℕ) (bs : List ℕ) (k : ℕ) (o : Option LineAnswer) → (step mode s b).answer ≡ o
    → (k < length bs → 1 ≤ length (answers mode (step mode s b).state (take k bs)))
    → onward o k < length (b ∷ bs) → 1 ≤ length (answers mode s (take (onward o k) (b ∷ bs)))
unfolding answers
stops_here mode s b bs k none e f h = rw e (f (omega arith))
stops_here mode s b bs k (some a) e f h = rw e (omega arith)

-- bytes are left only behind an answer
pub until_stops : (mode : ℕ) (s : State) (bs : List ℕ) → until_answer mode s bs < length bs
    → 1 ≤ length (answers mode s (take (until_answer mode s bs) bs))
unfolding until_answer
until_stops mode s [] h = absurd (omega arith)
until_stops mode s (b ∷ bs) h =
    stops_here mode s b bs _ (step mode s b).answer refl (until_stops mode (step mode s b).state bs) h
