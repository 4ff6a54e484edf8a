-- The number of a line's frame (document 02, M-108): "Each line keeps a frame number, 0 when opened, one more at every STX,
-- 65,535 followed by 0." The frame rules do not look at it. It stands beside what a line is and beside each answer.
use Rattle.std.proofs.Math.Option.{Option}
use Rattle.std.specs.Prelude.{List, [], ◌∷◌, ℕ, suc, eqb}
use Rattle.characters.specs.Answers.{pick}
use Rattle.line.specs.Symbols.{symbol_of}
use Rattle.line.specs.Lines.{LineAnswer, State, step, after, and_then, outside}
use Rattle.line.specs.Entries.{Framed, framed, framed_if}
use Rattle.line.specs.declared.rules.Symbol.{Symbol}
use Rattle.line.specs.declared.rules.Symbol.TheVariants.{Stx, Etx, Eot, Lf, Cr, Damaged, Text}

-- "one more .., 65,535 followed by 0"
unfoldable pub next_frame : ℕ → ℕ
next_frame n = pick (eqb n 65535) 0 (suc n)

-- "at every STX"
abbrev pub frame_at : ℕ → Symbol → ℕ
frame_at n Stx = next_frame n
frame_at n Etx = n
frame_at n Eot = n
frame_at n Lf = n
frame_at n Cr = n
frame_at n Damaged = n
frame_at n (Text c) = n

-- after bytes one after the other
unfoldable pub frame_after : ℕ → List ℕ → ℕ
frame_after n [] = n
frame_after n (b ∷ bs) = frame_after (frame_at n (symbol_of b)) bs

-- ---- The line with its number

-- a line that was just opened: "0 when opened"
abbrev pub begun : Framed State
begun = framed 0 outside

abbrev pub framed_after : ℕ → Framed State → List ℕ → Framed State
framed_after mode s bs = framed (frame_after s.frame bs) (after mode s.what bs)

-- ---- Its answers with their numbers

-- the answer to a byte carries the number that the line has after it: "an answer 5 carries the new number"
abbrev pub framed_answer : ℕ → Framed State → ℕ → Option (Framed LineAnswer)
framed_answer mode s b = framed_if (frame_at s.frame (symbol_of b)) (step mode s.what b).answer

unfoldable pub framed_answers : ℕ → Framed State → List ℕ → List (Framed LineAnswer)
framed_answers mode s [] = []
framed_answers mode s (b ∷ bs) =
    and_then (framed_answer mode s b)
    (framed_answers mode (framed (frame_at s.frame (symbol_of b)) (step mode s.what b).state) bs)
