-- From a sound STX on, what went before makes no difference to a line's answers (document 02, M-113): said of the line by
-- its rules, and of the bytes alone by looking back.
use Rattle.std.specs.Prelude.{◌≡◌, refl, Bool, true, false, not, ◌||◌, List, [], ◌∷◌, ◌++◌, ℕ, ◌+◌, ◌%◌, T}
use Rattle.std.proofs.Common.{sym, ap, ◌∙◌, append_assoc, arith}
use Rattle.std.proofs.Math.Bool.{and-false}
use Rattle.std.proofs.Math.Option.{Option, none, some}
use Rattle.characters.specs.Answers.{every, is_true, pick}
use Rattle.characters.specs.Wire.{STX, ETX}
use Rattle.groups.specs.declared.Mode.{Mode}
use Rattle.line.specs.Symbols.{symbol_of}
use Rattle.line.specs.Lines.{State, after, answers}
use Rattle.line.specs.Entries.{Entry, only, Framed, framed, framed_if, unframed, entry_list}
use Rattle.line.specs.FrameNumbers.{framed_after, framed_answers}
use Rattle.line.specs.ByBytes.{is, open_since, open_frame, flawed_behind, answer_due, frame_number, answers_due}
use Rattle.line.proofs.Laws.Frames.{stx_restarts}
use Rattle.line.proofs.Laws.FrameNumbers.{answers_bare, count_append}
use Rattle.line.proofs.Laws.LookingBack.{is_as, tests, is_at}
use Rattle.line.specs.declared.rules.Symbol.{Symbol}
use Rattle.line.specs.declared.rules.Symbol.TheVariants.{Stx, Etx, Eot, Lf, Cr, Damaged, Text}

-- ---- By the rules

-- a sound STX has that symbol
stx_symbol : (b : ℕ) → T (is STX b) → symbol_of b ≡ Stx
stx_symbol b t = go (symbol_of b) (rw (tests b).0 at t)
  where
    go : (y : Symbol) → T (is_as STX y) → y ≡ Stx
    go Stx u = refl
    go Etx u = absurd u
    go Eot u = absurd u
    go Lf u = absurd u
    go Cr u = absurd u
    go Damaged u = absurd u
    go (Text c) u = absurd u

-- wherever a line was, and whatever its number: behind an STX it is where any other line is
pub same_line : (mode : ℕ) (s t : Framed State) (stx : ℕ) → T (is STX stx) → (bs : List ℕ)
    → (framed_after mode s (stx ∷ bs)).what ≡ (framed_after mode t (stx ∷ bs)).what
unfolding after
same_line mode s t stx h bs =
    let e = stx_symbol stx h in
    rw (stx_restarts mode s.what stx e, stx_restarts mode t.what stx e)

-- and has its answers to what follows
pub same_answers : (mode : ℕ) (s t : Framed State) (stx : ℕ) → T (is STX stx) → (bs : List ℕ)
    → unframed (framed_answers mode (framed_after mode s (stx ∷ [])) bs)
    ≡ unframed (framed_answers mode (framed_after mode t (stx ∷ [])) bs)
same_answers mode s t stx h bs =
    answers_bare mode (framed_after mode s (stx ∷ [])) bs
    ∙ ap (λ (u : State). answers mode u bs) (same_line mode s t stx h [])
    ∙ sym (answers_bare mode (framed_after mode t (stx ∷ [])) bs)

-- ---- By the bytes alone

-- what is open since the last byte that begins it does not depend on what stands before any such byte
open_since_lem : (begins ends : ℕ → Bool) (before since : List ℕ) (b : ℕ) → begins b ≡ true
    → open_since begins ends (before ++ b ∷ since) ≡ open_since begins ends (b ∷ since)
unfolding open_since pick
open_since_lem begins ends [] since b e = refl
open_since_lem begins ends (x ∷ before) since b e =
    rw (not_last before, and-false (begins x)) (open_since_lem begins ends before since b e)
  where
    not_last : (p : List ℕ) → every (λ y. not (begins y || ends y)) (p ++ b ∷ since) ≡ false
    not_last [] = rw e
    not_last (y ∷ p) = rw (not_last p, and-false (not (begins y || ends y)))

-- each answer behind an STX is the one that is due with nothing before it
pub answer_from : (m : Mode) (before since : List ℕ) (stx b : ℕ) → T (is STX stx)
    → answer_due m (before ++ stx ∷ since) b ≡ answer_due m (stx ∷ since) b
unfolding answer_due
answer_from m before since stx b h = rw (open_since_lem (is STX) _ before since stx (is_true {b = is STX stx} h))

-- so are they all, one after the other, without the numbers of their frames
pub answers_from : (m : Mode) (before since : List ℕ) (stx : ℕ) → T (is STX stx) → (bs : List ℕ)
    → unframed (answers_due m (before ++ stx ∷ since) bs) ≡ unframed (answers_due m (stx ∷ since) bs)
unfolding answers_due
answers_from m before since stx h [] = refl
answers_from m before since stx h (b ∷ bs) =
    first (frame_number ((before ++ stx ∷ since) ++ b ∷ [])) (answer_due m (before ++ stx ∷ since) b) _
    ∙ rw (
      answer_from m before since stx b h,
      append_assoc before (stx ∷ since) (b ∷ []),
      answers_from m before (since ++ b ∷ []) stx h bs,
    )
    (sym (first (frame_number (stx ∷ (since ++ b ∷ []))) (answer_due m (stx ∷ since) b) _))
  where
    first : (n : ℕ) (o : Option Entry) (more : List (Framed Entry))
        → unframed (entry_list (framed_if n o) ++ more) ≡ entry_list o ++ unframed more
    first n none more = refl
    first n (some e) more = refl

-- ---- At the STX

-- where a frame is open its answer is 5
pub at_stx_open : (m : Mode) (before since : List ℕ) (stx : ℕ) → T (is STX stx) → open_frame before ≡ some since
    → answer_due m before stx ≡ some (only 5)
unfolding answer_due pick
at_stx_open m before since stx h e = rw (e, is_true {b = is STX stx} h)

-- and where none is, it has none
pub at_stx_none : (m : Mode) (before : List ℕ) (b : ℕ) → open_frame before ≡ none → answer_due m before b ≡ none
unfolding answer_due
at_stx_none m before b e = rw e

-- so a line that was just opened has no answer to its first byte
pub first_none : (m : Mode) (b : ℕ) (bs : List ℕ) → answers_due m [] (b ∷ bs) ≡ answers_due m (b ∷ []) bs
unfolding answers_due open_since
first_none m b bs = rw (at_stx_none m [] b refl)

-- ---- The number of a frame

-- bytes before others put it forward by their own
pub number_forward : (before bytes : List ℕ) → frame_number (before ++ bytes) ≡ (frame_number before + frame_number bytes) % 65536
unfolding frame_number
number_forward before bytes = rw (count_append (is STX) before bytes) (omega arith)

-- an empty frame has the next number behind another
pub empty_frames : (m : Mode) (stx etx : ℕ) → T (is STX stx) → T (is ETX etx)
    → (answers_due m (stx ∷ etx ∷ stx ∷ []) (etx ∷ []) ≡ framed 2 (only 2) ∷ [])
    × (answers_due m (stx ∷ []) (etx ∷ []) ≡ framed 1 (only 2) ∷ [])
unfolding answers_due answer_due open_since flawed_behind frame_number pick
empty_frames m stx etx s e =
    let is_stx = is_at STX stx STX s in
    let not_stx = is_at ETX etx STX e in
    let is_etx = is_at ETX etx ETX e in
    (rw (is_stx, not_stx, is_etx, not_stx, is_etx), rw (is_stx, not_stx, is_etx))
