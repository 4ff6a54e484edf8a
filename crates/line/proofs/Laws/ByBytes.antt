-- The line's definition gives the answers that are due by the bytes alone.
use Rattle.std.specs.Prelude.{◌≡◌, Bool, true, false, ◌||◌, ℕ, suc, T}
use Rattle.std.proofs.Math.Path.{refl, ap}
use Rattle.std.proofs.Common.{sym, ◌∙◌}
use Rattle.std.proofs.Math.Bool.{or-true, or-false, or_assoc}
use Rattle.std.proofs.Math.Option.{Option, none, some}
use mathlib.Core.List.{List, [], ◌∷◌, ◌++◌, append-nil, map}
use Rattle.std.proofs.Math.Seq.{append_snoc}
use Rattle.characters.specs.Answers.{given, refused, pick}
use Rattle.characters.specs.Wire.{STX, ETX, EOT, LF, CR}
use Rattle.groups.specs.Modes.{mode_of}
use Rattle.groups.specs.Groups.{Group}
use Rattle.groups.specs.Writing.{writing}
use Rattle.groups.specs.declared.Mode.{Mode}
use Rattle.line.specs.Symbols.{symbol_of}
use Rattle.line.specs.Rules.{frame_end, move}
use Rattle.line.specs.Lines.{LineAnswer, State, Step, does, step, after, and_then, outside, in_frame, onward, until_answer}
use Rattle.line.specs.Between.{no_control, is_damaged, any_damaged, with_text, text_of, group_answer}
use Rattle.line.specs.Entries.{Entry, accepted, only, Framed, framed, framed_if, entry_list}
use Rattle.line.specs.FrameNumbers.{frame_at, frame_after, begun, framed_after, framed_answers}
use Rattle.line.specs.Numbers.{shown, shown_if, shown_framed}
use Rattle.line.specs.ByBytes.{is, open_since, open_frame, open_group, flaws, flawed_behind, is_flawed, due_in_frame, answer_due, frame_number, entry_due, answers_due, is_answered, up_to_answer}
use Rattle.line.proofs.Laws.Bytes.{step_at}
use Rattle.line.proofs.Laws.Groups.{keeps, added_keeps, verdict_is}
use Rattle.line.proofs.Laws.Written.{written_sent, written_no_stx}
use Rattle.line.proofs.Laws.LookingBack.{Tests, tests, more, open_more, ends_in_group}
use Rattle.line.proofs.Laws.FrameNumbers.{number_more, after_counted, number_opened, after_none, one_number}
use Rattle.line.proofs.Laws.GroupsByBytes.{group_shown, refused_number}
use Rattle.line.specs.declared.rules.Symbol.{Symbol}
use Rattle.line.specs.declared.rules.Symbol.TheVariants.{Stx, Etx, Eot, Lf, Cr, Damaged, Text}

-- ---- One byte more

damaged_more : (p : List ℕ) (b : ℕ) → any_damaged (p ++ b ∷ []) ≡ (any_damaged p || is_damaged (symbol_of b))
damaged_more [] b = or-false (is_damaged (symbol_of b))
damaged_more (x ∷ p) b =
    ap (λ r. is_damaged (symbol_of x) || r) (damaged_more p b)
    ∙ sym (or_assoc (is_damaged (symbol_of x)) (any_damaged p) (is_damaged (symbol_of b)))

with_more : (y : Symbol) (p q : List ℕ) → with_text y (p ++ q) ≡ with_text y p ++ q
with_more Stx p q = refl
with_more Etx p q = refl
with_more Eot p q = refl
with_more Lf p q = refl
with_more Cr p q = refl
with_more Damaged p q = refl
with_more (Text c) p q = refl

text_more : (p : List ℕ) (b : ℕ) → text_of (p ++ b ∷ []) ≡ text_of p ++ with_text (symbol_of b) []
text_more [] b = refl
text_more (x ∷ p) b = ap (with_text (symbol_of x)) (text_more p b) ∙ with_more (symbol_of x) (text_of p) _

flawed_more : (m : Mode) (front bs : List ℕ) (b : ℕ)
    → flawed_behind m front (bs ++ b ∷ []) ≡ (flawed_behind m front bs || flaws m (open_group (front ++ bs)) b)
unfolding flawed_behind
flawed_more m front [] b = rw (append-nil front, or-false (flaws m (open_group front) b))
flawed_more m front (x ∷ bs) b =
    ap (λ r. flaws m (open_group front) x || r)
    (flawed_more m (front ++ x ∷ []) bs b
    ∙ ap (λ (l : List ℕ). flawed_behind m (front ++ x ∷ []) bs || flaws m (open_group l) b) (append_snoc front x bs))
    ∙ sym (or_assoc (flaws m (open_group front) x) (flawed_behind m (front ++ x ∷ []) bs) _)

-- ---- Where the line is, by the bytes

-- in a frame, with or without a group
abbrev pub inside_of : Bool → Option (List ℕ) → State
inside_of flaw none = in_frame flaw
inside_of flaw (some inner) = keeps flaw (any_damaged inner) (text_of inner)

abbrev pub located : Mode → Option (List ℕ) → State
located m none = outside
located m (some since) = inside_of (is_flawed m since) (open_group since)

-- a frame that has just begun
frame_begun : (m : Mode) → located m (some []) ≡ in_frame false
unfolding open_since flawed_behind
frame_begun m = refl

-- what a byte does, with the number of its answer
record Told : Type 0 where
  state : State
  answer : Option Entry

abbrev tells : Step → Told
tells u = record { state = u.state; answer = shown_if u.answer }

-- one byte more, with this symbol, leads where the bytes then say, and has the answer that is due
abbrev Leads : ℕ → Mode → Option (List ℕ) → ℕ → Symbol → Type 0
Leads mode m o b y =
    tells (does mode (located m o).content (move (located m o).phase y))
    ≡ record { state = located m (more (is STX b) (is ETX b || is EOT b) b o); answer = due_in_frame m o b }

-- outside
from_outside : (mode : ℕ) (m : Mode) (b : ℕ) (y : Symbol) → Tests (λ k. is k b) y → Leads mode m none b y
from_outside mode m b Stx t = rw (t.0, frame_begun m)
from_outside mode m b Etx t = rw (t.0, t.1)
from_outside mode m b Eot t = rw (t.0, t.1, t.2)
from_outside mode m b Lf t = rw (t.0, t.1, t.2)
from_outside mode m b Cr t = rw (t.0, t.1, t.2)
from_outside mode m b Damaged t = rw (t.0, t.1, t.2)
from_outside mode m b (Text c) t = rw (t.0, t.1, t.2)

-- "2 if no flaw, else 3", said twice
end_is : (flaw : Bool) → shown (refused (frame_end flaw)) ≡ pick flaw (only 3) (only 2)
unfolding pick
end_is true = refl
end_is false = refl

-- a byte more in a frame
located_more : (m : Mode) (since : List ℕ) (b : ℕ)
    → located m (some (since ++ b ∷ []))
    ≡ inside_of (is_flawed m since || flaws m (open_group since) b) (more (is LF b) (is CR b) b (open_group since))
located_more m since b = rw (flawed_more m [] since b, open_more (is LF) (is CR) since b)

-- in a frame with no group open
from_frame : (mode : ℕ) (m : Mode) (b : ℕ) (since : List ℕ) → open_group since ≡ none → (y : Symbol)
    → Tests (λ k. is k b) y → Leads mode m (some since) b y
unfolding pick
from_frame mode m b since n Stx t = rw (n, t.0, frame_begun m)
from_frame mode m b since n Etx t = rw (n, t.0, t.1, end_is (is_flawed m since))
from_frame mode m b since n Eot t = rw (n, t.0, t.1, t.2)
from_frame mode m b since n Lf t =
    rw (t.0, t.1, t.2, located_more m since b, n, t.3, or-false (is_flawed m since))
from_frame mode m b since n Cr t =
    rw (t.0, t.1, t.2, located_more m since b, n, t.3, t.4, or-true (is_flawed m since))
from_frame mode m b since n Damaged t =
    rw (t.0, t.1, t.2, located_more m since b, n, t.3, t.4, or-true (is_flawed m since))
from_frame mode m b since n (Text c) t =
    rw (t.0, t.1, t.2, located_more m since b, n, t.3, t.4, or-true (is_flawed m since))

-- one byte more in the group, no sound control character: what it holds then
held_damaged : (flaw : Bool) (inner : List ℕ) (b : ℕ) → symbol_of b ≡ Damaged
    → inside_of flaw (some (inner ++ b ∷ [])) ≡ keeps flaw true (text_of inner)
held_damaged flaw inner b e =
    rw (damaged_more inner b, text_more inner b, e, or-true (any_damaged inner), append-nil (text_of inner))

held_text : (flaw : Bool) (inner : List ℕ) (b c : ℕ) → symbol_of b ≡ Text c
    → inside_of flaw (some (inner ++ b ∷ [])) ≡ keeps flaw (any_damaged inner) (text_of inner ++ c ∷ [])
held_text flaw inner b c e = rw (damaged_more inner b, text_more inner b, e, or-false (any_damaged inner))

-- in a group
from_group : (mode : ℕ) (m : Mode) → mode_of mode ≡ some m → (b : ℕ) (since inner : List ℕ)
    → open_group since ≡ some inner → T (no_control inner) → (y : Symbol) → symbol_of b ≡ y → Tests (λ k. is k b) y
    → Leads mode m (some since) b y
unfolding pick
from_group mode m k b since inner n i Stx e t = rw (n, t.0, frame_begun m)
from_group mode m k b since inner n i Etx e t = rw (n, t.0, t.1)
from_group mode m k b since inner n i Eot e t = rw (n, t.0, t.1, t.2)
from_group mode m k b since inner n i Lf e t =
    rw (t.0, t.1, t.2, located_more m since b, n, t.3, or-true (is_flawed m since))
from_group mode m k b since inner n i Cr e t =
    rw (
      t.0,
      t.1,
      t.2,
      located_more m since b,
      n,
      t.3,
      t.4,
      verdict_is mode inner,
      refused_number (group_answer mode inner),
      group_shown mode m inner k i,
    )
from_group mode m k b since inner n i Damaged e t =
    rw (
      t.0,
      t.1,
      t.2,
      located_more m since b,
      n,
      t.3,
      t.4,
      or-false (is_flawed m since),
      held_damaged (is_flawed m since) inner b e,
    )
from_group mode m k b since inner n i (Text c) e t =
    rw (
      t.0,
      t.1,
      t.2,
      located_more m since b,
      n,
      t.3,
      t.4,
      or-false (is_flawed m since),
      held_text (is_flawed m since) inner b c e,
      added_keeps (is_flawed m since) (any_damaged inner) (text_of inner) c,
    )

-- one byte more up to the first answer, by its answer with its number
onward_is : (o : Option LineAnswer) (n : ℕ) → onward o n ≡ pick (is_answered (shown_if o)) 1 (suc n)
unfolding pick
onward_is none n = refl
onward_is (some a) n = refl

module _ (mode : ℕ) (m : Mode) (k : mode_of mode ≡ some m) where
  -- wherever the bytes say it is
  leads : (p : List ℕ) (b : ℕ) (o : Option (List ℕ)) → open_frame p ≡ o → Leads mode m o b (symbol_of b)
  leads p b none f = from_outside mode m b (symbol_of b) (tests b)
  leads p b (some since) f = by_group (open_group since) refl
    where
      by_group : (g : Option (List ℕ)) → open_group since ≡ g → Leads mode m (some since) b (symbol_of b)
      by_group none n = from_frame mode m b since n (symbol_of b) (tests b)
      by_group (some inner) n =
          from_group mode m k b since inner n (ends_in_group p since inner f n).content (symbol_of b) refl (tests b)

  -- ---- The line is where the bytes say

  step_leads : (p : List ℕ) (b : ℕ)
      → tells (step mode (located m (open_frame p)) b)
      ≡ record { state = located m (open_frame (p ++ b ∷ [])); answer = answer_due m p b }
  unfolding answer_due
  step_leads p b =
      ap tells (step_at mode (located m (open_frame p)) b refl) ∙ leads p b (open_frame p) refl
      ∙ rw (open_more (is STX) (λ x. is ETX x || is EOT x) p b)

  -- the line after a byte, and its answer
  step_state : (p : List ℕ) (b : ℕ)
      → (step mode (located m (open_frame p)) b).state ≡ located m (open_frame (p ++ b ∷ []))
  step_state p b = ap (λ (u : Told). u.state) (step_leads p b)

  step_answer : (p : List ℕ) (b : ℕ) → shown_if (step mode (located m (open_frame p)) b).answer ≡ answer_due m p b
  step_answer p b = ap (λ (u : Told). u.answer) (step_leads p b)

  -- after bytes p the line has the place that p says; so it is with more
  after_located : (p bs : List ℕ) → after mode (located m (open_frame p)) bs ≡ located m (open_frame (p ++ bs))
  unfolding after
  after_located p [] = rw (append-nil p)
  after_located p (b ∷ bs) = rw (step_state p b, ← append_snoc p b bs) (after_located (p ++ b ∷ []) bs)

  pub after_by_bytes : (before : List ℕ) → after mode outside before ≡ located m (open_frame before)
  unfolding open_since
  after_by_bytes before = after_located [] before

  pub answer_by_bytes : (before : List ℕ) (b : ℕ)
      → shown_if (step mode (after mode outside before) b).answer ≡ answer_due m before b
  answer_by_bytes before b = rw (after_by_bytes before) (step_answer before b)

  -- and so with all answers, one after the other, with their numbers
  answers_located : (p bs : List ℕ)
      → map shown_framed (framed_answers mode (framed (frame_number p) (located m (open_frame p))) bs) ≡ answers_due m p bs
  unfolding framed_answers answers_due
  answers_located p [] = refl
  answers_located p (b ∷ bs) =
      first (frame_at (frame_number p) (symbol_of b)) (step mode (located m (open_frame p)) b).answer
      (framed_answers mode (framed (frame_at (frame_number p) (symbol_of b)) (step mode (located m (open_frame p)) b).state) bs)
      ∙ rw (number_more p b, step_answer p b, step_state p b)
      (ap (λ (l : List (Framed Entry)). entry_list (entry_due m p b) ++ l) (answers_located (p ++ b ∷ []) bs))
    where
      first : (n : ℕ) (o : Option LineAnswer) (more : List (Framed LineAnswer))
          → map shown_framed (and_then (framed_if n o) more) ≡ entry_list (framed_if n (shown_if o)) ++ map shown_framed more
      first n none more = refl
      first n (some a) more = refl

  -- the line with its number, after bytes
  framed_by_bytes : (before : List ℕ)
      → framed_after mode begun before ≡ framed (frame_number before) (located m (open_frame before))
  framed_by_bytes before =
      let counted : frame_after 0 before ≡ frame_number before = rw number_opened at (after_counted [] before) in
      rw (counted, after_by_bytes before)

  pub answers_behind_lem : (before bs : List ℕ)
      → map shown_framed (framed_answers mode (framed_after mode begun before) bs) ≡ answers_due m before bs
  answers_behind_lem before bs = rw (framed_by_bytes before) (answers_located before bs)

  pub all_by_bytes : (bs : List ℕ) → map shown_framed (framed_answers mode begun bs) ≡ answers_due m [] bs
  all_by_bytes bs = rw (after_none mode begun) at (answers_behind_lem [] bs)

  -- what the writer makes, sent in an open frame with no group open
  pub written_by_bytes : (g : Group) (room : ℕ) (w : List ℕ) → writing mode g room ≡ given w → (before since : List ℕ)
      → open_frame before ≡ some since → open_group since ≡ none
      → answers_due m before w ≡ framed (frame_number before) (accepted g) ∷ []
  written_by_bytes g room w e before since f n =
      let at : located m (open_frame before) ≡ in_frame (is_flawed m since) = rw (f, n) in
      let sent = (written_sent mode (is_flawed m since) g room w e).0 in
      sym (answers_located before w)
      ∙ rw (at, one_number mode (framed (frame_number before) (in_frame (is_flawed m since))) w (written_no_stx mode g room w e), sent)

  -- how many bytes there are up to the first answer
  until_located : (p bs : List ℕ) → until_answer mode (located m (open_frame p)) bs ≡ up_to_answer m p bs
  unfolding until_answer up_to_answer
  until_located p [] = refl
  until_located p (b ∷ bs) =
      onward_is (step mode (located m (open_frame p)) b).answer (until_answer mode (step mode (located m (open_frame p)) b).state bs)
      ∙ rw (step_answer p b, step_state p b, until_located (p ++ b ∷ []) bs)

  pub until_by_bytes : (before bs : List ℕ) → until_answer mode (after mode outside before) bs ≡ up_to_answer m before bs
  until_by_bytes before bs = rw (after_by_bytes before) (until_located before bs)
