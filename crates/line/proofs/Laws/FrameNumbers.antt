-- The number of a line's frame: one more at every STX is, by the bytes alone, their count. And what is so of a stretch's
-- answers is so of them with their numbers.
use Rattle.std.specs.Prelude.{◌≡◌, refl, ◌↔◌, Bool, ℕ, suc, ◌+◌, ◌%◌, ◌≤◌, ◌<◌, eqb, length, take}
use Rattle.std.proofs.Common.{sym, ap, ◌∙◌, eqb-true}
use Rattle.std.proofs.Math.Bool.{true, false}
use Rattle.std.proofs.Math.Option.{Option, none, some}
use mathlib.Core.List.{List, [], ◌∷◌, ◌++◌, append-nil, map}
use native.Mathlib.Omega.{arith}
use Rattle.std.proofs.lemmas.List.{length-map}
use Rattle.std.proofs.Math.Seq.{append_snoc}
use Rattle.std.proofs.lemmas.Bool.{eqb-false}
use Rattle.characters.specs.Answers.{pick}
use Rattle.characters.specs.Wire.{STX}
use Rattle.groups.proofs.Laws.Tests.{not_some}
use Rattle.groups.specs.declared.Mode.{Mode}
use Rattle.line.specs.Symbols.{symbol_of}
use Rattle.line.specs.Lines.{LineAnswer, State, step, after, and_then, answers, onward, until_answer}
use Rattle.line.specs.Entries.{Entry, Framed, framed, framed_if, entry_list, first_entry}
use Rattle.line.specs.FrameNumbers.{next_frame, frame_at, frame_after, framed_after, framed_answers}
use Rattle.line.specs.Numbers.{shown_framed}
use Rattle.line.specs.ByBytes.{is, answer_due, count_of, frame_number, entry_due, answers_due, is_answered, up_to_answer}
use Rattle.line.proofs.Laws.NextFrame.{next_last, next_other}
use Rattle.line.proofs.Laws.Bytes as bytes
use Rattle.line.proofs.Laws.Until as until
use Rattle.line.proofs.Laws.LookingBack.{is_as, tests}
use Rattle.line.specs.declared.rules.Symbol.{Symbol}
use Rattle.line.specs.declared.rules.Symbol.TheVariants.{Stx, Etx, Eot, Lf, Cr, Damaged, Text}

-- ---- The count

module _ {A : Type 0} (f : A → Bool) where
  -- of two lists one behind the other
  pub count_append : (p q : List A) → count_of f (p ++ q) ≡ count_of f p + count_of f q
  unfolding pick
  count_append [] q = omega arith
  count_append (x ∷ p) q = go (f x) (count_append p q)
    where
      go : (so : Bool) → count_of f (p ++ q) ≡ count_of f p + count_of f q
          → pick so (suc (count_of f (p ++ q))) (count_of f (p ++ q)) ≡ pick so (suc (count_of f p)) (count_of f p) + count_of f q
      go true e = omega (arith, e)
      go false e = e

  -- of one more
  count_more : (p : List A) (x : A) → count_of f (p ++ x ∷ []) ≡ pick (f x) (suc (count_of f p)) (count_of f p)
  unfolding pick
  count_more p x = count_append p (x ∷ []) ∙ go (f x)
    where
      go : (so : Bool) → count_of f p + pick so 1 0 ≡ pick so (suc (count_of f p)) (count_of f p)
      go true = omega arith
      go false = omega arith

-- ---- The number after a byte

-- "one more at every STX", by the test of the byte
pub at_stx : (n b : ℕ) → frame_at n (symbol_of b) ≡ pick (is STX b) (next_frame n) n
unfolding pick
at_stx n b = rw (tests b).0 (go (symbol_of b))
  where
    go : (y : Symbol) → frame_at n y ≡ pick (is_as STX y) (next_frame n) n
    go Stx = refl
    go Etx = refl
    go Eot = refl
    go Lf = refl
    go Cr = refl
    go Damaged = refl
    go (Text c) = refl

-- "one more .., 65,535 followed by 0" is one more by the remainder of 65,536
one_more : (k : ℕ) → suc k % 65536 ≡ pick (eqb (k % 65536) 65535) 0 (suc (k % 65536))
unfolding pick
one_more k = go (eqb (k % 65536) 65535) refl
  where
    go : (last : Bool) → eqb (k % 65536) 65535 ≡ last → suc k % 65536 ≡ pick last 0 (suc (k % 65536))
    go true e = omega (arith, eqb-true (k % 65536) 65535 e)
    go false e =
        let other : (k % 65536 ≡ 65535) → ⊥ = eqb-false (k % 65536) 65535 e in
        omega arith

next_remainder : (k : ℕ) → next_frame (k % 65536) ≡ suc k % 65536
unfolding next_frame
next_remainder k = sym (one_more k)

-- one byte more, by the count
pub number_more : (p : List ℕ) (b : ℕ) → frame_at (frame_number p) (symbol_of b) ≡ frame_number (p ++ b ∷ [])
unfolding frame_number pick
number_more p b = rw (at_stx (frame_number p) b, count_more (is STX) p b) (go (is STX b))
  where
    go : (stx : Bool)
        → pick stx (next_frame (count_of (is STX) p % 65536)) (count_of (is STX) p % 65536)
        ≡ pick stx (suc (count_of (is STX) p)) (count_of (is STX) p) % 65536
    go true = next_remainder (count_of (is STX) p)
    go false = refl

-- so with bytes one after the other
pub after_counted : (p bs : List ℕ) → frame_after (frame_number p) bs ≡ frame_number (p ++ bs)
unfolding frame_after
after_counted p [] = rw (append-nil p)
after_counted p (b ∷ bs) = rw (number_more p b, ← append_snoc p b bs) (after_counted (p ++ b ∷ []) bs)

-- and by the remainder, whatever the number was
pub after_remainder : (n : ℕ) (bs : List ℕ) → frame_after n bs % 65536 ≡ frame_after (n % 65536) bs
unfolding frame_after
after_remainder n [] = refl
after_remainder n (b ∷ bs) = after_remainder (frame_at n (symbol_of b)) bs ∙ ap (λ k. frame_after k bs) (at (symbol_of b))
  where
    next : (last : Bool) → eqb n 65535 ≡ last → next_frame n % 65536 ≡ suc n % 65536
    next true e =
        let last = eqb-true n 65535 e in
        omega (arith, next_last n last)
    next false e = omega (arith, next_other n (eqb-false n 65535 e))

    at : (y : Symbol) → frame_at n y % 65536 ≡ frame_at (n % 65536) y
    at Stx = next (eqb n 65535) refl ∙ sym (next_remainder n)
    at Etx = refl
    at Eot = refl
    at Lf = refl
    at Cr = refl
    at Damaged = refl
    at (Text c) = refl

-- ---- What is said of the number by the bytes

-- it is their count
pub number_is : (bytes : List ℕ) → frame_number bytes ≡ count_of (is STX) bytes % 65536
unfolding frame_number
number_is bytes = refl

-- "0 when opened"
pub number_opened : frame_number [] ≡ 0
unfolding frame_number
number_opened = refl

-- "one more at every STX, 65,535 followed by 0"
pub number_next : (before : List ℕ) (b : ℕ)
    → frame_number (before ++ b ∷ [])
    ≡ pick (is STX b) (pick (eqb (frame_number before) 65535) 0 (suc (frame_number before))) (frame_number before)
unfolding frame_number pick
number_next before b = rw (count_more (is STX) before b) (go (is STX b))
  where
    k : ℕ
    k = count_of (is STX) before

    go : (stx : Bool)
        → pick stx (suc k) k % 65536 ≡ pick stx (pick (eqb (k % 65536) 65535) 0 (suc (k % 65536))) (k % 65536)
    go true = one_more k
    go false = refl

-- the number that comes with an answer
pub number_counted : (m : Mode) (before : List ℕ) (b : ℕ) (e : Framed Entry) → entry_due m before b ≡ some e
    → (e.frame ≡ count_of (is STX) (before ++ b ∷ []) % 65536) × (answer_due m before b ≡ some e.what)
unfolding frame_number
number_counted m before b e = go (answer_due m before b)
  where
    go : (o : Option Entry) → framed_if (frame_number (before ++ b ∷ [])) o ≡ some e
        → (e.frame ≡ count_of (is STX) (before ++ b ∷ []) % 65536) × (o ≡ some e.what)
    go none q = not_some q
    go (some a) q =
        let same : framed (frame_number (before ++ b ∷ [])) a ≡ e = cc in
        (sym (ap (λ (x : Framed Entry). x.frame) same), ap (λ (x : Framed Entry). some x.what) same)

-- bytes up to the first answer are no more than there are
pub up_most : (m : Mode) (before bs : List ℕ) → up_to_answer m before bs ≤ length bs
unfolding up_to_answer pick
up_most m before [] = omega arith
up_most m before (b ∷ bs) = go (is_answered (answer_due m before b)) (up_most m (before ++ b ∷ []) bs)
  where
    go : (here : Bool) → up_to_answer m (before ++ b ∷ []) bs ≤ length bs
        → pick here 1 (suc (up_to_answer m (before ++ b ∷ []) bs)) ≤ length (b ∷ bs)
    go true h = omega arith
    go false h = omega arith

-- the first answer has the number behind these
pub first_number : (m : Mode) (before bs : List ℕ) (e : Framed Entry) → first_entry (answers_due m before bs) ≡ some e
    → e.frame ≡ frame_number (before ++ take (up_to_answer m before bs) bs)
unfolding answers_due up_to_answer pick
first_number m before [] e q = not_some q
first_number m before (b ∷ bs) e q = go (answer_due m before b) (first_number m (before ++ b ∷ []) bs e) q
  where
    n : ℕ
    n = frame_number (before ++ b ∷ [])

    k : ℕ
    k = up_to_answer m (before ++ b ∷ []) bs

    go : (o : Option Entry)
        → (first_entry (answers_due m (before ++ b ∷ []) bs) ≡ some e
        → e.frame ≡ frame_number ((before ++ b ∷ []) ++ take k bs))
        → first_entry (entry_list (framed_if n o) ++ answers_due m (before ++ b ∷ []) bs) ≡ some e
        → e.frame ≡ frame_number (before ++ take (pick (is_answered o) 1 (suc k)) (b ∷ bs))
    go none more q = rw (← append_snoc before b (take k bs)) (more q)
    go (some a) more q =
        let same : framed n a ≡ e = cc in
        sym (ap (λ (x : Framed Entry). x.frame) same)

-- behind fewer than 65,536 STX it is the same exactly where there are none
pub number_same : (before bs : List ℕ) → count_of (is STX) bs < 65536
    → (frame_number (before ++ bs) ≡ frame_number before) ↔ (count_of (is STX) bs ≡ 0)
unfolding frame_number
number_same before bs h =
    rw (count_append (is STX) before bs) (
      λ e. omega (arith, e),
      λ e. rw e (omega arith),
    )

-- ---- Stretches of bytes, with the number

pub after_append : (mode : ℕ) (s : Framed State) (a b : List ℕ)
    → framed_after mode s (a ++ b) ≡ framed_after mode (framed_after mode s a) b
unfolding frame_after
after_append mode s a b = rw (bytes.after_append mode s.what a b, number s.frame a)
  where
    number : (n : ℕ) (a : List ℕ) → frame_after n (a ++ b) ≡ frame_after (frame_after n a) b
    number n [] = refl
    number n (x ∷ a) = number (frame_at n (symbol_of x)) a

pub after_none : (mode : ℕ) (s : Framed State) → framed_after mode s [] ≡ s
unfolding frame_after
after_none mode s = rw (until.after_none mode s.what)

-- the answers to two stretches are those to the first, then those to the second from the line after the first
pub answers_append : (mode : ℕ) (s : Framed State) (a b : List ℕ)
    → framed_answers mode s (a ++ b) ≡ framed_answers mode s a ++ framed_answers mode (framed_after mode s a) b
unfolding after frame_after framed_answers
answers_append mode s [] b = refl
answers_append mode s (x ∷ a) b =
    let n = frame_at s.frame (symbol_of x) in
    let more = framed n (step mode s.what x).state in
    ap (and_then (framed_if n (step mode s.what x).answer)) (answers_append mode more a b)
    ∙ then_append (framed_if n (step mode s.what x).answer) (framed_answers mode more a) _
  where
    then_append : (o : Option (Framed LineAnswer)) (p q : List (Framed LineAnswer)) → and_then o (p ++ q) ≡ and_then o p ++ q
    then_append none p q = refl
    then_append (some y) p q = refl

pub answers_none : (mode : ℕ) (s : Framed State) → framed_answers mode s [] ≡ []
unfolding framed_answers
answers_none mode s = refl

-- without their numbers they are the line's answers
pub answers_bare : (mode : ℕ) (s : Framed State) (bs : List ℕ)
    → map (λ (a : Framed LineAnswer). a.what) (framed_answers mode s bs) ≡ answers mode s.what bs
unfolding framed_answers answers
answers_bare mode s [] = refl
answers_bare mode s (b ∷ bs) =
    go (step mode s.what b).answer ∙ ap (and_then (step mode s.what b).answer) (answers_bare mode more bs)
  where
    n : ℕ
    n = frame_at s.frame (symbol_of b)

    more : Framed State
    more = framed n (step mode s.what b).state

    go : (o : Option LineAnswer)
        → map (λ (a : Framed LineAnswer). a.what) (and_then (framed_if n o) (framed_answers mode more bs))
        ≡ and_then o (map (λ (a : Framed LineAnswer). a.what) (framed_answers mode more bs))
    go none = refl
    go (some a) = refl

-- so they are as many
answers_many : (mode : ℕ) (s : Framed State) (bs : List ℕ)
    → length (framed_answers mode s bs) ≡ length (answers mode s.what bs)
answers_many mode s bs =
    sym (length-map (framed_answers mode s bs) (λ (a : Framed LineAnswer). a.what)) ∙ ap length (answers_bare mode s bs)

-- ---- Up to the first answer

-- one answer at most
pub until_one : (mode : ℕ) (s : Framed State) (bs : List ℕ)
    → length (framed_answers mode s (take (until_answer mode s.what bs) bs)) ≤ 1
until_one mode s bs = rw (answers_many mode s (take (until_answer mode s.what bs) bs)) (until.until_one mode s.what bs)

-- and bytes are left only behind one
pub until_stops : (mode : ℕ) (s : Framed State) (bs : List ℕ) → until_answer mode s.what bs < length bs
    → 1 ≤ length (framed_answers mode s (take (until_answer mode s.what bs) bs))
until_stops mode s bs h =
    rw (answers_many mode s (take (until_answer mode s.what bs) bs)) (until.until_stops mode s.what bs h)

-- what is so of a byte and those behind it, by its answer
module _ (mode : ℕ) (s : Framed State) (b : ℕ) (bs : List ℕ) (k : ℕ) where
  abbrev next_line : Framed State
  next_line = framed (frame_at s.frame (symbol_of b)) (step mode s.what b).state

  -- the first answer of a stretch up to the first answer is the first of the whole
  first_here : (o : Option LineAnswer) → (step mode s.what b).answer ≡ o
      → first_entry (map shown_framed (framed_answers mode next_line (take k bs)))
      ≡ first_entry (map shown_framed (framed_answers mode next_line bs))
      → first_entry (map shown_framed (framed_answers mode s (take (onward o k) (b ∷ bs))))
      ≡ first_entry (map shown_framed (framed_answers mode s (b ∷ bs)))
  unfolding framed_answers
  first_here none e h = rw e h
  first_here (some a) e h = rw e

  -- an answer that ends a stretch carries the number after the stretch
  last_here : (o : Option LineAnswer) → (step mode s.what b).answer ≡ o
      → framed_answers mode next_line (take k bs)
      ≡ map (framed (frame_after next_line.frame (take k bs))) (answers mode next_line.what (take k bs))
      → framed_answers mode s (take (onward o k) (b ∷ bs))
      ≡ map (framed (frame_after s.frame (take (onward o k) (b ∷ bs)))) (answers mode s.what (take (onward o k) (b ∷ bs)))
  unfolding framed_answers answers frame_after
  last_here none e h = rw e h
  last_here (some a) e h = rw e

pub until_first : (mode : ℕ) (s : Framed State) (bs : List ℕ)
    → first_entry (map shown_framed (framed_answers mode s (take (until_answer mode s.what bs) bs)))
    ≡ first_entry (map shown_framed (framed_answers mode s bs))
unfolding until_answer
until_first mode s [] = refl
until_first mode s (b ∷ bs) =
    first_here mode s b bs _ (step mode s.what b).answer refl (until_first mode (next_line mode s b bs 0) bs)

pub until_number : (mode : ℕ) (s : Framed State) (bs : List ℕ)
    → let taken = take (until_answer mode s.what bs) bs in
    framed_answers mode s taken ≡ map (framed (frame_after s.frame taken)) (answers mode s.what taken)
unfolding until_answer framed_answers answers
until_number mode s [] = refl
until_number mode s (b ∷ bs) =
    last_here mode s b bs _ (step mode s.what b).answer refl (until_number mode (next_line mode s b bs 0) bs)

-- ---- Without an STX

-- a byte that is none keeps the number
pub at_other : (n b : ℕ) → is STX b ≡ false → frame_at n (symbol_of b) ≡ n
unfolding pick
at_other n b e = rw (at_stx n b, e)

-- none is, where they count 0
none_counted : (b : ℕ) (bs : List ℕ) → count_of (is STX) (b ∷ bs) ≡ 0 → (is STX b ≡ false) × (count_of (is STX) bs ≡ 0)
unfolding pick
none_counted b bs = go (is STX b)
  where
    go : (stx : Bool) → pick stx (suc (count_of (is STX) bs)) (count_of (is STX) bs) ≡ 0
        → (stx ≡ false) × (count_of (is STX) bs ≡ 0)
    go true e = absurd (omega (arith, e))
    go false e = (refl, e)

-- all answers to such bytes have the number that the line had
pub one_number : (mode : ℕ) (s : Framed State) (bs : List ℕ) → count_of (is STX) bs ≡ 0
    → framed_answers mode s bs ≡ map (framed s.frame) (answers mode s.what bs)
unfolding framed_answers answers
one_number mode s [] e = refl
one_number mode s (b ∷ bs) e =
    let (other, rest) = none_counted b bs e in
    let more = one_number mode (framed s.frame (step mode s.what b).state) bs rest in
    rw (at_other s.frame b other, more) (go (step mode s.what b).answer (answers mode (step mode s.what b).state bs))
  where
    go : (o : Option LineAnswer) (more : List LineAnswer)
        → and_then (framed_if s.frame o) (map (framed s.frame) more) ≡ map (framed s.frame) (and_then o more)
    go none more = refl
    go (some a) more = refl
