-- One group in a frame: LF, bytes that are no sound control characters, CR.
use Rattle.std.specs.Prelude.{◌≡◌, refl, Bool, true, false, ◌||◌, ℕ, T, ltb, length, take}
use Rattle.std.proofs.Common.{ap, ◌∙◌, arith, length-append, length-take-le, take_all, lt-ltb, le-ltb}
use Rattle.std.proofs.Math.Bool.{or-true, or-false}
use mathlib.Core.List.{List, [], ◌∷◌, ◌++◌, append-nil}
use Rattle.std.proofs.lemmas.List.{take-append-le}
use Rattle.std.proofs.Math.Seq.{append_snoc}
use Rattle.std.proofs.Math.Facts.{and_yes}
use Rattle.characters.specs.Answers.{refused, pick}
use Rattle.groups.proofs.Laws.Tests.{split}
use Rattle.line.specs.Symbols.{symbol_of}
use Rattle.line.specs.Lines.{
  State,
  added,
  verdict,
  is_refused,
  after,
  answers,
  in_frame,
}
use Rattle.line.specs.Between.{is_inner, is_damaged, no_control, any_damaged, with_text, text_of, group_answer}
use Rattle.line.proofs.Laws.Bytes.{after_append, answers_append, after_at, answers_at}
use Rattle.line.specs.declared.Notice.TheVariants.{GroupDamaged}
use Rattle.line.specs.declared.rules.Symbol.{Symbol}
use Rattle.line.specs.declared.rules.Symbol.TheVariants.{Stx, Etx, Eot, Lf, Cr, Damaged, Text}
use Rattle.line.specs.declared.rules.Phase.TheVariants.{Group}

-- ---- What a group keeps

-- the line in a group of these characters so far
abbrev pub keeps : Bool → Bool → List ℕ → State
keeps flaw damaged t = record { phase = Group flaw damaged (ltb 128 (length t)); content = take 128 t }

-- one character more
pub added_keeps : (flaw damaged : Bool) (t : List ℕ) (c : ℕ)
    → added flaw damaged (ltb 128 (length t)) (take 128 t) c ≡ keeps flaw damaged (t ++ c ∷ [])
unfolding added pick
added_keeps flaw damaged t c =
    let n = length-append t (c ∷ []) in
    split 128 (length t)
    (λ p.
    rw (
      take-append-le 128 t (c ∷ []) p,
      lt-ltb 128 (length (t ++ c ∷ [])) (omega arith),
      length-take-le 128 t p,
    ))
    (λ p.
    rw (
      take_all 128 t (omega arith),
      take_all 128 (t ++ c ∷ []) (omega arith),
      le-ltb 128 (length (t ++ c ∷ [])) (omega arith),
      le-ltb 128 (length t) (omega arith),
      lt-ltb (length t) 128 p,
    ))

-- ---- The bytes between LF and CR

-- they give no answer, and the group keeps their characters
abbrev Inside : ℕ → Bool → Bool → List ℕ → List ℕ → Type 0
Inside mode flaw damaged t bs =
    (after mode (keeps flaw damaged t) bs ≡ keeps flaw (damaged || any_damaged bs) (t ++ text_of bs))
    × (answers mode (keeps flaw damaged t) bs ≡ [])

-- so it is with one of them in front of others
inside_step : (mode : ℕ) (flaw damaged : Bool) (t : List ℕ) (b : ℕ) (bs : List ℕ)
    → ((damaged : Bool) (t : List ℕ) → Inside mode flaw damaged t bs) → (y : Symbol) → symbol_of b ≡ y → T (is_inner y)
    → (after mode (keeps flaw damaged t) (b ∷ bs)
    ≡ keeps flaw (damaged || (is_damaged y || any_damaged bs)) (t ++ with_text y (text_of bs)))
    × (answers mode (keeps flaw damaged t) (b ∷ bs) ≡ [])
inside_step mode flaw damaged t b bs ih Stx e i = absurd i
inside_step mode flaw damaged t b bs ih Etx e i = absurd i
inside_step mode flaw damaged t b bs ih Eot e i = absurd i
inside_step mode flaw damaged t b bs ih Lf e i = absurd i
inside_step mode flaw damaged t b bs ih Cr e i = absurd i
inside_step mode flaw damaged t b bs ih Damaged e i =
    let s = keeps flaw damaged t in
    rw (after_at mode s b bs e, answers_at mode s b bs e, or-true damaged) (ih true t)
inside_step mode flaw damaged t b bs ih (Text c) e i =
    let s = keeps flaw damaged t in
    rw (
      after_at mode s b bs e,
      answers_at mode s b bs e,
      added_keeps flaw damaged t c,
      ← append_snoc t c (text_of bs),
    ) (ih damaged (t ++ c ∷ []))

-- and so with all of them
inside : (mode : ℕ) (flaw damaged : Bool) (t bs : List ℕ) → T (no_control bs) → Inside mode flaw damaged t bs
unfolding after answers
inside mode flaw damaged t [] i = (rw (append-nil t, or-false damaged), refl)
inside mode flaw damaged t (b ∷ bs) i =
    let j = and_yes (is_inner (symbol_of b)) (no_control bs) i in
    inside_step mode flaw damaged t b bs (λ damaged t. inside mode flaw damaged t bs j.1) (symbol_of b) refl j.0

-- ---- The whole group

-- the verdict on what a group of these bytes keeps is the one answer to them
pub verdict_is : (mode : ℕ) (bs : List ℕ)
    → verdict mode (any_damaged bs) (ltb 128 (length (text_of bs))) (take 128 (text_of bs)) ≡ group_answer mode bs
unfolding verdict group_answer pick
verdict_is mode bs =
    let t = text_of bs in
    ap (pick (any_damaged bs) (refused GroupDamaged))
    (split (length t) 128
    (λ p. rw (take_all 128 t p))
    (λ p. rw (lt-ltb 128 (length t) p)))

-- after LF and such bytes in a frame the line is in the group that keeps their characters
pub group_opened : (mode : ℕ) (flaw : Bool) (lf : ℕ) (bs : List ℕ) → symbol_of lf ≡ Lf → T (no_control bs)
    → after mode (in_frame flaw) (lf ∷ bs) ≡ keeps flaw (any_damaged bs) (text_of bs)
group_opened mode flaw lf bs el i = after_at mode (in_frame flaw) lf bs el ∙ (inside mode flaw false [] bs i).0

-- LF and such bytes give no answer
pub group_quiet : (mode : ℕ) (flaw : Bool) (lf : ℕ) (bs : List ℕ) → symbol_of lf ≡ Lf → T (no_control bs)
    → answers mode (in_frame flaw) (lf ∷ bs) ≡ []
group_quiet mode flaw lf bs el i = answers_at mode (in_frame flaw) lf bs el ∙ (inside mode flaw false [] bs i).1

module _ (mode : ℕ) (flaw : Bool) (lf cr : ℕ) (bs : List ℕ) (el : symbol_of lf ≡ Lf) (er : symbol_of cr ≡ Cr) (i : T (no_control bs)) where
  -- LF, such bytes and CR in a frame have one answer
  pub group_answered : answers mode (in_frame flaw) (lf ∷ (bs ++ cr ∷ [])) ≡ group_answer mode bs ∷ []
  unfolding answers
  group_answered =
      answers_append mode (in_frame flaw) (lf ∷ bs) (cr ∷ [])
      ∙ rw (
        group_quiet mode flaw lf bs el i,
        group_opened mode flaw lf bs el i,
        answers_at mode (keeps flaw (any_damaged bs) (text_of bs)) cr [] er,
        verdict_is mode bs,
      )

  -- and then the line is in the frame again, which has a flaw if it had one or if that was a refusal
  pub group_ends : after mode (in_frame flaw) (lf ∷ (bs ++ cr ∷ [])) ≡ in_frame (flaw || is_refused (group_answer mode bs))
  unfolding after
  group_ends =
      after_append mode (in_frame flaw) (lf ∷ bs) (cr ∷ [])
      ∙ rw (
        group_opened mode flaw lf bs el i,
        after_at mode (keeps flaw (any_damaged bs) (text_of bs)) cr [] er,
        verdict_is mode bs,
      )
