-- When an ETX says "frame sound", by the bytes alone.
use Rattle.std.specs.Prelude.{◌≡◌, refl, ◌↔◌, false, not, ◌||◌, List, [], ◌∷◌, ◌++◌, ℕ, T, eqb}
use Rattle.std.proofs.Common.{sym, ap, ◌∙◌, arith, ne_eqb}
use Rattle.std.proofs.Math.Option.{Option, none, some}
use Rattle.std.proofs.Math.Facts.{and_yes, or_no, eqb_yes}
use Rattle.characters.specs.Answers.{refused, given, every_weaker, is_true, pick}
use Rattle.characters.specs.Wire.{is_sound, character_of, STX, ETX, EOT, LF, CR}
use Rattle.groups.specs.Modes.{mode_of}
use Rattle.groups.specs.Numbers.{number_of_refusal}
use Rattle.groups.proofs.Laws.Named.{refusal_number}
use Rattle.groups.proofs.Laws.Known.{mode_number}
use Rattle.groups.specs.declared.Mode.{Mode}
use Rattle.line.specs.Symbols.{sound_symbol, symbol_of}
use Rattle.line.specs.Lines.{LineAnswer, State, step, after, outside, in_frame}
use Rattle.line.specs.Between.{is_stx, group_answer, SoundFrame}
use Rattle.line.specs.Between as between
use Rattle.line.specs.Entries.{only}
use Rattle.line.specs.Numbers.{shown, shown_if}
use Rattle.line.specs.ByBytes.{is, open_frame, answer_due, RightFrame, empty, group}
use Rattle.line.proofs.Laws.Bytes.{after_append}
use Rattle.line.proofs.Laws.Frames.{stx_restarts, frame_sound}
use Rattle.line.proofs.Laws.LookingBack.{is_as, tests, passes, opened}
use Rattle.line.proofs.Laws.GroupsByBytes.{group_shown}
use Rattle.line.proofs.Laws.ByBytes.{answer_by_bytes}
use Rattle.line.proofs.Laws.AcceptedByBytes.{shown_given, group_right, right_group}
use Rattle.line.specs.declared.Notice.TheVariants.{
  FrameSound,
  FrameFlawed,
  FrameInterrupted,
  FrameRestarted,
  GroupRestarted,
  GroupDamaged,
  GroupRefused,
}
use Rattle.line.specs.declared.rules.Symbol.{Symbol}
use Rattle.line.specs.declared.rules.Symbol.TheVariants.{Stx, Etx, Eot, Lf, Cr, Damaged, Text}

-- ---- Symbols and tests

-- a sound byte of a character has the character's symbol
symbol_of_lem : (c b : ℕ) → T (is c b) → symbol_of b ≡ sound_symbol c
unfolding is symbol_of pick
symbol_of_lem c b t =
    let (sound, e) = and_yes (is_sound b) (eqb (character_of b) c) t in
    rw (is_true {b = is_sound b} sound, eqb_yes {a = character_of b} {b = c} e)

stx_symbol : (b : ℕ) → T (is STX b) → symbol_of b ≡ Stx
unfolding sound_symbol pick
stx_symbol b t = symbol_of_lem STX b t

etx_symbol : (b : ℕ) → T (is ETX b) → symbol_of b ≡ Etx
unfolding sound_symbol pick
etx_symbol b t = symbol_of_lem ETX b t

pub lf_symbol : (b : ℕ) → T (is LF b) → symbol_of b ≡ Lf
unfolding sound_symbol pick
lf_symbol b t = symbol_of_lem LF b t

pub cr_symbol : (b : ℕ) → T (is CR b) → symbol_of b ≡ Cr
unfolding sound_symbol pick
cr_symbol b t = symbol_of_lem CR b t

symbol_lf : (b : ℕ) → symbol_of b ≡ Lf → T (is LF b)
symbol_lf b e = rw ((tests b).3, e) tt

symbol_cr : (b : ℕ) → symbol_of b ≡ Cr → T (is CR b)
symbol_cr b e = rw ((tests b).4, e) tt

stx_as : (y : Symbol) → is_stx y ≡ is_as STX y
stx_as Stx = refl
stx_as Etx = refl
stx_as Eot = refl
stx_as Lf = refl
stx_as Cr = refl
stx_as Damaged = refl
stx_as (Text c) = refl

-- a byte that leaves the frame open is no STX
no_stx : (b : ℕ) → T (passes (is STX) (λ x. is ETX x || is EOT x) b) → T (not (is_stx (symbol_of b)))
no_stx b t = rw (stx_as (symbol_of b), ← (tests b).0) (or_no (is STX b) (is ETX b || is EOT b) t).0

-- ---- Frames

module _ (mode : ℕ) (m : Mode) (k : mode_of mode ≡ some m) where
  -- accepted groups, one behind the other, are right groups, one behind the other
  accepted_right : (bs : List ℕ) → SoundFrame mode bs → RightFrame m bs
  accepted_right [] between.empty = empty
  accepted_right bs (between.group lf cr inner more g l i a r s) =
      let (sound, right) = group_right m inner g i (sym (group_shown mode m inner k i) ∙ ap shown a) in
      group lf cr inner more g (symbol_lf lf l) sound right (symbol_cr cr r) (accepted_right more s)

  right_accepted : (bs : List ℕ) → RightFrame m bs → SoundFrame mode bs
  right_accepted [] empty = between.empty
  right_accepted bs (group lf cr inner more g l sound right r s) =
      let (i, a) = right_group m inner g sound right in
      between.group lf cr inner more g (lf_symbol lf l) i
      (shown_given (group_answer mode inner) g (group_shown mode m inner k i ∙ a)) (cr_symbol cr r) (right_accepted more s)

-- behind an STX the line is where it leads from a frame that has just begun
from_stx : (mode : ℕ) (front : List ℕ) (stx : ℕ) (since : List ℕ) → T (is STX stx)
    → after mode outside (front ++ stx ∷ since) ≡ after mode (in_frame false) since
unfolding after
from_stx mode front stx since t =
    after_append mode outside front (stx ∷ since)
    ∙ ap (λ (s : State). after mode s since) (stx_restarts mode (after mode outside front) stx (stx_symbol stx t))

-- the line's own answer
sound_answer : (mode : ℕ) (before since : List ℕ) (etx : ℕ) → open_frame before ≡ some since → T (is ETX etx)
    → ((step mode (after mode outside before) etx).answer ≡ some (refused FrameSound)) ↔ SoundFrame mode since
sound_answer mode before since etx e t =
    let (front, stx, q, i, n) = opened (is STX) (λ x. is ETX x || is EOT x) before since e in
    rw (q, from_stx mode front stx since i)
    (frame_sound mode since etx
    (every_weaker (passes (is STX) (λ x. is ETX x || is EOT x)) (λ b. not (is_stx (symbol_of b))) no_stx since n)
    (etx_symbol etx t))

-- 2 is the number of a sound frame alone
is_two : (a : LineAnswer) → T (eqb (shown a).number 2) → a ≡ refused FrameSound
is_two (given g) t = absurd t
is_two (refused FrameSound) t = refl
is_two (refused FrameFlawed) t = absurd t
is_two (refused FrameInterrupted) t = absurd t
is_two (refused FrameRestarted) t = absurd t
is_two (refused GroupRestarted) t = absurd t
is_two (refused GroupDamaged) t = absurd t
is_two (refused (GroupRefused r place)) t =
    absurd (rw (ne_eqb (number_of_refusal r) 2 (λ e. omega (arith, refusal_number r))) at t)

two_sound : (o : Option LineAnswer) → (shown_if o ≡ some (only 2)) ↔ (o ≡ some (refused FrameSound))
two_sound o = (go o, λ e. ap shown_if e)
  where
    go : (o : Option LineAnswer) → shown_if o ≡ some (only 2) → o ≡ some (refused FrameSound)
    go none e = absurd (let z : ◌≡◌ {A = ℕ} 0 1 = cc in omega arith)
    go (some a) e =
        let n : (shown a).number ≡ 2 = cc in
        ap (λ (x : LineAnswer). some x) (is_two a (rw n tt))

pub sound_by_bytes : (m : Mode) (before since : List ℕ) (etx : ℕ) → open_frame before ≡ some since → T (is ETX etx)
    → (answer_due m before etx ≡ some (only 2)) ↔ RightFrame m since
sound_by_bytes m before since etx e t =
    let (mode, k) = mode_number m in
    let own = sound_answer mode before since etx e t in
    let two = two_sound (step mode (after mode outside before) etx).answer in
    let due = answer_by_bytes mode m k before etx in (
      λ q. accepted_right mode m k since (own.0 (two.0 (due ∙ q))),
      λ r. sym due ∙ two.1 (own.1 (right_accepted mode m k since r)),
    )
