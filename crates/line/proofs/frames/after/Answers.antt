-- One more at an STX, and at no other byte.
use Rattle.std.proofs.Common.{◌≡◌, ◌∙◌, sym, ℕ, ◌+◌, ◌%◌, ◌<◌, Bool, true, false, eqb, refl, arith}
use Rattle.std.proofs.lemmas.Bool.{eqb-true, eqb-false}
use Rattle.characters.specs.Answers.{pick}
use Rattle.line.specs.FrameNumbers.{next_frame}
use Rattle.line.proofs.Laws.FrameNumbers.{at_stx, at_other}
use Rattle.line.proofs.Laws.NextFrame.{next_last, next_other}
use Rattle.line.proofs.frames.after.Goals as goal

-- 65,535 is followed by 0
next_wraps : (n : ℕ) → n < 65536 → next_frame n ≡ (n + 1) % 65536
next_wraps n h = go (eqb n 65535) refl
  where
    go : (last : Bool) → eqb n 65535 ≡ last → next_frame n ≡ (n + 1) % 65536
    go true e = let last = eqb-true n 65535 e in omega (arith, next_last n last)
    go false e = let other = eqb-false n 65535 e in omega (arith, next_other n other)

pub returns-then-is_stx : goal.returns-then-is_stx
unfolding pick
returns-then-is_stx c =
    rw (at_stx c.args.frame c.args.byte, sym c.is_stx.ensures ∙ c.if-is_stx.true) (omega (arith, next_wraps c.args.frame (omega arith)))

pub returns : goal.returns
returns c = sym (at_other c.args.frame c.args.byte (sym c.is_stx.ensures ∙ c.if-is_stx.false))
