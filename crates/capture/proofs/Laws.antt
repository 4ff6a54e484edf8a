-- Which letters begin a capture, and what line they open.
use Rattle.std.specs.Prelude.{◌≡◌, refl, Bool, true, false, [], ◌∷◌, map, ℕ, Option, Some, None}
use Rattle.std.proofs.Common.{sym, ne_eqb, arith}
use Rattle.characters.specs.Answers.{pick}
use Rattle.groups.specs.Modes.{is_mode}
use Rattle.groups.specs.Table.{codes}
use Rattle.line.specs.State.{state_of, opening_of}
use Rattle.line.proofs.Views.{opened_view}
use Rattle.line.proofs.Laws.Openings.{opening_known, opening_unknown}
use Rattle.line.specs.declared.LineState.{LineState}
use Rattle.line.specs.declared.rules.Phase.TheVariants.{Outside}
use Rattle.capture.specs.Letters.{Fresh, mode_by, opening_in}

-- a line that was opened is in its mode, and outside
opened_in : (mode : ℕ) (l : LineState) (known : Bool) → is_mode mode ≡ known → opening_of mode ≡ Some l
    → Fresh mode l
opened_in mode l true k e =
    let same : state_of mode 0 Outside 0 ≡ l = cc (opening_known mode k) in
    record { in_mode = rw (sym same); is_outside = λ content. rw (sym same) (opened_view mode 0 content) }
opened_in mode l false k e =
    let z : ◌≡◌ {A = ℕ} 0 1 = cc (opening_unknown mode k) in absurd (omega arith)

-- so is the line that a letter opens
fresh_in : (o : Option ℕ) (l : LineState) → opening_in o ≡ Some l → (mode : ℕ) × (o ≡ Some mode) × Fresh mode l
fresh_in None l e = let z : ◌≡◌ {A = ℕ} 0 1 = cc in absurd (omega arith)
fresh_in (Some mode) l e = (mode, refl, opened_in mode l (is_mode mode) refl e)

pub opened_fresh : (letter : ℕ) (l : LineState) → opening_in (mode_by letter) ≡ Some l
    → (mode : ℕ) × (mode_by letter ≡ Some mode) × Fresh mode l
opened_fresh letter = fresh_in (mode_by letter)

-- which letters they are
pub letters_known : map mode_by (codes "HSP") ≡ Some 0 ∷ Some 1 ∷ Some 2 ∷ []
unfolding mode_by pick
letters_known = refl

pub letter_unknown : (letter : ℕ) → (letter ≡ 0x48 → ⊥) → (letter ≡ 0x53 → ⊥) → (letter ≡ 0x50 → ⊥) → mode_by letter ≡ None
unfolding mode_by pick
letter_unknown letter h s p = rw (ne_eqb letter 0x48 h, ne_eqb letter 0x53 s, ne_eqb letter 0x50 p)
