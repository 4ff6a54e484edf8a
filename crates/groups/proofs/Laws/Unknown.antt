-- A number that is no mode's, however large: "19 now means a mode not 0 to 2" (document 02, M-100).
use Rattle.std.proofs.Common.{◌≡◌, refl, false, List, ℕ, zero, suc, ◌≤◌, ltb, ap, arith, ne_eqb, le-ltb}
use Rattle.std.proofs.Math.Option.{none}
use Rattle.characters.specs.Answers.{refused, found_no, pick}
use Rattle.groups.specs.Modes.{mode_of, is_known, is_mode}
use Rattle.groups.specs.Groups.{Group}
use Rattle.groups.specs.Judging.{judging}
use Rattle.groups.specs.Writing.{writing}
use Rattle.groups.specs.declared.Refusal.TheVariants.{ModeUnknown}

module _ (number : ℕ) (h : 3 ≤ number) where
  no_mode : mode_of number ≡ none
  unfolding mode_of pick
  no_mode = rw (ne_eqb number 0 (λ z. omega arith), ne_eqb number 1 (λ z. omega arith), ne_eqb number 2 (λ z. omega arith))

  pub not_mode : is_mode number ≡ false
  not_mode = ap is_known no_mode

  pub judging_no_mode : (c : List ℕ) → judging number c ≡ refused ModeUnknown
  unfolding judging
  judging_no_mode c = found_no _ _ no_mode

  pub writing_no_mode : (g : Group) (room : ℕ) → writing number g room ≡ refused ModeUnknown
  unfolding writing
  writing_no_mode g room = found_no _ _ no_mode

-- and 0, 1 and 2 are
pub known_below : (number : ℕ) → is_mode number ≡ ltb number 3
unfolding mode_of pick
known_below zero = refl
known_below (suc zero) = refl
known_below (suc (suc zero)) = refl
known_below (suc (suc (suc number))) =
    rw (not_mode (suc (suc (suc number))) (omega arith), le-ltb (suc (suc (suc number))) 3 (omega arith))
