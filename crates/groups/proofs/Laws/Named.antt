-- Conditions in a row that have the names of refusals, as the definitions do, and the same with document 01's numbers.
use Rattle.std.proofs.Common.{◌≡◌, Bool, true, false, not, ℕ, ◌≤◌, List, [], ◌∷◌, lit≤, refl}
use Rattle.characters.specs.Answers.{Answer, given, not_given, need, pick, first_of}
use Rattle.groups.specs.Numbers.{number_of_refusal, number_as}
use Rattle.groups.specs.declared.Refusal.{Refusal}
use Rattle.groups.specs.declared.Refusal.TheVariants.{
  TooLong,
  Misshapen,
  CheckWrong,
  LabelUnknown,
  StampWrong,
  WidthWrong,
  KindWrong,
  NoRoom,
  ModeUnknown,
}

module _ {A : Type 0} where
  -- the refusal of the first condition that holds, or the value where none does
  unfoldable pub first_refusal : List (Refusal × Bool) → A → Answer Refusal A
  first_refusal [] a = given a
  first_refusal ((refusal, holds) ∷ more) a = need (not holds) refusal (first_refusal more a)

-- the numbers of refusals begin with 8: none is that of a value, 0 or 1, or of a frame's end
pub refusal_number : (refusal : Refusal) → 8 ≤ number_of_refusal refusal
refusal_number TooLong = lit≤ tt
refusal_number Misshapen = lit≤ tt
refusal_number CheckWrong = lit≤ tt
refusal_number LabelUnknown = lit≤ tt
refusal_number StampWrong = lit≤ tt
refusal_number WidthWrong = lit≤ tt
refusal_number KindWrong = lit≤ tt
refusal_number NoRoom = lit≤ tt
refusal_number ModeUnknown = lit≤ tt

-- the same conditions with the numbers of the refusals
abbrev pub numbered : List (Refusal × Bool) → List (ℕ × Bool)
numbered [] = []
numbered ((refusal, holds) ∷ more) = (number_of_refusal refusal, holds) ∷ numbered more

module _ {A : Type 0} where
  -- the number of the first refusal is the number of the first condition
  pub first_number : (n : ℕ) (cs : List (Refusal × Bool)) (a : A) → number_as n (first_refusal cs a) ≡ first_of n (numbered cs)
  unfolding first_refusal need first_of pick
  first_number n [] a = refl
  first_number n ((refusal, true) ∷ more) a = refl
  first_number n ((refusal, false) ∷ more) a = first_number n more a

  -- the value is given where none holds, and no other
  pub first_given : (cs : List (Refusal × Bool)) (a b : A) → first_refusal cs a ≡ given b → a ≡ b
  unfolding first_refusal need
  first_given [] a b e = cc
  first_given ((refusal, true) ∷ more) a b e = not_given e
  first_given ((refusal, false) ∷ more) a b e = first_given more a b e
