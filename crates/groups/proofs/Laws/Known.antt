-- In a mode that there is: its number, and when the first condition that holds is 8.
use Rattle.std.proofs.Common.{◌≡◌, refl, Bool, false, not, List, [], ◌∷◌, ℕ, ◌≤◌, ◌<◌, T, eqb, length, lt-ltb, le-ltb}
use Rattle.std.proofs.Math.Option.{some}
use Rattle.std.proofs.lemmas.Bool.{lt-leb}
use Rattle.std.proofs.Math.Facts.{and_yes}
use Rattle.characters.specs.Answers.{refused, found_yes, need, every, pick, by_pick, first_of}
use Rattle.groups.specs.Modes.{mode_of}
use Rattle.groups.specs.Groups.{read}
use Rattle.groups.specs.Judging.{judging}
use Rattle.groups.specs.Conditions.{conditions}
use Rattle.groups.specs.declared.Mode.{Mode}
use Rattle.groups.specs.declared.Mode.TheVariants.{Historic, Standard, Business}
use Rattle.groups.specs.declared.Refusal.TheVariants.{TooLong, ModeUnknown}

-- each mode has a number
pub mode_number : (m : Mode) → (number : ℕ) × (mode_of number ≡ some m)
unfolding mode_of pick
mode_number Historic = (0, refl)
mode_number Standard = (1, refl)
mode_number Business = (2, refl)

-- a content over 128 is too long to the reader
pub judged_long : (number : ℕ) (m : Mode) → mode_of number ≡ some m → (c : List ℕ) → 128 < length c
    → judging number c ≡ refused TooLong
unfolding judging read need
judged_long number m k c h = found_yes ModeUnknown _ k (rw (lt-leb (length c) 128 h))

-- ---- The first condition that holds

-- a number that no condition has is not the first
first_not : (k n : ℕ) (cs : List (ℕ × Bool)) → T (not (eqb n k)) → T (every (λ r. not (eqb r.0 k)) cs)
    → T (not (eqb (first_of n cs) k))
unfolding first_of
first_not k n [] t u = t
first_not k n ((j, holds) ∷ more) t u =
    let (own, rest) = and_yes (not (eqb j k)) (every (λ r. not (eqb r.0 k)) more) u in
    by_pick (λ (x : ℕ). T (not (eqb x k))) holds j (first_of n more) (λ h. own) (λ h. first_not k n more t rest)

-- 7 is the line's: no condition of a content has it
pub never_seven : (m : Mode) (c : List ℕ) → T (not (eqb (first_of 1 (conditions m c)) 7))
unfolding conditions
never_seven m c = first_not 7 1 (conditions m c) tt tt

-- 8 is the number of a content over 128
pub eight_long : (m : Mode) (c : List ℕ) → 128 < length c → first_of 1 (conditions m c) ≡ 8
unfolding conditions first_of pick
eight_long m c h = rw (lt-ltb 128 (length c) h)

-- a condition that does not hold leaves the first to the others
passed : (k n j : ℕ) (holds : Bool) (more : List (ℕ × Bool)) → holds ≡ false → T (not (eqb (first_of n more) k))
    → T (not (eqb (first_of n ((j, holds) ∷ more)) k))
unfolding first_of pick
passed k n j holds more e t = rw e t

-- and of no other
pub eight_short : (m : Mode) (c : List ℕ) → length c ≤ 128 → T (not (eqb (first_of 1 (conditions m c)) 8))
unfolding conditions
eight_short m c h = passed 8 1 8 _ _ (le-ltb 128 (length c) h) (first_not 8 1 _ tt tt)
