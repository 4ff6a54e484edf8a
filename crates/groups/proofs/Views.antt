-- From the code's own types back to the definitions.
use Rattle.std.proofs.Common.{◌≡◌, refl, ap, Bool, true, false, List, Ok, Err, is_ok, length, ℕ}
use Rattle.std.proofs.Math.Option.{Option, none, some}
use Rattle.characters.specs.Answers.{Answer, refused, given, need, found}
use Rattle.groups.specs.Formats.{Rule}
use Rattle.groups.specs.Fields.{checked, width_right, kind_right}
use Rattle.groups.specs.Stamps.{stamp_right}
use Rattle.groups.specs.Modes.{mode_of, is_known, known_mode}
use Rattle.groups.specs.Groups.{read}
use Rattle.groups.specs.Judging.{judging}
use Rattle.groups.specs.Inside.{result_of, RightFields}
use Rattle.groups.proofs.Laws.Tests.{zero_is_not_one}
use Rattle.groups.proofs.Laws.Groups.{checked_given}
use Rattle.groups.specs.declared.Mode.{Mode}
use Rattle.groups.specs.declared.Refusal.{Refusal}
use Rattle.groups.specs.declared.Refusal.TheVariants.{StampWrong, WidthWrong, KindWrong, ModeUnknown}

pub known_is_ok : (o : Option Mode) → is_ok (known_mode o) ≡ is_known o
known_is_ok none = refl
known_is_ok (some m) = refl

pub known_none : (o : Option Mode) {refusal : Refusal} → known_mode o ≡ Err refusal → (o ≡ none) × (refusal ≡ ModeUnknown)
known_none none e = (refl, cc)
known_none (some m) e = let z : ◌≡◌ {A = ℕ} 0 1 = cc in absurd (zero_is_not_one z)

pub known_some : (o : Option Mode) {m : Mode} → known_mode o ≡ Ok m → o ≡ some m
known_some none e = let z : ◌≡◌ {A = ℕ} 0 1 = cc in absurd (zero_is_not_one z)
known_some (some n) e = cc

-- a value that is accepted is given; a refusal is the same whatever value was asked for
result_given : {A : Type 0} (a : Answer Refusal A) (b : A) → result_of a ≡ Ok b → a ≡ given b
result_given (refused n) b e = let z : ◌≡◌ {A = ℕ} 0 1 = cc in absurd (zero_is_not_one z)
result_given (given k) b e = let z : k ≡ b = cc in ap given z

result_refused : {A : Type 0} (a : Answer Refusal A) (n : Refusal) → result_of a ≡ Err n → a ≡ refused n
result_refused (refused k) n e = let z : k ≡ n = cc in ap refused z
result_refused (given b) n e = let z : ◌≡◌ {A = ℕ} 0 1 = cc in absurd (zero_is_not_one z)

pub fit_right : {A : Type 0} (r : Rule) (s d : List ℕ) (a : A) → result_of (checked r s d a) ≡ Ok a
    → RightFields r s d
fit_right r s d a e = (checked_given r s d a (result_given (checked r s d a) a e)).0

pub fit_wrong : {A B : Type 0} (r : Rule) (s d : List ℕ) (a : A) (b : B) (n : Refusal)
    → result_of (checked r s d a) ≡ Err n → checked r s d b ≡ refused n
unfolding checked need
fit_wrong {A} {B} r s d a b n e =
    result_refused (checked r s d b) n (alike (stamp_right r.mark s) (width_right r (length d)) (kind_right r d) e)
  where
    alike : (x y z : Bool)
        → result_of (need x StampWrong (need y WidthWrong (need z KindWrong (given a)))) ≡ Err n
        → result_of (need x StampWrong (need y WidthWrong (need z KindWrong (given b)))) ≡ Err n
    alike true true true e = let z : ◌≡◌ {A = ℕ} 0 1 = cc in absurd (zero_is_not_one z)
    alike true true false e = let z : KindWrong ≡ n = cc in ap Err z
    alike true false z e = let y : WidthWrong ≡ n = cc in ap Err y
    alike false y z e = let x : StampWrong ≡ n = cc in ap Err x

pub in_mode : (k : ℕ) (c : List ℕ) (m : Mode) → mode_of k ≡ some m → judging k c ≡ read m c
unfolding judging found
in_mode k c m e = rw e

pub no_mode : (k : ℕ) (c : List ℕ) → mode_of k ≡ none → judging k c ≡ refused ModeUnknown
unfolding judging found
no_mode k c e = rw e
