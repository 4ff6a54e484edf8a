-- When the bytes of a group are accepted.
use Rattle.std.specs.Prelude.{◌≡◌, refl, ◌↔◌, Bool, true, false, List, ℕ, ltb, length}
use Rattle.std.proofs.Math.Option.{some}
use Rattle.std.proofs.Common.{le-ltb}
use Rattle.characters.specs.Answers.{Answer, refused, given, not_given, pick}
use Rattle.groups.specs.Modes.{mode_of}
use Rattle.groups.specs.Groups.{Group}
use Rattle.groups.specs.Judging.{judging}
use Rattle.groups.specs.Place.{place_of}
use Rattle.groups.specs.Right.{RightGroup}
use Rattle.groups.proofs.Laws.Short.{judged_short}
use Rattle.groups.proofs.Promises as groups
use Rattle.groups.specs.declared.Mode.{Mode}
use Rattle.groups.specs.declared.Refusal.{Refusal}
use Rattle.groups.specs.declared.Refusal.TheVariants.{TooLong}
use Rattle.line.specs.Lines.{of_group}
use Rattle.line.specs.Between.{any_damaged, text_of, group_answer}
use Rattle.line.specs.declared.Notice.TheVariants.{GroupDamaged, GroupRefused}

-- a group that is accepted is not damaged, and the reader accepted it
given_by : (damaged overlong : Bool) (a : Answer Refusal Group) (place : ℕ) (g : Group)
    → pick damaged (refused GroupDamaged) (pick overlong (refused (GroupRefused TooLong 0)) (of_group a place)) ≡ given g
    → (damaged ≡ false) × (a ≡ given g)
unfolding pick
given_by true overlong a place g e = not_given e
given_by false true a place g e = not_given e
given_by false false (refused refusal) place g e = not_given e
given_by false false (given own) place g e = (refl, cc)

-- bytes are accepted as a group exactly when none of them is damaged and the reader accepts their characters
pub group_accepted : (mode : ℕ) (bs : List ℕ) (g : Group)
    → (group_answer mode bs ≡ given g) ↔ ((any_damaged bs ≡ false) × (judging mode (text_of bs) ≡ given g))
unfolding group_answer pick
group_accepted mode bs g = (
  given_by (any_damaged bs) (ltb 128 (length (text_of bs))) (judging mode (text_of bs)) (place_of mode (text_of bs)) g,
  λ (sound, e). rw (sound, le-ltb 128 (length (text_of bs)) (judged_short mode (text_of bs) g e), e),
)

-- so exactly when none of them is damaged and their characters are, in the mode of this number, those of a right group
pub accepted_exactly : (mode : ℕ) (bs : List ℕ) (g : Group)
    → (group_answer mode bs ≡ given g)
    ↔ ((any_damaged bs ≡ false) × (m : Mode) × (mode_of mode ≡ some m) × RightGroup m (text_of bs) g)
accepted_exactly mode bs g =
    let accepted = group_accepted mode bs g in
    let right = groups.accepted_exactly mode (text_of bs) g in (
      λ e. let (sound, read) = accepted.0 e in let (m, k, is) = right.0 read in (sound, m, k, is),
      λ (sound, m, k, is). accepted.1 (sound, right.1 (m, k, is)),
    )
