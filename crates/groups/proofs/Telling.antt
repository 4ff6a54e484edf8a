-- What is told with a place, at each step of the reader.
use Rattle.std.proofs.Common.{◌≡◌, refl, sym, ◌∙◌, Bool, true, false, not, List, ℕ, ◌+◌, ◌-◌, ◌<◌, ◌≤◌, arith, T, eqb, Ok, Err, length, take, drop, length-drop, length-take-le}
use Rattle.std.proofs.Math.Option.{some}
use Rattle.characters.specs.Answers.{Answer, refused, given, pick}
use Rattle.groups.specs.Modes.{mode_of, known_mode, separator}
use Rattle.groups.specs.Formats.{Rule}
use Rattle.groups.specs.Table.{lookup, rows}
use Rattle.groups.specs.Stamps.{is_stamped}
use Rattle.groups.specs.Fields.{checked}
use Rattle.groups.specs.Groups.{Group, group_of, fields_of, behind_label, read}
use Rattle.groups.specs.Numbers.{number_of_refusal}
use Rattle.groups.specs.Judging.{places_of, stamp_span}
use Rattle.groups.specs.Conditions.{first_at, label_of, body_of, data_in}
use Rattle.groups.specs.Place.{place_for, place_by, place_of, judgement}
use Rattle.groups.specs.Inside.{refused_at, told_at, finished, told_of, told_behind, judged_in, stamp_room}
use Rattle.groups.proofs.Laws.Tests.{split}
use Rattle.groups.proofs.Laws.Places.{behind_short, read_cut}
use Rattle.groups.proofs.Laws.Conditions.{rest_front}
use Rattle.groups.proofs.Laws.Place.{no_place}
use Rattle.groups.proofs.Views.{in_mode, no_mode, known_none, known_some}
use Rattle.groups.specs.declared.Mode.{Mode}
use Rattle.groups.specs.declared.Refusal.{Refusal}
use Rattle.groups.specs.declared.Refusal.TheVariants.{Misshapen, StampWrong}

module _ (a : Answer Refusal Group) (next wrong : ℕ) where
  -- a refusal that is neither 12 nor 14 tells 0
  pub told_nowhere : (r : Refusal) → T (not (eqb (number_of_refusal r) 12)) → T (not (eqb (number_of_refusal r) 14))
      → a ≡ refused r → refused_at r 0 ≡ told_at a next wrong
  told_nowhere r h k e = rw (e, no_place (number_of_refusal r) next wrong h k)

  -- a wrong stamp tells the place after the label's separator
  pub told_next : a ≡ refused StampWrong → refused_at StampWrong next ≡ told_at a next wrong
  unfolding place_for pick
  told_next e = rw e

  -- any refusal tells the place of its number, and an accepted group 0
  pub told_refused : (r : Refusal) (place : ℕ) → place ≡ place_for (number_of_refusal r) next wrong → a ≡ refused r
      → refused_at r place ≡ told_at a next wrong
  told_refused r place p e = rw (e, p)

  pub told_accepted : (g : Group) → a ≡ given g → Ok (places_of g) ≡ told_at a next wrong
  told_accepted g e = rw e

-- data stand behind the stamp and its separator
data_behind : (k : Bool) (b : List ℕ) → data_in k b ≡ drop (stamp_room k) b
unfolding data_in pick
data_behind true b = refl
data_behind false b = refl

-- the fields of a body that is parted at its stamp's end
pub told_fields : (m : Mode) (rule : Rule) (label b : List ℕ) (end : ℕ) → end ≤ length b
    → stamp_span end ≡ stamp_room (is_stamped rule.mark)
    → fields_of m rule label b ≡ checked rule (take end b) (drop (stamp_span end) b) (group_of label (take end b) (drop (stamp_span end) b))
    → finished rule (group_of label (take end b) (drop (stamp_span end) b)) ≡ told_of m rule label b
told_fields m rule label b end h s e =
    rw (e, length-take-le end b h, data_behind (is_stamped rule.mark) b, ← s)

-- a label whose rule is found
pub told_listed : (m : Mode) (rule : Rule) (label rest : List ℕ)
    → behind_label m label rest ≡ fields_of m rule label (take (length rest - 2) rest) → lookup label (rows m) ≡ some rule
    → told_of m rule label (take (length rest - 2) rest) ≡ told_behind m label rest
told_listed m rule label rest e o = rw (e, o)

-- a content that is cut at its first separator
pub told_cut : (m : Mode) (c : List ℕ) (at : ℕ) → at ≡ first_at (separator m) c → length c ≤ 128 → at < length c → 1 ≤ at
    → told_behind m (take at c) (drop (at + 1) c) ≡ judged_in m c
unfolding label_of body_of
told_cut m c at e h k z =
    let cut = read_cut m c at e h k z in
    let rest = drop (at + 1) c in
    split 2 (length rest)
    (λ long.
    let n = length-drop (at + 1) c in
    let front = rest_front c (at + 1) 2 (omega arith) in
    rw (cut, length-take-le at c (omega arith), front, ← e))
    (λ short.
    let no = behind_short m (take at c) rest short in
    sym (told_nowhere (behind_label m (take at c) rest) _ _ Misshapen tt tt no)
    ∙ told_nowhere (read m c) _ _ Misshapen tt tt (cut ∙ no))

-- a mode that there is, and one that there is not
pub told_in : (number : ℕ) {m : Mode} (c : List ℕ) → known_mode (mode_of number) ≡ Ok m → judged_in m c ≡ judgement number c
unfolding place_of place_by
told_in number {m} c h = let e = known_some (mode_of number) h in rw (in_mode number c m e, e)

pub told_no_mode : (number : ℕ) {r : Refusal} (c : List ℕ) → known_mode (mode_of number) ≡ Err r → refused_at r 0 ≡ judgement number c
unfolding place_of
told_no_mode number c h = let (e, r) = known_none (mode_of number) h in rw (r, no_mode number c e, e)
