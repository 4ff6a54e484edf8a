-- The stretches that judging shows stand where the places of the content say.
use Rattle.std.proofs.Common.{◌≡◌, refl, true, false, not, List, [], ◌∷◌, ◌++◌, ℕ, zero, suc, ◌+◌, ◌-◌, T, eqb, length, sym, ap, ◌∙◌, arith, ne_eqb}
use Rattle.std.proofs.Math.Option.{Option, none, some}
use Rattle.std.proofs.Math.Dec.{eqb_refl}
use Rattle.std.proofs.Math.Facts.{and_yes}
use Rattle.characters.specs.Answers.{Answer, refused, given, pick, pick_yes, pick_no, first_of, found}
use Rattle.groups.specs.Modes.{mode_of, separator}
use Rattle.groups.specs.Formats.{Rule}
use Rattle.groups.specs.Table.{rows, lookup}
use Rattle.groups.specs.Stamps.{is_stamped, stamp_right}
use Rattle.groups.specs.Groups.{Group, content, body, read}
use Rattle.groups.specs.Numbers.{number_of_refusal}
use Rattle.groups.specs.Judging.{judging, places_of, shown, stretches_of, stamp_span, stamp_stretch}
use Rattle.groups.specs.Place.{place_of, judgement}
use Rattle.groups.specs.Conditions.{first_at, final_place, label_of, conditions, marked_fields, fields_at}
use Rattle.groups.specs.Stretches.{
  six_numbers,
  no_stretches,
  stretches_by,
  stretches_as,
  stretches_in,
  stretches_due,
}
use Rattle.groups.specs.Inside.{stamp_room}
use Rattle.groups.proofs.Laws.Cuts.{free}
use Rattle.groups.proofs.Laws.Table.{listed_right}
use Rattle.groups.proofs.Laws.Groups.{stamp_length, body_length, content_length, read_given}
use Rattle.groups.proofs.Laws.Named.{refusal_number, first_given}
use Rattle.groups.proofs.Laws.Conditions.{named, read_by_conditions}
use Rattle.groups.proofs.Laws.Unknown.{judging_no_mode}
use Rattle.groups.proofs.Laws.ByNumber.{read_number}
use Rattle.groups.specs.declared.Mode.{Mode}
use Rattle.groups.specs.declared.Mode.TheVariants.{Historic, Standard, Business}
use Rattle.groups.specs.declared.Refusal.{Refusal}
use Rattle.groups.specs.declared.table.Mark.{Mark}
use Rattle.groups.specs.declared.table.Mark.TheVariants.{Unstamped, Letter, Space}

-- the first separator stands behind a text without one
first_behind : (s : ℕ) (l a : List ℕ) → T (free s l) → first_at s (l ++ s ∷ a) ≡ length l
unfolding first_at
first_behind s [] a t = pick_yes (eqb s s) _ _ (eqb_refl s)
first_behind s (x ∷ l) a t =
    let (u, v) = and_yes (not (eqb x s)) (free s l) t in
    pick_no (eqb x s) _ _ u ∙ ap suc (first_behind s l a v)

-- the six numbers of a group with this mark
numbers_by : (mark : Mark) (g : Group) (final : ℕ) → T (stamp_right mark g.stamp)
    → final ≡ length g.label + 1 + stamp_room (is_stamped mark) + length g.«data»
    → six_numbers (places_of g) ≡ stretches_by mark (length g.label) final
unfolding stamp_span stamp_stretch pick
numbers_by Unstamped g final t e =
    let n = stamp_length false Unstamped g.stamp t in
    let p : length g.label + 1 + 0 ≡ length g.label + 1 = omega arith in
    let q : final - (length g.label + 1) ≡ length g.«data» = omega arith in
    rw (n, p, q)
numbers_by Letter g final t e =
    let n = stamp_length true Letter g.stamp t in
    let p : length g.label + 1 + 14 ≡ length g.label + 15 = omega arith in
    let q : final - (length g.label + 15) ≡ length g.«data» = omega arith in
    rw (n, p, q)
numbers_by Space g final t e =
    let n = stamp_length true Space g.stamp t in
    let p : length g.label + 1 + 14 ≡ length g.label + 15 = omega arith in
    let q : final - (length g.label + 15) ≡ length g.«data» = omega arith in
    rw (n, p, q)

-- ---- Of a content that is read as a group

-- its label by places is that of its fields by places
marked_label : (m : Mode) (c : List ℕ) (o : Option Rule) → (marked_fields m c o).label ≡ label_of m c
marked_label m c none = refl
marked_label m c (some rule) = refl

module _ (m : Mode) (c : List ℕ) (g : Group) (e : read m c ≡ given g) where
  label_is : label_of m c ≡ g.label
  label_is =
      sym (marked_label m c (lookup (label_of m c) (rows m)))
      ∙ ap (λ (g : Group). g.label) (first_given (named m c) (fields_at m c) g (sym (read_by_conditions m c) ∙ e))

  first_is : first_at (separator m) c ≡ length g.label
  unfolding content
  first_is =
      let i = read_given m c g e in
      rw (← i.whole)
      (first_behind (separator m) g.label _ (listed_right m g.label i.rule i.listed).no_separator)

  given_numbers : six_numbers (places_of g) ≡ stretches_as (lookup (label_of m c) (rows m)) (first_at (separator m) c) (final_place c)
  given_numbers =
      let i = read_given m c g e in
      let r = i.rule in
      let b = is_stamped r.mark in
      let final : final_place c ≡ length g.label + 1 + stamp_room b + length g.«data» =
      omega (
        arith,
        ap {B = ℕ} length i.whole,
        content_length m g.label (body m b g.stamp g.«data»),
        body_length m b r.mark g.stamp g.«data» i.fields.stamp_is_right,
      ) in
      rw (label_is, i.listed, first_is) (numbers_by r.mark g (final_place c) i.fields.stamp_is_right final)

-- ---- All of it

read_numbers : (m : Mode) (c : List ℕ) (place : ℕ) → six_numbers (stretches_of (shown (read m c) place)) ≡ stretches_in m c
unfolding stretches_in pick
read_numbers m c place = go (read m c) refl
  where
    go : (a : Answer Refusal Group) → read m c ≡ a
        → six_numbers (stretches_of (shown a place))
        ≡ pick (eqb (first_of 1 (conditions m c)) 1)
        (stretches_as (lookup (label_of m c) (rows m)) (first_at (separator m) c) (final_place c))
        no_stretches
    go (refused refusal) e = rw (← (read_number m c), e, ne_eqb (number_of_refusal refusal) 1 (λ z. omega (arith, refusal_number refusal)))
    go (given g) e = rw (← (read_number m c), e) (given_numbers m c g e)

-- the stretches that judging shows are those by places
pub judged_stretches : (number : ℕ) (c : List ℕ) → six_numbers (stretches_of (judgement number c)) ≡ stretches_due number c
unfolding judging mode_of found pick stretches_due
judged_stretches zero c = read_numbers Historic c (place_of 0 c)
judged_stretches (suc zero) c = read_numbers Standard c (place_of 1 c)
judged_stretches (suc (suc zero)) c = read_numbers Business c (place_of 2 c)
judged_stretches (suc (suc (suc number))) c = rw (judging_no_mode (suc (suc (suc number))) (omega arith) c)
