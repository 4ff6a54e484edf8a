-- How many bytes a writing tells, and what it leaves of a buffer.
use Rattle.std.proofs.Common.{◌≡◌, refl, List, ◌++◌, ℕ, zero, suc, ◌+◌, ◌-◌, ◌≤◌, eqb, length, drop, get_or, sym, ap, ◌∙◌, subst, arith, leb→le, length-append, length-drop, get_or-append-add, get_or-drop, ne_eqb}
use Rattle.std.proofs.Math.Seq.{take-append_seam}
use Rattle.characters.specs.Answers.{Answer, refused, given, not_given, need_given, found, found_given, pick}
use Rattle.groups.specs.Modes.{mode_of}
use Rattle.groups.specs.Table.{rows, lookup}
use Rattle.groups.specs.Groups.{Group, compose}
use Rattle.groups.specs.Numbers.{number_of_refusal, number_as}
use Rattle.groups.specs.Writing.{on_the_wire, into, writing, told, count_of, left}
use Rattle.groups.specs.WriterConditions.{count_for, count_due, Leaves, bytes_of}
use Rattle.groups.proofs.Laws.Groups.{compose_given}
use Rattle.groups.proofs.Laws.Named.{refusal_number}
use Rattle.groups.proofs.Laws.Unknown.{writing_no_mode}
use Rattle.groups.proofs.Laws.ByNumber.{into_given}
use Rattle.groups.proofs.Laws.Writer.{room_due, told_as, written_first}
use Rattle.groups.specs.declared.Mode.{Mode}
use Rattle.groups.specs.declared.Mode.TheVariants.{Historic, Standard, Business}
use Rattle.groups.specs.declared.Refusal.{Refusal}

-- bytes that are given fit
into_fits : (room : ℕ) (a : Answer Refusal (List ℕ)) (w : List ℕ) → into room a ≡ given w → length w ≤ room
unfolding into
into_fits room (refused refusal) w e = not_given e
into_fits room (given c) w e =
    let (t, q) = need_given _ _ _ e in
    let z : on_the_wire c ≡ w = cc in
    subst (λ (w : List ℕ). length w ≤ room) z (leb→le _ room t)

-- and are as many as were counted
in_mode_count : (m : Mode) (g : Group) (room : ℕ)
    → count_of (told (into room (compose m g)))
    ≡ pick (eqb (number_as 0 (into room (compose m g))) 0) (count_for g (lookup g.label (rows m))) 0
unfolding pick
in_mode_count m g room = go (into room (compose m g)) refl
  where
    go : (a : Answer Refusal (List ℕ)) → into room (compose m g) ≡ a
        → count_of (told a) ≡ pick (eqb (number_as 0 a) 0) (count_for g (lookup g.label (rows m))) 0
    go (refused refusal) e = rw (ne_eqb (number_of_refusal refusal) 0 (λ z. omega (arith, refusal_number refusal)))
    go (given w) e =
        let (c, k, q) = into_given room (compose m g) w e in
        let i = compose_given m c g k in
        sym (ap {B = ℕ} length q)
        ∙ sym (ap {B = ℕ} (λ (c : List ℕ). length (on_the_wire c)) i.whole)
        ∙ room_due m i.rule g room i.fields.stamp_is_right
        ∙ sym (ap {B = ℕ} (count_for g) i.listed)

pub written_counted : (number : ℕ) (g : Group) (room : ℕ) → count_of (told (writing number g room)) ≡ count_due number g room
unfolding writing found mode_of pick count_due
written_counted zero g room =
    in_mode_count Historic g room
    ∙ rw (← (told_as (writing 0 g room)), written_first 0 g room)
written_counted (suc zero) g room =
    in_mode_count Standard g room
    ∙ rw (← (told_as (writing 1 g room)), written_first 1 g room)
written_counted (suc (suc zero)) g room =
    in_mode_count Business g room
    ∙ rw (← (told_as (writing 2 g room)), written_first 2 g room)
written_counted (suc (suc (suc number))) g room = rw (writing_no_mode (suc (suc (suc number))) (omega arith) g room)

-- a buffer with room for the bytes
left_over : (a : Answer Refusal (List ℕ)) (buffer : List ℕ) → length (bytes_of a) ≤ length buffer
    → Leaves (bytes_of a) buffer (left a buffer)
left_over (refused refusal) buffer h = record { begins = refl; unchanged = λ i k. refl; as_long = refl }
left_over (given w) buffer h =
    record {
      begins = take-append_seam w _;
      unchanged = behind;
      as_long = simp length-append (rw length-drop (omega arith));
    }
  where
    behind : (i : ℕ) → length w ≤ i → get_or (w ++ drop (length w) buffer) i 0 ≡ get_or buffer i 0
    behind i k =
        let e : i ≡ length w + (i - length w) = omega arith in
        rw e (get_or-append-add w (drop (length w) buffer) (i - length w) 0 ∙ get_or-drop (length w) buffer (i - length w) 0)

-- what a writing leaves of a buffer
pub written_left : (number : ℕ) (g : Group) (buffer : List ℕ)
    → Leaves (bytes_of (writing number g (length buffer))) buffer (left (writing number g (length buffer)) buffer)
unfolding writing
written_left number g buffer = left_over (writing number g (length buffer)) buffer (fits (writing number g (length buffer)) refl)
  where
    fits : (a : Answer Refusal (List ℕ)) → writing number g (length buffer) ≡ a → length (bytes_of a) ≤ length buffer
    fits (refused refusal) e = omega arith
    fits (given w) e = let (m, k, h) = found_given _ _ _ e in into_fits (length buffer) (compose m g) w h
