-- The number that writing tells is that of document 01's conditions in a row.
use Rattle.std.proofs.Common.{◌≡◌, Bool, not, List, [], ◌∷◌, ℕ, zero, suc, T, leb, ltb, length, ap, ◌∙◌, ne_eqb, lt-ltb, arith, refl, true, false}
use Rattle.std.proofs.Math.Bool.{not-not}
use Rattle.std.proofs.Math.Option.{Option, none, some}
use Rattle.characters.specs.Answers.{Answer, refused, given, need, found, every, pick, first_of, from_true}
use Rattle.groups.specs.Modes.{mode_of}
use Rattle.groups.specs.Formats.{Rule, is_drawn}
use Rattle.groups.specs.Table.{rows, lookup}
use Rattle.groups.specs.Stamps.{is_stamped, stamp_as, stamp_right}
use Rattle.groups.specs.Fields.{width_right, kind_right, checked}
use Rattle.groups.specs.Groups.{Group, content, body, compose}
use Rattle.groups.specs.Numbers.{number_of_writing, number_as}
use Rattle.groups.specs.Writing.{on_the_wire, into, writing, told}
use Rattle.groups.specs.WriterConditions.{stamp_unfit, room_for_stamp, room_for, fields_unfit, written_when}
use Rattle.groups.specs.Made.{some_made}
use Rattle.groups.specs.Conditions.{outside}
use Rattle.groups.specs.Inside.{stamp_room}
use Rattle.groups.proofs.Laws.Table.{listed_right}
use Rattle.groups.proofs.Laws.Groups.{body_length, content_length}
use Rattle.groups.proofs.Laws.OnTheWire.{on_length}
use Rattle.groups.proofs.Laws.Made.{kind_agrees, width_agrees, le_or}
use Rattle.groups.proofs.Laws.Named.{first_refusal, first_number}
use Rattle.groups.proofs.Laws.Unknown.{writing_no_mode}
use Rattle.groups.specs.declared.Mode.{Mode}
use Rattle.groups.specs.declared.Mode.TheVariants.{Historic, Standard, Business}
use Rattle.groups.specs.declared.Refusal.{Refusal}
use Rattle.groups.specs.declared.Refusal.TheVariants.{LabelUnknown, StampWrong, WidthWrong, KindWrong, NoRoom}
use Rattle.groups.specs.declared.table.Mark.{Mark}
use Rattle.groups.specs.declared.table.Mark.TheVariants.{Unstamped, Letter, Space}

-- ---- The stamp

-- a right stamp is one that is fit to write
stamp_fit : (mark : Mark) (s : List ℕ) → stamp_right mark s ≡ not (stamp_unfit mark s)
unfolding stamp_as
stamp_fit Unstamped [] = refl
stamp_fit Unstamped (x ∷ s) = rw (lt-ltb 0 (suc (length s)) (omega arith), ne_eqb (suc (length s)) 0 (λ e. omega arith))
stamp_fit Letter [] = refl
stamp_fit Letter (x ∷ s) = rw (ne_eqb (suc (length s)) 0 (λ e. omega arith), not-not)
stamp_fit Space [] = refl
stamp_fit Space (x ∷ s) = rw (ne_eqb (suc (length s)) 0 (λ e. omega arith), not-not)

-- ---- The room

stamp_room_lem : (mark : Mark) → stamp_room (is_stamped mark) ≡ room_for_stamp mark
unfolding pick
stamp_room_lem Unstamped = refl
stamp_room_lem Letter = refl
stamp_room_lem Space = refl

module _ (m : Mode) (rule : Rule) (g : Group) (room : ℕ) where
  abbrev whole : List ℕ
  whole = content m g.label (body m (is_stamped rule.mark) g.stamp g.«data»)

  -- the bytes of a group with a right stamp, counted
  pub room_due : T (stamp_right rule.mark g.stamp) → length (on_the_wire whole) ≡ room_for rule.mark g
  unfolding room_for
  room_due t =
      let b = is_stamped rule.mark in
      omega (
        arith,
        on_length whole,
        content_length m g.label (body m b g.stamp g.«data»),
        body_length m b rule.mark g.stamp g.«data» t,
        stamp_room_lem rule.mark,
      )

  room_asked : T (stamp_right rule.mark g.stamp) → leb (length (on_the_wire whole)) room ≡ not (ltb room (room_for rule.mark g))
  room_asked t = rw (room_due t) (le_or (room_for rule.mark g) room)

  -- ---- The conditions by the names of their refusals

  abbrev named : List (Refusal × Bool)
  named =
      (LabelUnknown, false)
      ∷ (StampWrong, stamp_unfit rule.mark g.stamp)
      ∷ (WidthWrong, outside rule g.«data»)
      ∷ (KindWrong, not (some_made rule.formats g.«data»))
      ∷ (NoRoom, ltb room (room_for rule.mark g))
      ∷ []

  -- two tests, then the room: the same in a row
  asked_last : (w k : Bool) (c : List ℕ)
      → into room (need w WidthWrong (need k KindWrong (given c)))
      ≡ need w WidthWrong (need k KindWrong (need (leb (length (on_the_wire c)) room) NoRoom (given (on_the_wire c))))
  unfolding need into
  asked_last false k c = refl
  asked_last true false c = refl
  asked_last true true c = refl

  -- and with the test of the stamp before them
  asked : T (every is_drawn rule.formats) → (b : Bool) → stamp_right rule.mark g.stamp ≡ b
      → into room (checked rule g.stamp g.«data» whole) ≡ first_refusal named (on_the_wire whole)
  unfolding checked need into first_refusal
  asked drawn false e = rw (← (stamp_fit rule.mark g.stamp), e)
  asked drawn true e =
      rw (
        ← (stamp_fit rule.mark g.stamp),
        e,
        not-not (some_made rule.formats g.«data»),
        ← (width_agrees rule g.«data»),
        ← (kind_agrees rule g.«data» drawn),
        ← (room_asked (from_true e)),
      )
      (asked_last (width_right rule (length g.«data»)) (kind_right rule g.«data») whole)

-- ---- All of it

-- an answer's number as writing tells it
pub told_as : (a : Answer Refusal (List ℕ)) → number_of_writing (told a) ≡ number_as 0 a
told_as (refused refusal) = refl
told_as (given w) = refl

-- writing by the rule that the label has, if it has one
listed_told : (m : Mode) (g : Group) (room : ℕ) (o : Option Rule) → lookup g.label (rows m) ≡ o
    → number_as 0 (into room (found o LabelUnknown λ rule.
    checked rule g.stamp g.«data» (content m g.label (body m (is_stamped rule.mark) g.stamp g.«data»))))
    ≡ first_of 0 (fields_unfit g room o)
unfolding found into first_of pick
listed_told m g room none h = refl
listed_told m g room (some rule) h =
    ap (number_as 0) (asked m rule g room (listed_right m g.label rule h).all_drawn (stamp_right rule.mark g.stamp) refl)
    ∙ first_number 0 (named m rule g room) _

-- writing tells the number of the first condition that holds, and 0 where none does
pub written_first : (number : ℕ) (g : Group) (room : ℕ)
    → number_of_writing (told (writing number g room)) ≡ first_of 0 (written_when number g room)
unfolding writing compose found written_when first_of mode_of pick
written_first zero g room = told_as (writing 0 g room) ∙ listed_told Historic g room (lookup g.label (rows Historic)) refl
written_first (suc zero) g room = told_as (writing 1 g room) ∙ listed_told Standard g room (lookup g.label (rows Standard)) refl
written_first (suc (suc zero)) g room = told_as (writing 2 g room) ∙ listed_told Business g room (lookup g.label (rows Business)) refl
written_first (suc (suc (suc number))) g room = rw (writing_no_mode (suc (suc (suc number))) (omega arith) g room)
