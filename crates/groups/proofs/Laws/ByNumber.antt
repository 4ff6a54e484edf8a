-- The laws of reading and writing in a mode, for the number of a mode.
use Rattle.std.proofs.Common.{◌≡◌, ◌↔◌, Bool, true, false, List, [], ◌∷◌, ℕ, zero, suc, ◌+◌, ◌≤◌, T, length, sym, ap, ◌∙◌, subst, arith, le→leb, refl}
use Rattle.std.proofs.lemmas.Bool.{false≢true}
use Rattle.std.proofs.Math.Option.{some}
use Rattle.std.proofs.Math.Facts.{and_yes}
use Rattle.characters.specs.Answers.{Answer, refused, given, not_given, need_yes, need_given, found, found_yes, found_given, found_exactly, every, first_of, pick}
use Rattle.characters.specs.Wire.{is_sound}
use Rattle.groups.specs.Modes.{mode_of, is_mode}
use Rattle.groups.specs.Kinds.{within}
use Rattle.groups.specs.Groups.{Group, read, compose}
use Rattle.groups.specs.Numbers.{number_of_refusal, number_of, number_as}
use Rattle.groups.specs.Judging.{judging, shown}
use Rattle.groups.specs.Writing.{on_the_wire, off_the_wire, composing, into, writing}
use Rattle.groups.specs.Conditions.{conditions, given_when, fields_at}
use Rattle.groups.specs.Place.{place_of, judgement}
use Rattle.groups.specs.Right.{RightGroup}
use Rattle.groups.proofs.Laws.Groups.{read_exactly_written}
use Rattle.groups.proofs.Laws.Right.{right_exactly}
use Rattle.groups.proofs.Laws.Named.{first_number, first_given}
use Rattle.groups.proofs.Laws.Conditions.{named, named_numbers, read_by_conditions}
use Rattle.groups.proofs.Laws.OnTheWire.{are_plain, written_plain, written_small, on_length, off_on, on_sound}
use Rattle.groups.proofs.Laws.Unknown.{not_mode, judging_no_mode}
use Rattle.groups.specs.declared.Mode.{Mode}
use Rattle.groups.specs.declared.Mode.TheVariants.{Historic, Standard, Business}
use Rattle.groups.specs.declared.Refusal.{Refusal}

-- ---- Judging and composing

module _ (number : ℕ) (c : List ℕ) (g : Group) where
  -- judging accepts where there is a mode in which reading does
  pub judged_in : (judging number c ≡ given g) ↔ ((m : Mode) × (mode_of number ≡ some m) × (read m c ≡ given g))
  unfolding judging
  judged_in = found_exactly (mode_of number) _ _ g

  -- and so composing makes a content
  pub composed_in : (composing number g ≡ given c) ↔ ((m : Mode) × (mode_of number ≡ some m) × (compose m g ≡ given c))
  unfolding composing
  composed_in = found_exactly (mode_of number) _ _ c

  -- accepted exactly when written
  pub judged_composed : (judging number c ≡ given g) ↔ (composing number g ≡ given c)
  judged_composed = (
    λ e. let (m, k, h) = judged_in.0 e in composed_in.1 (m, k, (read_exactly_written m c g).0 h),
    λ e. let (m, k, h) = composed_in.0 e in judged_in.1 (m, k, (read_exactly_written m c g).1 h),
  )

  -- accepted exactly when right
  pub judged_right : (judging number c ≡ given g) ↔ ((m : Mode) × (mode_of number ≡ some m) × RightGroup m c g)
  judged_right = (
    λ e. let (m, k, h) = judged_in.0 e in (m, k, (right_exactly m c g).0 h),
    λ (m, k, h). judged_in.1 (m, k, (right_exactly m c g).1 h),
  )

  -- and each of them is HT or one of 0x20 to 0x7E
  pub judged_plain : judging number c ≡ given g → T (are_plain c)
  judged_plain e = let (m, k, h) = judged_in.0 e in written_plain m g c ((read_exactly_written m c g).0 h)

-- ---- Judging and the conditions

-- an answer's number as judging tells it
pub told_as : (a : Answer Refusal Group) (place : ℕ) → number_of (shown a place) ≡ number_as 1 a
told_as (refused refusal) place = refl
told_as (given g) place = refl

-- reading tells the number of the first condition that holds, and 1 where none does
pub read_number : (m : Mode) (c : List ℕ) → number_as 1 (read m c) ≡ first_of 1 (conditions m c)
read_number m c =
    rw (read_by_conditions m c, first_number 1 (named m c) (fields_at m c), named_numbers m c)

-- and so judging does
pub judged_first : (number : ℕ) (c : List ℕ)
    → number_of (judgement number c) ≡ first_of 1 (given_when number c)
unfolding judging mode_of found given_when first_of pick
judged_first zero c = told_as (judging 0 c) (place_of 0 c) ∙ read_number Historic c
judged_first (suc zero) c = told_as (judging 1 c) (place_of 1 c) ∙ read_number Standard c
judged_first (suc (suc zero)) c = told_as (judging 2 c) (place_of 2 c) ∙ read_number Business c
judged_first (suc (suc (suc number))) c = rw (judging_no_mode (suc (suc (suc number))) (omega arith) c)

module _ (number : ℕ) (m : Mode) (known : mode_of number ≡ some m) (c : List ℕ) where
  -- in a known mode judging is reading
  pub judged_read : judging number c ≡ read m c
  unfolding judging
  judged_read = found_yes _ _ known refl

  -- where a group is accepted none of the mode's conditions holds, and its fields are those by places
  pub accepted_due : (g : Group) → judging number c ≡ given g → (first_of 1 (conditions m c) ≡ 1) × (fields_at m c ≡ g)
  accepted_due g e =
      let r = sym judged_read ∙ e in
      (sym (read_number m c) ∙ ap (number_as 1) r, first_given (named m c) (fields_at m c) g (sym (read_by_conditions m c) ∙ r))

  -- where it is refused, the first condition that holds is this refusal's
  pub refused_due : (refusal : Refusal) → judging number c ≡ refused refusal
      → first_of 1 (conditions m c) ≡ number_of_refusal refusal
  refused_due refusal e = sym (read_number m c) ∙ ap (number_as 1) (sym judged_read ∙ e)

-- ---- The numbers of what judging tells

-- a number of 1 to 14, of a condition
abbrev is_judged : ℕ × Bool → Bool
is_judged r = within 1 14 r.0

-- conditions of such numbers make such a number
first_told : (cs : List (ℕ × Bool)) → T (every is_judged cs) → T (within 1 14 (first_of 1 cs))
unfolding first_of pick
first_told [] t = tt
first_told ((n, true) ∷ more) t = (and_yes (is_judged (n, true)) (every is_judged more) t).0
first_told ((n, false) ∷ more) t = first_told more (and_yes (is_judged (n, false)) (every is_judged more) t).1

-- judging in a known mode tells 1, or 8 to 14: "a mode not 0 to 2" and "lent buffer too short" are not its answers
pub judged_number : (number : ℕ) → is_mode number ≡ true → (c : List ℕ)
    → T (within 1 14 (number_of (judgement number c)))
unfolding given_when first_of pick conditions
judged_number zero e c = rw (judged_first 0 c) (first_told (conditions Historic c) tt)
judged_number (suc zero) e c = rw (judged_first 1 c) (first_told (conditions Standard c) tt)
judged_number (suc (suc zero)) e c = rw (judged_first 2 c) (first_told (conditions Business c) tt)
judged_number (suc (suc (suc number))) e c = absurd (false≢true (sym (not_mode (suc (suc (suc number))) (omega arith)) ∙ e))

-- ---- Writing

-- bytes that are given are those of a content
pub into_given : (room : ℕ) (a : Answer Refusal (List ℕ)) (w : List ℕ) → into room a ≡ given w
    → (c : List ℕ) × (a ≡ given c) × (on_the_wire c ≡ w)
unfolding into
into_given room (refused n) w e = not_given e
into_given room (given c) w e = let z = (need_given _ _ _ e).1 in (c, refl, cc)

-- bytes that are a group's: their content is accepted as the group, and they are its sound wire bytes
abbrev ReadsBack : ℕ → Group → List ℕ → Type 0
ReadsBack number g w = (judging number (off_the_wire w) ≡ given g) × (w ≡ on_the_wire (off_the_wire w)) × T (every is_sound w)

-- a content that is made, on the wire
reads_back : (number : ℕ) (m : Mode) (g : Group) (c : List ℕ) → mode_of number ≡ some m → compose m g ≡ given c
    → ReadsBack number g (on_the_wire c)
reads_back number m g c k e =
    let z = off_on c (written_small m g c e) in
    (rw z ((judged_in number c g).1 (m, k, (read_exactly_written m c g).1 e)), ap on_the_wire (sym z), on_sound c)

-- what is written reads back
pub written_back : (number : ℕ) (g : Group) (room : ℕ) (w : List ℕ) → writing number g room ≡ given w
    → ReadsBack number g w
unfolding writing
written_back number g room w e =
    let (m, k, h) = found_given _ _ _ e in
    let (c, i, q) = into_given room (compose m g) w h in
    subst (ReadsBack number g) q (reads_back number m g c k i)

-- what is accepted is written, where there is room for it
pub accepted_written : (number : ℕ) (c : List ℕ) (g : Group) (room : ℕ) → judging number c ≡ given g
    → length c + 2 ≤ room → writing number g room ≡ given (on_the_wire c)
unfolding writing into
accepted_written number c g room e h =
    let (m, k, i) = (judged_in number c g).0 e in
    let fits : length (on_the_wire c) ≤ room = rw on_length h in
    found_yes _ _ k (rw ((read_exactly_written m c g).0 i) (need_yes _ _ (le→leb _ _ fits) refl))
