-- The place of a group's answer on a line, by its bytes (document 02, M-104).
use Rattle.std.specs.Prelude.{◌≡◌, Bool, List, [], ◌∷◌, ◌++◌, map, ℕ, T, eqb, take}
use Rattle.std.proofs.Math.Path.{refl}
use Rattle.std.proofs.Common.{sym, ◌∙◌, subst}
use Rattle.std.proofs.Math.Bool.{true, false, not}
use Rattle.std.proofs.Math.Option.{some}
use Rattle.characters.specs.Answers.{every, pick, is_false, first_of}
use Rattle.characters.specs.Wire.{is_sound, character_of}
use Rattle.groups.specs.Modes.{mode_of, separator}
use Rattle.groups.specs.Groups.{Group}
use Rattle.groups.specs.Conditions.{label_of, conditions, fields_at}
use Rattle.groups.specs.Place.{place_of, place_by}
use Rattle.groups.specs.FirstWrong.{WrongDataAt}
use Rattle.groups.proofs.Laws.Known.{mode_number}
use Rattle.groups.proofs.Laws.Place as place
use Rattle.groups.specs.declared.Mode.{Mode}
use Rattle.line.specs.Entries.{accepted, refused_at}
use Rattle.line.specs.ByBytes.{numbered, group_due}
use Rattle.line.proofs.Laws.GroupsByBytes.{numbered_is, not_number}

-- an answer that is not 1 has the place that it is given
numbered_place : (n : ℕ) (g : Group) (place : ℕ) → T (not (eqb n 1)) → (numbered n g place).place ≡ place
unfolding pick
numbered_place n g place t = rw (is_false {b = eqb n 1} t)

module _ (m : Mode) (bs : List ℕ) where
  -- the number that decides it
  abbrev first : ℕ
  first = first_of 1 ((7, not (every is_sound bs)) ∷ conditions m (map character_of bs))

  due_first : (group_due m bs).number ≡ first
  unfolding group_due
  due_first = numbered_is first (fields_at m (map character_of bs)) _

  due_place : T (not (eqb first 1)) → (group_due m bs).place ≡ place_by m (map character_of bs) first
  unfolding group_due
  due_place t = numbered_place first (fields_at m (map character_of bs)) _ t

  -- a number other than 7 is that of a condition of the characters
  past_seven : (n : ℕ) → T (not (eqb n 7)) → first ≡ n → first_of 1 (conditions m (map character_of bs)) ≡ n
  unfolding first_of pick
  past_seven n t = go (every is_sound bs)
    where
      go : (sound : Bool) → first_of 1 ((7, not sound) ∷ conditions m (map character_of bs)) ≡ n
          → first_of 1 (conditions m (map character_of bs)) ≡ n
      go true e = e
      go false e = not_number {n = n} {k = 7} t (sym e)

  -- the place of 12 or 14 is that which judging tells of the characters
  placed_as : (number : ℕ) → mode_of number ≡ some m → (n : ℕ) → T (not (eqb n 7)) → T (not (eqb n 1)) → (group_due m bs).number ≡ n
      → (first_of 1 (conditions m (map character_of bs)) ≡ n) × ((group_due m bs).place ≡ place_of number (map character_of bs))
  placed_as number k n t u e =
      let same = sym due_first ∙ e in
      let own = past_seven n t same in
      let there = due_place (subst (λ (x : ℕ). T (not (eqb x 1))) (sym same) u) in
      (own, there ∙ rw (same, place.place_known number m k (map character_of bs), own))

  pub data_placed : (group_due m bs).number ≡ 14 → WrongDataAt m (map character_of bs) (group_due m bs).place
  data_placed e =
      let (number, k) = mode_number m in
      let (own, there) = placed_as number k 14 tt tt e in
      rw there (place.data_placed number m k (map character_of bs) own)

  pub stamp_placed : (group_due m bs).number ≡ 12
      → take (group_due m bs).place (map character_of bs) ≡ label_of m (map character_of bs) ++ separator m ∷ []
  stamp_placed e =
      let (number, k) = mode_number m in
      let (own, there) = placed_as number k 12 tt tt e in
      rw there (place.stamp_placed number m k (map character_of bs) own)

  -- and any other number has none
  pub others_unplaced : T (not (eqb (group_due m bs).number 12)) → T (not (eqb (group_due m bs).number 14)) → (group_due m bs).place ≡ 0
  unfolding group_due pick
  others_unplaced h j = go (eqb first 1) refl
    where
      own : (group_due m bs).number ≡ first
      own = due_first

      go : (one : Bool) → eqb first 1 ≡ one → (pick one (accepted (fields_at m (map character_of bs))) (refused_at first (place_by m (map character_of bs) first))).place ≡ 0
      go true q = refl
      go false q =
          place.no_place_by m (map character_of bs) first (subst (λ (x : ℕ). T (not (eqb x 12))) own h) (subst (λ (x : ℕ). T (not (eqb x 14))) own j)
