-- The laws behind M-101: a stamp with a small season letter is right where the one with its capital is, and one of DPM or
-- FPM with anything but a space is not.
use Rattle.std.proofs.Common.{◌≡◌, Bool, true, false, not, List, [], ◌∷◌, ◌++◌, T, eqb, length, take, sym, ap, ◌∙◌, subst, ⊎_elim, append_assoc, arith, ne_eqb, ℕ, zero, suc, ◌≤◌, ◌<◌, refl}
use Rattle.std.proofs.Math.Option.{Option, none, some}
use Rattle.std.proofs.Math.Facts.{and_yes, or_yes}
use Rattle.std.proofs.Math.Bool.{and-false}
use Rattle.characters.specs.Answers.{every, is_true, is_false, pick, first_of}
use Rattle.characters.specs.Wire.{HT, SP}
use Rattle.groups.specs.Formats.{Rule}
use Rattle.groups.specs.Table.{standard_rows, rows, same, lookup}
use Rattle.groups.specs.Stamps.{date_right, is_stamped, stamp_as, stamp_right}
use Rattle.groups.specs.Groups.{group_of, check, content, read}
use Rattle.groups.specs.Numbers.{number_of, number_of_writing, number_as}
use Rattle.groups.specs.Place.{judgement}
use Rattle.groups.specs.Writing.{writing, told}
use Rattle.groups.specs.Conditions.{stamp_followed, data_in, field_conditions, given_when}
use Rattle.groups.specs.WriterConditions.{stamp_unfit, room_for, fields_unfit, written_when}
use Rattle.groups.specs.Listed.{is_among}
use Rattle.groups.specs.Seasons.{Season, winter, summer, letter_of, degraded, peaks, is_peak, closed}
use Rattle.groups.proofs.Laws.Tests.{split, same→eq}
use Rattle.groups.proofs.Laws.Table.{listed_right}
use Rattle.groups.proofs.Laws.Groups.{total_end, content_length, read_listed}
use Rattle.groups.proofs.Laws.Conditions.{fields_number}
use Rattle.groups.proofs.Laws.Known.{eight_long}
use Rattle.groups.proofs.Laws.ByNumber.{read_number, judged_first}
use Rattle.groups.proofs.Laws.Writer.{written_first}
use Rattle.groups.specs.declared.Mode.TheVariants.{Historic, Standard, Business}
use Rattle.groups.specs.declared.table.Mark.{Mark}
use Rattle.groups.specs.declared.table.Mark.TheVariants.{Unstamped, Letter, Space}

-- ---- Stamps

-- with the small letter a stamp is right where it is with the capital, for every mark
degraded_stamp : (mark : Mark) (season : Season) (rest : List ℕ)
    → stamp_right mark (degraded season ∷ rest) ≡ stamp_right mark (letter_of season ∷ rest)
unfolding stamp_as date_right
degraded_stamp Unstamped season rest = refl
degraded_stamp Letter winter rest = refl
degraded_stamp Letter summer rest = refl
degraded_stamp Space winter rest = refl
degraded_stamp Space summer rest = refl

-- where the season is to be a space, nothing else is right
no_space : (x : ℕ) (rest : List ℕ) → T (not (eqb x SP)) → stamp_right Space (x ∷ rest) ≡ false
unfolding stamp_as
no_space x rest n = rw (is_false {b = eqb x SP} n) (and-false (eqb (length (x ∷ rest)) 13))

-- ---- DPM and FPM

abbrev asks_space : Mark → Bool
asks_space Unstamped = false
asks_space Letter = false
asks_space Space = true

abbrev is_spaced : Option Rule → Bool
is_spaced none = false
is_spaced (some rule) = asks_space rule.mark

-- each of the six has a rule that asks for a space: computed
all_spaced : T (every (λ (label : List ℕ). is_spaced (lookup label (rows Standard))) peaks)
unfolding standard_rows lookup pick
all_spaced = tt

-- what passes for each of these words passes for one of them
among_passes : (f : List ℕ → Bool) (ws : List (List ℕ)) (w : List ℕ) → T (every f ws) → T (is_among ws w) → T (f w)
among_passes f [] w t u = absurd u
among_passes f (v ∷ ws) w t u =
    let h = and_yes (f v) (every f ws) t in
    ⊎_elim (λ e. subst (λ (y : List ℕ). T (f y)) (sym (same→eq w v e)) h.0) (λ k. among_passes f ws w h.1 k)
    (or_yes (same w v) (is_among ws w) u)

is_space : (mark : Mark) → T (asks_space mark) → mark ≡ Space
is_space Unstamped t = absurd t
is_space Letter t = absurd t
is_space Space t = refl

spaced_rule : (o : Option Rule) → T (is_spaced o) → (rule : Rule) × (o ≡ some rule) × (rule.mark ≡ Space)
spaced_rule none t = absurd t
spaced_rule (some rule) t = (rule, refl, is_space rule.mark t)

peak_rule : (label : List ℕ) → T (is_peak label)
    → (rule : Rule) × (lookup label (rows Standard) ≡ some rule) × (rule.mark ≡ Space)
peak_rule label t =
    spaced_rule (lookup label (rows Standard))
    (among_passes (λ l. is_spaced (lookup l (rows Standard))) peaks label all_spaced t)

-- ---- Writing

-- what the writer asks of the fields of a group by its rule, with two stamps that are as right as each other
unfit_alike : (mark : Mark) (x y : ℕ) (rest : List ℕ) → stamp_right mark (x ∷ rest) ≡ stamp_right mark (y ∷ rest)
    → stamp_unfit mark (x ∷ rest) ≡ stamp_unfit mark (y ∷ rest)
unfit_alike Unstamped x y rest e = refl
unfit_alike Letter x y rest e = rw e
unfit_alike Space x y rest e = rw e

module _ (season : Season) (label rest d : List ℕ) (room : ℕ) where
  degraded_unfit : (o : Option Rule)
      → first_of 0 (fields_unfit (group_of label (degraded season ∷ rest) d) room o)
      ≡ first_of 0 (fields_unfit (group_of label (letter_of season ∷ rest) d) room o)
  unfolding room_for
  degraded_unfit none = refl
  degraded_unfit (some rule) =
      rw (unfit_alike rule.mark (degraded season) (letter_of season) rest (degraded_stamp rule.mark season rest))

  degraded_when : (number : ℕ)
      → first_of 0 (written_when number (group_of label (degraded season ∷ rest) d) room)
      ≡ first_of 0 (written_when number (group_of label (letter_of season ∷ rest) d) room)
  unfolding written_when first_of pick
  degraded_when zero = degraded_unfit (lookup label (rows Historic))
  degraded_when (suc zero) = degraded_unfit (lookup label (rows Standard))
  degraded_when (suc (suc zero)) = degraded_unfit (lookup label (rows Business))
  degraded_when (suc (suc (suc number))) = refl

  -- writing tells of the small letter what it tells of the capital
  pub degraded_told : (number : ℕ)
      → number_of_writing (told (writing number (group_of label (degraded season ∷ rest) d) room))
      ≡ number_of_writing (told (writing number (group_of label (letter_of season ∷ rest) d) room))
  degraded_told number =
      written_first number _ room ∙ degraded_when number ∙ sym (written_first number _ room)

-- for DPM and FPM it tells 12 where the season is no space
pub peak_told : (label : List ℕ) (x : ℕ) (rest d : List ℕ) (room : ℕ) → T (is_peak label) → T (not (eqb x SP))
    → number_of_writing (told (writing 1 (group_of label (x ∷ rest) d) room)) ≡ 12
unfolding written_when first_of pick
peak_told label x rest d room t n =
    let (rule, listed, spaced) = peak_rule label t in
    written_first 1 _ room
    ∙ rw (listed, spaced, no_space x rest n, ne_eqb (suc (length rest)) 0 (λ e. omega arith))

-- ---- Judging

-- a content by its label and its body, closed
closed_is : (label body : List ℕ) → content Standard label body ≡ closed (label ++ HT ∷ body)
unfolding content check
closed_is label body = rw (total_end (label ++ HT ∷ body) HT) (simp append_assoc)

-- the number that judging tells of a content
abbrev judged : List ℕ → ℕ
judged c = number_of (judgement 1 c)

-- 8 where it is too long
long_is_eight : (c : List ℕ) → 128 < length c → judged c ≡ 8
unfolding given_when first_of pick
long_is_eight c h = judged_first 1 c ∙ eight_long Standard c h

-- and as reading tells it
told_as_read : (c : List ℕ) → judged c ≡ number_as 1 (read Standard c)
unfolding given_when first_of pick
told_as_read c = judged_first 1 c ∙ sym (read_number Standard c)

-- where a stamped label has two stamps that are as right as each other, the same conditions hold
alike : (rule : Rule) (x y : ℕ) (rest : List ℕ) → is_stamped rule.mark ≡ true
    → stamp_right rule.mark (x ∷ take 12 rest) ≡ stamp_right rule.mark (y ∷ take 12 rest)
    → first_of 1 (field_conditions Standard (x ∷ rest) (some rule)) ≡ first_of 1 (field_conditions Standard (y ∷ rest) (some rule))
unfolding stamp_followed data_in
alike rule x y rest stamped e = rw (e, stamped)

-- where its season is to be a space and is none, the first is 12
unspaced : (rule : Rule) (x : ℕ) (rest : List ℕ) → rule.mark ≡ Space → T (not (eqb x SP))
    → first_of 1 (field_conditions Standard (x ∷ rest) (some rule)) ≡ 12
unfolding first_of pick
unspaced rule x rest spaced n = rw (spaced, no_space x (take 12 rest) n, and-false (stamp_followed Standard (x ∷ rest)))

module _ (label : List ℕ) (rule : Rule) (listed : lookup label (rows Standard) ≡ some rule) where
  -- judging a content of this label, by what stands behind its separator
  judged_fields : (body : List ℕ) → length (content Standard label body) ≤ 128
      → judged (content Standard label body) ≡ first_of 1 (field_conditions Standard body (some rule))
  judged_fields body h =
      told_as_read (content Standard label body)
      ∙ ap (number_as 1) (read_listed Standard label body rule listed h)
      ∙ fields_number Standard rule label body (listed_right Standard label rule listed).all_drawn

  -- of a stamped label, it tells of the small letter what it tells of the capital
  pub degraded_judged : (season : Season) (rest : List ℕ) → T (is_stamped rule.mark)
      → number_of (judgement 1 (closed (label ++ HT ∷ degraded season ∷ rest)))
      ≡ number_of (judgement 1 (closed (label ++ HT ∷ letter_of season ∷ rest)))
  degraded_judged season rest t =
      let small = degraded season ∷ rest in
      let capital = letter_of season ∷ rest in
      let n = content_length Standard label small in
      let k = content_length Standard label capital in
      rw (← (closed_is label small), ← (closed_is label capital))
      (split (length (content Standard label small)) 128
      (λ h. judged_fields small h
      ∙ alike rule (degraded season) (letter_of season) rest (is_true t) (degraded_stamp rule.mark season (take 12 rest))
      ∙ sym (judged_fields capital (omega arith)))
      (λ h. long_is_eight (content Standard label small) h ∙ sym (long_is_eight (content Standard label capital) (omega arith))))

-- of DPM and FPM it tells 12 where the season is no space
pub peak_judged : (label : List ℕ) (x : ℕ) (rest : List ℕ) → T (is_peak label) → T (not (eqb x SP))
    → length (closed (label ++ HT ∷ x ∷ rest)) ≤ 128
    → number_of (judgement 1 (closed (label ++ HT ∷ x ∷ rest))) ≡ 12
peak_judged label x rest t n h =
    let (rule, listed, spaced) = peak_rule label t in
    let e = closed_is label (x ∷ rest) in
    rw (← e) (judged_fields label rule listed (x ∷ rest) (rw e h) ∙ unspaced rule x rest spaced n)
