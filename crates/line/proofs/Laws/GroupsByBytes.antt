-- The answer to a group of bytes is the one that document 01's table gives them, number by number.
use Rattle.std.specs.Prelude.{◌≡◌, refl, ◌↔◌, Bool, true, false, not, ◌&&◌, ◌||◌, List, [], ◌∷◌, map, ℕ, ◌<◌, T, eqb, ltb, length}
use Rattle.std.proofs.Common.{sym, ap, ◌∙◌, ltb→lt, T_not, arith, ne_eqb, eq-eqb, eqb-true}
use Rattle.std.proofs.Math.Option.{some}
use Rattle.std.proofs.lemmas.List.{length-map}
use Rattle.std.proofs.Math.Facts.{and_yes}
use Rattle.characters.specs.Answers.{Answer, refused, given, every, pick, by_pick, is_true, from_true, first_of}
use Rattle.characters.specs.Wire.{is_sound, character_of}
use Rattle.groups.specs.Modes.{mode_of}
use Rattle.groups.specs.Groups.{Group}
use Rattle.groups.specs.Judging.{judging}
use Rattle.groups.specs.Numbers.{number_of_refusal}
use Rattle.groups.specs.Conditions.{conditions, fields_at}
use Rattle.groups.proofs.Laws.Named.{refusal_number}
use Rattle.groups.proofs.Laws.ByNumber.{accepted_due, refused_due}
use Rattle.groups.specs.Place.{place_of, place_by}
use Rattle.groups.proofs.Laws.Place.{place_known, others_told, no_place_by}
use Rattle.groups.proofs.Laws.Known.{judged_long, never_seven, eight_long, eight_short}
use Rattle.groups.proofs.Laws.Tests.{split}
use Rattle.groups.specs.declared.Mode.{Mode}
use Rattle.groups.specs.declared.Refusal.{Refusal}
use Rattle.groups.specs.declared.Refusal.TheVariants.{TooLong}
use Rattle.line.specs.Symbols.{sound_symbol, symbol_of}
use Rattle.line.specs.Lines.{LineAnswer, is_refused, of_group}
use Rattle.line.specs.Between.{is_inner, no_control, is_damaged, any_damaged, with_text, text_of, group_answer}
use Rattle.line.specs.Entries.{accepted, refused_at}
use Rattle.line.specs.Numbers.{number_of_notice, shown}
use Rattle.line.specs.ByBytes.{numbered, due_by, group_due}
use Rattle.line.specs.declared.Notice.{Notice}
use Rattle.line.specs.declared.Notice.TheVariants.{
  FrameSound,
  FrameFlawed,
  FrameInterrupted,
  FrameRestarted,
  GroupRestarted,
  GroupDamaged,
  GroupRefused,
}
use Rattle.line.specs.declared.rules.Symbol.{Symbol}
use Rattle.line.specs.declared.rules.Symbol.TheVariants.{Damaged}

-- ---- The bytes of a group

-- a sound byte is not damaged
sound_symbol_lem : (c : ℕ) → is_damaged (sound_symbol c) ≡ false
unfolding sound_symbol
sound_symbol_lem c =
    let P : Symbol → Type 0 = λ y. is_damaged y ≡ false in
    by_pick P _ _ _ (λ t. refl) λ t.
    by_pick P _ _ _ (λ t. refl) λ t.
    by_pick P _ _ _ (λ t. refl) λ t.
    by_pick P _ _ _ (λ t. refl) λ t.
    by_pick P _ _ _ (λ t. refl) λ t. refl

-- a byte is damaged exactly when it is unsound
damaged_is : (b : ℕ) → is_damaged (symbol_of b) ≡ not (is_sound b)
unfolding symbol_of pick
damaged_is b = go (is_sound b)
  where
    go : (sound : Bool) → is_damaged (pick sound (sound_symbol (character_of b)) Damaged) ≡ not sound
    go true = sound_symbol_lem (character_of b)
    go false = refl

-- so with bytes
pub damaged_all : (bs : List ℕ) → any_damaged bs ≡ not (every is_sound bs)
damaged_all [] = refl
damaged_all (b ∷ bs) = rw (damaged_is b, damaged_all bs) (both (is_sound b) (every is_sound bs))
  where
    both : (x y : Bool) → (not x || not y) ≡ not (x && y)
    both true y = refl
    both false y = refl

-- the content of a sound byte that is no control character is its character
sound_text : (c : ℕ) (more : List ℕ) → T (is_inner (sound_symbol c)) → with_text (sound_symbol c) more ≡ c ∷ more
unfolding sound_symbol
sound_text c more =
    let P : Symbol → Type 0 = λ y. T (is_inner y) → with_text y more ≡ c ∷ more in
    by_pick P _ _ _ (λ t i. absurd i) λ t.
    by_pick P _ _ _ (λ t i. absurd i) λ t.
    by_pick P _ _ _ (λ t i. absurd i) λ t.
    by_pick P _ _ _ (λ t i. absurd i) λ t.
    by_pick P _ _ _ (λ t i. absurd i) λ t i. refl

text_is : (b : ℕ) (more : List ℕ) → T (is_sound b) → T (is_inner (symbol_of b))
    → with_text (symbol_of b) more ≡ character_of b ∷ more
unfolding symbol_of pick
text_is b more t = rw (is_true {b = is_sound b} t) (sound_text (character_of b) more)

-- and that of sound bytes, none of them a control character, is their characters
pub text_all : (bs : List ℕ) → T (every is_sound bs) → T (no_control bs) → text_of bs ≡ map character_of bs
text_all [] t i = refl
text_all (b ∷ bs) t i =
    let (u, v) = and_yes (is_sound b) (every is_sound bs) t in
    let (j, k) = and_yes (is_inner (symbol_of b)) (no_control bs) i in
    text_is b (text_of bs) u j ∙ ap (λ (l : List ℕ). character_of b ∷ l) (text_all bs v k)

-- ---- Its answer

-- a refusal is not numbered 1
refusal_only : (r : Refusal) (g : Group) (place : ℕ) → numbered (number_of_refusal r) g place ≡ refused_at (number_of_refusal r) place
unfolding pick
refusal_only r g place = rw (ne_eqb (number_of_refusal r) 1 (λ e. omega (arith, refusal_number r)))

-- what the groups' reader says of a content, with its number
judged_shown : (mode : ℕ) (m : Mode) (c : List ℕ) → mode_of mode ≡ some m
    → shown (of_group (judging mode c) (place_of mode c)) ≡ due_by m c (first_of 1 (conditions m c))
unfolding pick
judged_shown mode m c k = go (judging mode c) refl
  where
    go : (a : Answer Refusal Group) → judging mode c ≡ a
        → shown (of_group a (place_of mode c)) ≡ due_by m c (first_of 1 (conditions m c))
    go (given g) e = let (one, fields) = accepted_due mode m k c g e in rw (one, fields)
    go (refused r) e =
        rw (place_known mode m k c, refused_due mode m k c r e) (sym (refusal_only r (fields_at m c) (place_by m c (number_of_refusal r))))

-- a content over 128 is 8 to the groups' reader too
long_first : (mode : ℕ) (m : Mode) (c : List ℕ) → mode_of mode ≡ some m
    → pick (ltb 128 (length c)) (refused (GroupRefused TooLong 0)) (of_group (judging mode c) (place_of mode c))
    ≡ of_group (judging mode c) (place_of mode c)
unfolding pick
long_first mode m c k = go (ltb 128 (length c)) refl
  where
    go : (long : Bool) → ltb 128 (length c) ≡ long
        → pick long (refused (GroupRefused TooLong 0)) (of_group (judging mode c) (place_of mode c))
        ≡ of_group (judging mode c) (place_of mode c)
    go true e =
        let long = judged_long mode m k c (ltb→lt 128 (length c) (from_true e)) in
        let nowhere : place_of mode c ≡ 0 = others_told mode c (rw long tt) (rw long tt) in
        rw (long, nowhere)
    go false e = refl

-- the answer to the bytes of a group, with its number, is the one that is due to them
pub group_shown : (mode : ℕ) (m : Mode) (bs : List ℕ) → mode_of mode ≡ some m → T (no_control bs)
    → shown (group_answer mode bs) ≡ group_due m bs
unfolding group_answer group_due first_of pick
group_shown mode m bs k i = rw (damaged_all bs) (go (every is_sound bs) refl)
  where
    go : (sound : Bool) → every is_sound bs ≡ sound
        → shown (pick (not sound) (refused GroupDamaged)
        (pick (ltb 128 (length (text_of bs))) (refused (GroupRefused TooLong 0))
        (of_group (judging mode (text_of bs)) (place_of mode (text_of bs)))))
        ≡ due_by m (map character_of bs) (pick (not sound) 7 (first_of 1 (conditions m (map character_of bs))))
    go true e =
        rw (text_all bs (rw e tt) i, long_first mode m (map character_of bs) k)
        (judged_shown mode m (map character_of bs) k)
    go false e = rw (no_place_by m (map character_of bs) 7 tt tt)

-- an answer is refused exactly when its number is not 1
refused_notice : (n : Notice) → true ≡ not (eqb (number_of_notice n) 1)
refused_notice FrameSound = refl
refused_notice FrameFlawed = refl
refused_notice FrameInterrupted = refl
refused_notice FrameRestarted = refl
refused_notice GroupRestarted = refl
refused_notice GroupDamaged = refl
refused_notice (GroupRefused r place) = rw (ne_eqb (number_of_refusal r) 1 (λ e. omega (arith, refusal_number r)))

pub notice_number : (n : Notice) → eqb (number_of_notice n) 1 ≡ false
notice_number n = go (eqb (number_of_notice n) 1) (refused_notice n)
  where
    go : (b : Bool) → true ≡ not b → b ≡ false
    go true e = e
    go false e = refl

pub refused_number : (a : LineAnswer) → is_refused a ≡ not (eqb (shown a).number 1)
refused_number (given g) = refl
refused_number (refused notice) = refused_notice notice

-- ---- 7 and 8

-- an answer by its number has this number
pub numbered_is : (n : ℕ) (g : Group) (place : ℕ) → (numbered n g place).number ≡ n
unfolding pick
numbered_is n g place = go (eqb n 1) refl
  where
    go : (one : Bool) → eqb n 1 ≡ one → (pick one (accepted g) (refused_at n place)).number ≡ n
    go true e = sym (eqb-true n 1 e)
    go false e = refl

-- the number of a group's answer
due_number : (m : Mode) (bs : List ℕ) (sound : Bool) → every is_sound bs ≡ sound
    → (group_due m bs).number ≡ pick (not sound) 7 (first_of 1 (conditions m (map character_of bs)))
unfolding group_due first_of
due_number m bs sound e = rw (numbered_is _ (fields_at m (map character_of bs)) _, e)

pub not_number : {n k : ℕ} {X : Type 0} → T (not (eqb n k)) → n ≡ k → X
not_number {n = n} {k = k} t e = absurd (T_not (eqb n k) t (from_true (eq-eqb n k e)))

pub damaged_exactly : (m : Mode) (bs : List ℕ) → ((group_due m bs).number ≡ 7) ↔ T (not (every is_sound bs))
unfolding pick
damaged_exactly m bs = go (every is_sound bs) (due_number m bs (every is_sound bs) refl)
  where
    go : (sound : Bool) → (group_due m bs).number ≡ pick (not sound) 7 (first_of 1 (conditions m (map character_of bs)))
        → ((group_due m bs).number ≡ 7) ↔ T (not sound)
    go true e = (λ q. not_number (never_seven m (map character_of bs)) (sym e ∙ q), λ t. absurd t)
    go false e = (λ q. tt, λ t. e)

pub too_long_exactly : (m : Mode) (bs : List ℕ)
    → ((group_due m bs).number ≡ 8) ↔ (T (every is_sound bs) × (128 < length bs))
unfolding pick
too_long_exactly m bs = go (every is_sound bs) (due_number m bs (every is_sound bs) refl)
  where
    go : (sound : Bool) → (group_due m bs).number ≡ pick (not sound) 7 (first_of 1 (conditions m (map character_of bs)))
        → ((group_due m bs).number ≡ 8) ↔ (T sound × (128 < length bs))
    go true e = (
      λ q. (
        tt,
        split (length bs) 128
            (λ h. not_number (eight_short m (map character_of bs) (rw (length-map bs character_of) h)) (sym e ∙ q)) (λ h. h),
      ),
      λ (t, h). e ∙ eight_long m (map character_of bs) (rw (length-map bs character_of) h),
    )
    go false e = (λ q. absurd (let z = sym e ∙ q in omega arith), λ (t, h). absurd t)
