-- The laws of the place that judging tells (M-104).
use Rattle.std.proofs.Common.{◌≡◌, Bool, ◌&&◌, ◌||◌, List, [], ◌∷◌, ◌++◌, length, take, get_or, sym, ◌∙◌, ⊎_elim, eqb→eq, ne_eqb, ℕ, suc, ◌+◌, ◌-◌, ◌<◌, ◌≤◌, arith, refl, ap, subst, true, false, not, T, eqb, ltb, ltb→lt, nltb→le, length-drop, length-take-le, take-suc}
use Rattle.std.proofs.Math.Option.{Option, none, some}
use Rattle.std.proofs.Math.Facts.{and_yes, or_yes, or_no, T_not-not}
use Rattle.characters.specs.Answers.{Answer, refused, given, pick, pick_no, first_of}
use Rattle.groups.specs.Modes.{mode_of, separator}
use Rattle.groups.specs.Formats.{Rule}
use Rattle.groups.specs.Table.{rows, lookup}
use Rattle.groups.specs.Stamps.{is_stamped, stamp_right}
use Rattle.groups.specs.Groups.{Group}
use Rattle.groups.specs.Numbers.{number_of_refusal, number_of, number_as}
use Rattle.groups.specs.Judging.{judging, shown}
use Rattle.groups.specs.Made.{some_made}
use Rattle.groups.specs.Conditions.{first_at, final_place, label_of, body_of, misshapen, check_wrong, unlisted, stamp_followed, stamp_wrong, data_in, outside, width_wrong, kind_wrong, conditions}
use Rattle.groups.specs.Place.{first_wrong, next_place, wrong_place, place_for, place_by, place_in, place_of, judgement, place_told}
use Rattle.groups.specs.FirstWrong.{FirstWrong, WrongDataAt}
use Rattle.groups.proofs.Laws.Tests.{equal_or}
use Rattle.groups.proofs.Laws.Table.{listed_right}
use Rattle.groups.proofs.Laws.Conditions.{Shaped, shape, first_there}
use Rattle.groups.proofs.Laws.ByNumber.{judged_read, told_as, read_number}
use Rattle.groups.proofs.Laws.FirstWrong.{rule_wrong, wrong_once, unfit_some}
use Rattle.groups.specs.declared.Mode.{Mode}
use Rattle.groups.specs.declared.Refusal.{Refusal}
use Rattle.groups.specs.declared.Refusal.TheVariants.{TooLong, Misshapen, CheckWrong, LabelUnknown, StampWrong, WidthWrong, KindWrong, NoRoom, ModeUnknown}

-- ---- The place by the number

-- a number that is neither 12 nor 14 has none
pub no_place : (n next wrong : ℕ) → T (not (eqb n 12)) → T (not (eqb n 14)) → place_for n next wrong ≡ 0
unfolding place_for
no_place n next wrong h k = pick_no (eqb n 12) _ _ h ∙ pick_no (eqb n 14) wrong 0 k

-- so has a refusal of another kind
pub placed_nowhere : (r : Refusal) (next wrong : ℕ) → (r ≡ StampWrong → ⊥) → (r ≡ KindWrong → ⊥) → 0 ≡ place_for (number_of_refusal r) next wrong
unfolding place_for pick
placed_nowhere TooLong next wrong h k = refl
placed_nowhere Misshapen next wrong h k = refl
placed_nowhere CheckWrong next wrong h k = refl
placed_nowhere LabelUnknown next wrong h k = refl
placed_nowhere StampWrong next wrong h k = absurd (h refl)
placed_nowhere WidthWrong next wrong h k = refl
placed_nowhere KindWrong next wrong h k = absurd (k refl)
placed_nowhere NoRoom next wrong h k = refl
placed_nowhere ModeUnknown next wrong h k = refl

-- and the two that have one
pub place_twelve : (n next wrong : ℕ) → n ≡ 12 → place_for n next wrong ≡ next
unfolding place_for pick
place_twelve n next wrong e = rw e

pub place_fourteen : (n next wrong : ℕ) → n ≡ 14 → place_for n next wrong ≡ wrong
unfolding place_for pick
place_fourteen n next wrong e = rw e

-- so in a content
pub no_place_by : (m : Mode) (c : List ℕ) (n : ℕ) → T (not (eqb n 12)) → T (not (eqb n 14)) → place_by m c n ≡ 0
unfolding place_by
no_place_by m c n h k = no_place n _ _ h k

-- ---- What is known of a content by its number

-- conditions before the first that holds don't hold
first_twelve : (a b e u s w k : Bool)
    → first_of 1 ((8, a) ∷ (9, b) ∷ (10, e) ∷ (11, u) ∷ (12, s) ∷ (13, w) ∷ (14, k) ∷ []) ≡ 12
    → T (not a) × T (not b) × T (not u)
unfolding first_of pick
first_twelve true b e u s w k q = absurd (omega arith)
first_twelve false true e u s w k q = absurd (omega arith)
first_twelve false false true u s w k q = absurd (omega arith)
first_twelve false false false true s w k q = absurd (omega arith)
first_twelve false false false false s w k q = (tt, tt, tt)

first_fourteen : (a b e u s w k : Bool)
    → first_of 1 ((8, a) ∷ (9, b) ∷ (10, e) ∷ (11, u) ∷ (12, s) ∷ (13, w) ∷ (14, k) ∷ []) ≡ 14
    → T (not a) × T (not b) × T (not u) × T (not s) × T (not w) × T k
unfolding first_of pick
first_fourteen true b e u s w k q = absurd (omega arith)
first_fourteen false true e u s w k q = absurd (omega arith)
first_fourteen false false true u s w k q = absurd (omega arith)
first_fourteen false false false true s w k q = absurd (omega arith)
first_fourteen false false false false true w k q = absurd (omega arith)
first_fourteen false false false false false true k q = absurd (omega arith)
first_fourteen false false false false false false true q = (tt, tt, tt, tt, tt, tt)
first_fourteen false false false false false false false q = absurd (omega arith)

listed_some : (o : Option Rule) → T (not (unlisted o)) → (rule : Rule) × (o ≡ some rule)
listed_some none t = absurd t
listed_some (some rule) t = (rule, refl)

module _ (m : Mode) (c : List ℕ) where
  -- a content that is answered by 12: it is short enough, has its separators, and a label of the list
  twelve_known : first_of 1 (conditions m c) ≡ 12 → (length c ≤ 128) × Shaped m c
  unfolding conditions
  twelve_known q =
      let o = lookup (label_of m c) (rows m) in
      let (a, b, u) = first_twelve (ltb 128 (length c)) (misshapen m c) (check_wrong m c) (unlisted o) (stamp_wrong m (body_of m c) o) (width_wrong (body_of m c) o) (kind_wrong (body_of m c) o) q in
      (nltb→le 128 (length c) a, shape m c b)

  -- one that is answered by 14
  pub record WrongData (rule : Rule) : Type 0 where
    pub short : length c ≤ 128
    pub shaped : Shaped m c
    pub listed : lookup (label_of m c) (rows m) ≡ some rule
    pub stamped : T (not (stamp_wrong m (body_of m c) (some rule)))
    pub long_enough : rule.smallest ≤ length (data_in (is_stamped rule.mark) (body_of m c))
    pub unfit : T (not (some_made rule.formats (data_in (is_stamped rule.mark) (body_of m c))))

  pub fourteen_known : first_of 1 (conditions m c) ≡ 14 → (rule : Rule) × WrongData rule
  unfolding conditions
  fourteen_known q =
      let o = lookup (label_of m c) (rows m) in
      let (a, b, u, s, w, k) = first_fourteen (ltb 128 (length c)) (misshapen m c) (check_wrong m c) (unlisted o) (stamp_wrong m (body_of m c) o) (width_wrong (body_of m c) o) (kind_wrong (body_of m c) o) q in
      let (rule, e) = listed_some o u in
      let d = data_in (is_stamped rule.mark) (body_of m c) in
      let wide : T (not (outside rule d)) = subst (λ (p : Option Rule). T (not (width_wrong (body_of m c) p))) e w in (
        rule,
        record {
          short = nltb→le 128 (length c) a;
          shaped = shape m c b;
          listed = e;
          stamped = subst (λ (p : Option Rule). T (not (stamp_wrong m (body_of m c) p))) e s;
          long_enough = nltb→le (length d) rule.smallest (or_no (ltb (length d) rule.smallest) (ltb rule.largest (length d)) wide).0;
          unfit = subst (λ (p : Option Rule). T (kind_wrong (body_of m c) p)) e k;
        },
      )

  -- the data end before the final separator
  body_length : Shaped m c → next_place m c + length (body_of m c) ≡ final_place c
  unfolding body_of
  body_length s =
      let n = length-take-le (length c - 2) c (omega arith) in
      let l = length-drop (first_at (separator m) c + 1) (take (length c - 2) c) in
      omega (arith, s.apart)

  data_ends : (rule : Rule) → Shaped m c → (k : Bool) → is_stamped rule.mark ≡ k → T (not (stamp_wrong m (body_of m c) (some rule)))
      → next_place m c + pick k 14 0 + length (data_in k (body_of m c)) ≡ final_place c
  unfolding data_in pick stamp_followed
  data_ends rule s false e t = omega (arith, body_length s)
  data_ends rule s true e t =
      let body = body_of m c in
      let followed = ltb 13 (length body) && eqb (get_or body 13 0) (separator m) in
      let right = stamp_right rule.mark (take 13 body) in
      let u : T (not (not (followed && right))) = subst (λ (b : Bool). T (not (b && not (followed && right)))) e t in
      let v = and_yes followed right (T_not-not (followed && right) u) in
      let h = ltb→lt 13 (length body) (and_yes (ltb 13 (length body)) (eqb (get_or body 13 0) (separator m)) v.0).0 in
      omega (arith, body_length s, length-drop 14 body)

-- ---- What judging tells

module _ (number : ℕ) (m : Mode) (known : mode_of number ≡ some m) (c : List ℕ) where
  answered : number_as 1 (judging number c) ≡ first_of 1 (conditions m c)
  answered = rw (judged_read number m known c) (read_number m c)

  told_number : number_of (judgement number c) ≡ first_of 1 (conditions m c)
  told_number = told_as (judging number c) (place_of number c) ∙ answered

  -- the place that is told is the one by the first condition that holds
  pub place_known : place_of number c ≡ place_by m c (first_of 1 (conditions m c))
  unfolding place_of
  place_known = rw (answered, known)

  -- up to the place of 12 stand the label and its separator
  pub stamp_placed : first_of 1 (conditions m c) ≡ 12 → take (place_of number c) c ≡ label_of m c ++ separator m ∷ []
  unfolding place_by label_of
  stamp_placed q =
      let (short, s) = twelve_known m c q in
      let f = first_at (separator m) c in
      let at : place_of number c ≡ suc f = place_known ∙ place_twelve _ _ _ q ∙ omega arith in
      rw (at, take-suc c f 0 (omega (arith, s.apart)), first_there (separator m) c (omega (arith, s.apart)))

  -- at the place of 14 stands the first wrong data character, counted back from the final separator
  pub data_placed : first_of 1 (conditions m c) ≡ 14 → WrongDataAt m c (place_of number c)
  unfolding place_by
  data_placed q =
      let (rule, w) = fourteen_known m c q in
      let d = data_in (is_stamped rule.mark) (body_of m c) in
      let at = place_known ∙ place_fourteen _ _ _ q ∙ ap (wrong_place (next_place m c) (body_of m c)) w.listed in
      let right = listed_right m (label_of m c) rule w.listed in
      let some = unfit_some m (label_of m c) rule w.listed d w.long_enough w.unfit in
      record {
        rule = rule;
        listed = w.listed;
        before = first_wrong rule d;
        is_first_wrong = (rule_wrong rule right.all_drawn d some w.unfit (first_wrong rule d)).0 refl;
        there = omega (arith, at, data_ends m c rule w.shaped (is_stamped rule.mark) refl w.stamped);
      }

  -- both stand inside the content, in front of the check character
  twelve_inside : first_of 1 (conditions m c) ≡ 12 → place_of number c + 2 ≤ length c
  unfolding place_by
  twelve_inside q =
      let (short, s) = twelve_known m c q in
      omega (arith, place_known ∙ place_twelve _ _ _ q, s.apart)

  fourteen_inside : first_of 1 (conditions m c) ≡ 14 → place_of number c + 2 ≤ length c
  fourteen_inside q =
      let w = data_placed q in
      omega (arith, w.there, w.is_first_wrong.inside, (fourteen_known m c q).1.shaped.apart)

  pub placed_inside : T (eqb (first_of 1 (conditions m c)) 12 || eqb (first_of 1 (conditions m c)) 14) → place_of number c + 2 ≤ length c
  placed_inside t =
      let n = first_of 1 (conditions m c) in
      ⊎_elim (λ u. twelve_inside (eqb→eq n 12 u)) (λ u. fourteen_inside (eqb→eq n 14 u)) (or_yes (eqb n 12) (eqb n 14) t)

  -- others have none
  pub others_nowhere : T (not (eqb (first_of 1 (conditions m c)) 12)) → T (not (eqb (first_of 1 (conditions m c)) 14)) → place_of number c ≡ 0
  unfolding place_by
  others_nowhere h k = place_known ∙ no_place _ _ _ h k

  known_small : place_of number c < 128
  known_small =
      let n = first_of 1 (conditions m c) in
      equal_or n 12 (λ e. let (short, s) = twelve_known m c e in omega (arith, twelve_inside e))
      (λ h. equal_or n 14 (λ e. let (rule, w) = fourteen_known m c e in omega (arith, fourteen_inside e, w.short))
      (λ k. omega (arith, others_nowhere (rw (ne_eqb n 12 h) tt) (rw (ne_eqb n 14 k) tt))))

  -- the same by the number that judging tells
  abbrev number_told : ℕ
  number_told = number_of (judgement number c)

  pub stamp_told : number_told ≡ 12 → take (place_of number c) c ≡ label_of m c ++ separator m ∷ []
  stamp_told q = stamp_placed (sym told_number ∙ q)

  pub data_told : number_told ≡ 14 → WrongDataAt m c (place_of number c)
  data_told q = data_placed (sym told_number ∙ q)

  pub inside_told : T (eqb number_told 12 || eqb number_told 14) → place_of number c + 2 ≤ length c
  inside_told t = placed_inside (subst (λ (n : ℕ). T (eqb n 12 || eqb n 14)) told_number t)

-- ---- In whatever mode, known or not

-- a place fits a byte
pub placed_small : (number : ℕ) (c : List ℕ) → place_of number c < 128
unfolding place_of
placed_small number c = go (mode_of number) refl
  where
    go : (o : Option Mode) → mode_of number ≡ o → place_of number c < 128
    go none e = rw e (omega arith)
    go (some m) e = known_small number m e c

-- and a number that is neither 12 nor 14 has none
pub others_told : (number : ℕ) (c : List ℕ)
    → T (not (eqb (number_of (judgement number c)) 12)) → T (not (eqb (number_of (judgement number c)) 14))
    → place_of number c ≡ 0
unfolding place_of place_by
others_told number c h k = go (mode_of number)
  where
    other : (n : ℕ) → T (not (eqb (number_of (judgement number c)) n)) → T (not (eqb (number_as 1 (judging number c)) n))
    other n = subst (λ (k : ℕ). T (not (eqb k n))) (told_as (judging number c) (place_of number c))

    go : (o : Option Mode) → place_in o c (number_as 1 (judging number c)) ≡ 0
    go none = refl
    go (some m) = no_place _ _ _ (other 12 h) (other 14 k)

-- so the place of a judgement is the one that is told with the refusal, and 0 where there is none
pub faults_placed : (number : ℕ) (c : List ℕ) → place_told (judgement number c) ≡ place_of number c
faults_placed number c = go (judging number c) refl
  where
    go : (a : Answer Refusal Group) → judging number c ≡ a → place_told (shown a (place_of number c)) ≡ place_of number c
    go (refused refusal) e = refl
    go (given g) e = sym (others_told number c (rw e tt) (rw e tt))

-- ---- There is one such place

pub data_once : (m : Mode) (c : List ℕ) (i j : ℕ) → WrongDataAt m c i → WrongDataAt m c j → i ≡ j
data_once m c i j a b =
    let both : some a.rule ≡ some b.rule = sym a.listed ∙ b.listed in
    let same : a.rule ≡ b.rule = cc both in
    let body = body_of m c in
    subst
    (λ (r : Rule). (y : ℕ) → FirstWrong r.formats (data_in (is_stamped r.mark) body) y
    → j + length (data_in (is_stamped r.mark) body) ≡ final_place c + y → i ≡ j)
    same
    (λ y f e. omega (arith, a.there, e, wrong_once a.rule.formats (data_in (is_stamped a.rule.mark) body) a.before y a.is_first_wrong f))
    b.before
    b.is_first_wrong
    b.there
