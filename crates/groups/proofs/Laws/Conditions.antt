-- The reader's answer is that of document 01's conditions in a row.
use Rattle.std.proofs.Common.{◌≡◌, refl, Bool, not, ◌||◌, List, [], ◌∷◌, ◌++◌, ℕ, zero, suc, ◌+◌, ◌-◌, ◌<◌, ◌≤◌, T, eqb, ltb, length, take, drop, get_or, sym, ap, ◌∙◌, add-one, arith, ltb→lt, nltb→le, eqb→eq, T_not, length-drop, length-take-le, take-suc, drop_at, get_or-take, get_or-drop, take-take, take-add, eq-eqb, ne_eqb, lt-ltb, le-ltb, true, false}
use Rattle.std.proofs.Math.Bool.{not-not}
use Rattle.std.proofs.Math.Option.{Option, none, some}
use Rattle.std.proofs.Math.Seq.{split_at}
use Rattle.std.proofs.Math.Facts.{T_not-not, or_no, eqb_no}
use Rattle.characters.specs.Answers.{Answer, refused, need, found, every, by_need, by_pick, first_of}
use Rattle.groups.specs.Modes.{separator, counted_at_end}
use Rattle.groups.specs.Formats.{Rule, is_drawn}
use Rattle.groups.specs.Table.{rows, lookup}
use Rattle.groups.specs.Stamps.{is_stamped, stamp_as}
use Rattle.groups.specs.Fields.{checked}
use Rattle.groups.specs.Groups.{Group, group_of, total, check, fields_of, behind_label, read}
use Rattle.groups.specs.Conditions.{first_at, label_of, body_of, misshapen, summed, sum_of, check_wrong, unlisted, stamp_followed, stamp_wrong, data_in, stamp_in, width_wrong, kind_wrong, field_conditions, conditions, marked_fields, fields_at}
use Rattle.groups.proofs.Laws.Tests.{split, equal_or}
use Rattle.groups.proofs.Laws.Groups.{total_end}
use Rattle.groups.proofs.Laws.Table.{listed_right}
use Rattle.groups.proofs.Laws.Made.{kind_agrees, width_agrees}
use Rattle.groups.specs.Numbers.{number_as}
use Rattle.groups.proofs.Laws.Named.{first_refusal, numbered, first_number}
use Rattle.groups.proofs.Laws.Places.{
  fields_plain,
  fields_short,
  fields_unparted,
  fields_stamped,
  behind_short,
  behind_open,
  behind_closed,
  read_long,
  read_uncut,
  read_unlabelled,
  read_cut,
}
use Rattle.groups.specs.declared.Mode.{Mode}
use Rattle.groups.specs.declared.Mode.TheVariants.{Historic, Standard, Business}
use Rattle.groups.specs.declared.Refusal.{Refusal}
use Rattle.groups.specs.declared.Refusal.TheVariants.{TooLong, Misshapen, CheckWrong, LabelUnknown, StampWrong, WidthWrong, KindWrong}

-- ---- The first separator

-- at its place stands a separator
pub first_there : (s : ℕ) (c : List ℕ) → first_at s c < length c → get_or c (first_at s c) 0 ≡ s
unfolding first_at
first_there s [] h = absurd (omega arith)
first_there s (x ∷ c) h =
    by_pick (λ (n : ℕ). n < suc (length c) → get_or (x ∷ c) n 0 ≡ s) (eqb x s) _ _
    (λ t h. eqb→eq x s t) (λ t h. first_there s c (omega arith)) h

-- and none stands before it
pub first_before : (s : ℕ) (c : List ℕ) (i : ℕ) → i < first_at s c → get_or c i 0 ≡ s → ⊥
unfolding first_at
first_before s [] i h e = omega arith
first_before s (x ∷ c) zero h e =
    by_pick (λ (n : ℕ). 0 < n → ⊥) (eqb x s) _ _ (λ t h. omega arith) (λ t h. eqb_no t e) h
first_before s (x ∷ c) (suc i) h e =
    by_pick (λ (n : ℕ). suc i < n → ⊥) (eqb x s) _ _ (λ t h. omega arith) (λ t h. first_before s c i (omega arith) e) h

-- ---- The shape: a first separator that is neither first of all nor final, and a final one

pub record Shaped (m : Mode) (c : List ℕ) : Type 0 where
  pub labelled : 1 ≤ first_at (separator m) c
  pub apart : first_at (separator m) c + 3 ≤ length c
  pub closed : get_or c (length c - 2) 0 ≡ separator m

-- a content that is not misshapen has this shape
pub shape : (m : Mode) (c : List ℕ) → T (not (misshapen m c)) → Shaped m c
unfolding misshapen
shape m c t =
    let f = first_at (separator m) c in
    let q = eqb (get_or c (length c - 2) 0) (separator m) in
    let u = or_no (ltb (length c) 4 || not q || eqb f 0) (eqb f (length c - 2)) t in
    let v = or_no (ltb (length c) 4 || not q) (eqb f 0) u.0 in
    let w = or_no (ltb (length c) 4) (not q) v.0 in
    let long = nltb→le (length c) 4 w.0 in
    let e = eqb→eq (get_or c (length c - 2) 0) (separator m) (T_not-not q w.1) in
    let first = eqb_no {a = f} {b = 0} v.1 in
    let final = eqb_no {a = f} {b = length c - 2} u.1 in
    split f (length c - 2)
    (λ h. record { labelled = omega arith; apart = omega arith; closed = e })
    (λ h. absurd (first_before (separator m) c (length c - 2) h e))

-- and one of this shape is not misshapen
right_shape : (m : Mode) (c : List ℕ) → Shaped m c → T (not (misshapen m c))
unfolding misshapen
right_shape m c s =
    let f = first_at (separator m) c in
    rw (
      le-ltb (length c) 4 (omega arith),
      eq-eqb _ _ s.closed,
      ne_eqb f 0 (λ e. omega arith),
      ne_eqb f (length c - 2) (λ e. omega arith),
    ) tt

-- ---- What stands behind k characters, from its end

module _ (c : List ℕ) (k j : ℕ) (h : k + j ≤ length c) where
  -- its character j from the end is the text's
  rest_at : get_or (drop k c) (length (drop k c) - j) 0 ≡ get_or c (length c - j) 0
  rest_at =
      let e : k + (length c - k - j) ≡ length c - j = omega arith in
      rw (length-drop, get_or-drop, e)

  -- without its last j it is the text without its last j, from there on
  pub rest_front : take (length (drop k c) - j) (drop k c) ≡ drop k (take (length c - j) c)
  rest_front =
      let e : length c - j ≡ k + (length c - k - j) = omega arith in
      let n : length (take k c) ≡ k = length-take-le k c (omega arith) in
      rw (length-drop, e, take-add, drop_at (take k c) (take (length c - k - j) (drop k c)) k n)

-- ---- What is misshapen

-- a misshapen content is refused as such
misshapen_read : (m : Mode) (c : List ℕ) → length c ≤ 128 → T (misshapen m c) → read m c ≡ refused Misshapen
misshapen_read m c h t =
    let f = first_at (separator m) c in
    split (length c) f (read_uncut m c f refl h) λ k.
    split 1 f (λ z. read_cut m c f refl h k z ∙ behind k z) (read_unlabelled m c f refl h k)
  where
    behind : first_at (separator m) c < length c → 1 ≤ first_at (separator m) c
        → behind_label m (take (first_at (separator m) c) c) (drop (first_at (separator m) c + 1) c) ≡ refused Misshapen
    behind k z =
        let f = first_at (separator m) c in
        split (f + 3) (length c)
        (λ a. equal_or (get_or c (length c - 2) 0) (separator m)
        (λ e. absurd (T_not (misshapen m c) (right_shape m c (record { labelled = z; apart = a; closed = e })) t))
        (λ n. behind_open m _ (drop (f + 1) c) (rw length-drop (omega arith))
        (λ e. n (sym (rest_at c (f + 1) 2 (omega arith)) ∙ e))))
        (λ a. behind_short m _ (drop (f + 1) c) (rw length-drop (omega arith)))

-- ---- The check character

-- a content without its last two characters, where the first separator stands before these
front_at : (s : ℕ) (c : List ℕ) → first_at s c + 3 ≤ length c
    → take (length c - 2) c ≡ take (first_at s c) c ++ s ∷ drop (first_at s c + 1) (take (length c - 2) c)
front_at s c h =
    let f = first_at s c in
    let k : f < length (take (length c - 2) c) = rw (length-take-le (length c - 2) c (omega arith)) (omega arith) in
    split_at (take (length c - 2) c) f 0 k
    ∙ rw (
      take-take f (length c - 2) c (omega arith),
      get_or-take (length c - 2) c f 0 (omega arith),
      first_there s c (omega arith),
      ← add-one f,
    )

-- the same by what stands behind the separator
pub front_behind : (s : ℕ) (c : List ℕ) (f : ℕ) → f ≡ first_at s c → 2 ≤ length (drop (f + 1) c)
    → take (length c - 2) c ≡ take f c ++ s ∷ take (length (drop (f + 1) c) - 2) (drop (f + 1) c)
front_behind s c f e h =
    let n = length-drop (f + 1) c in
    front_at s c (omega arith) ∙ rw (← e, ← (rest_front c (f + 1) 2 (omega arith)))

-- all that stands before the final separator: label, separator and body
front : (m : Mode) (c : List ℕ) → Shaped m c → take (length c - 2) c ≡ label_of m c ++ separator m ∷ body_of m c
unfolding label_of body_of
front m c s = front_at (separator m) c (omega arith)

-- the sum of the first n codes, place by place
sum_is : (n : ℕ) (c : List ℕ) → n ≤ length c → sum_of n c ≡ total (take n c)
unfolding sum_of
sum_is zero c h = refl
sum_is (suc n) c h = rw (sum_is n c (omega arith), take-suc c n 0 h, total_end)

-- the characters that enter the sum by places are those of label, separator and body, and the final separator where it
-- counts
sum_right : (m : Mode) (c : List ℕ) → Shaped m c
    → sum_of (summed m c) c ≡ total (label_of m c ++ separator m ∷ body_of m c) + counted_at_end m
sum_right Historic c s = rw (sum_is (length c - 2) c (omega arith), front Historic c s) (omega arith)
sum_right Business c s = rw (sum_is (length c - 2) c (omega arith), front Business c s) (omega arith)
sum_right Standard c s =
    let e : length c - 1 ≡ suc (length c - 2) = omega (arith, s.apart) in
    rw (
      sum_is (length c - 1) c (omega arith),
      e,
      take-suc c (length c - 2) 0 (omega (arith, s.apart)),
      s.closed,
      total_end,
      front Standard c s,
    )

-- how a content of the right shape is read on
shaped_read : (m : Mode) (c : List ℕ) → length c ≤ 128 → Shaped m c
    → read m c
    ≡ need (not (check_wrong m c)) CheckWrong
    (found (lookup (label_of m c) (rows m)) LabelUnknown λ r. fields_of m r (label_of m c) (body_of m c))
unfolding label_of body_of check_wrong check
shaped_read m c h s =
    let f = first_at (separator m) c in
    read_cut m c f refl h (omega arith) (omega arith)
    ∙ behind_closed m (take f c) (drop (f + 1) c) (rw length-drop (omega arith))
    (rest_at c (f + 1) 2 (omega arith) ∙ s.closed)
    ∙ rw (rest_at c (f + 1) 1 (omega arith), rest_front c (f + 1) 2 (omega arith), not-not, sum_right m c s)

-- ---- The conditions by the names of their refusals

abbrev named_fields : Mode → List ℕ → Option Rule → List (Refusal × Bool)
named_fields m body rule =
    (LabelUnknown, unlisted rule)
    ∷ (StampWrong, stamp_wrong m body rule)
    ∷ (WidthWrong, width_wrong body rule)
    ∷ (KindWrong, kind_wrong body rule)
    ∷ []

unfoldable pub named : Mode → List ℕ → List (Refusal × Bool)
named m c =
    (TooLong, ltb 128 (length c))
    ∷ (Misshapen, misshapen m c)
    ∷ (CheckWrong, check_wrong m c)
    ∷ named_fields m (body_of m c) (lookup (label_of m c) (rows m))

-- their numbers are document 01's
pub named_numbers : (m : Mode) (c : List ℕ) → numbered (named m c) ≡ conditions m c
unfolding named conditions
named_numbers m c = refl

-- ---- The fields

module _ (m : Mode) (r : Rule) (l b : List ℕ) (drawn : T (every is_drawn r.formats)) where
  -- reading by a rule: the conditions on stamp, width and kind
  fields_told : (k : Bool) → is_stamped r.mark ≡ k
      → fields_of m r l b ≡ first_refusal (named_fields m b (some r)) (group_of l (stamp_in k b) (data_in k b))
  unfolding first_refusal need checked stamp_followed stamp_as stamp_in data_in
  fields_told false e = fields_plain m r l b e ∙ rw (e, width_agrees r b, kind_agrees r b drawn) (simp not-not)
  fields_told true e =
      split 14 (length b)
      (λ h. equal_or (get_or b 13 0) (separator m)
      (λ q. fields_stamped m r l b e h q
      ∙ rw (e, eq-eqb _ _ q, lt-ltb 13 (length b) h, width_agrees r (drop 14 b), kind_agrees r (drop 14 b) drawn) (simp not-not))
      (λ n. fields_unparted m r l b e h n ∙ rw (e, ne_eqb _ _ n, lt-ltb 13 (length b) h)))
      (λ h. fields_short m r l b e h ∙ rw (e, le-ltb 13 (length b) (omega arith)))

  -- and its number
  pub fields_number : number_as 1 (fields_of m r l b) ≡ first_of 1 (field_conditions m b (some r))
  fields_number =
      ap (number_as 1) (fields_told (is_stamped r.mark) refl)
      ∙ first_number 1 (named_fields m b (some r)) (group_of l (stamp_in (is_stamped r.mark) b) (data_in (is_stamped r.mark) b))

-- and by the rule that the label has, if it has one
listed_told : (m : Mode) (c : List ℕ) (o : Option Rule) → lookup (label_of m c) (rows m) ≡ o
    → found o LabelUnknown (λ r. fields_of m r (label_of m c) (body_of m c))
    ≡ first_refusal (named_fields m (body_of m c) o) (marked_fields m c o)
unfolding found first_refusal need
listed_told m c none h = refl
listed_told m c (some r) h =
    fields_told m r (label_of m c) (body_of m c) (listed_right m (label_of m c) r h).all_drawn (is_stamped r.mark) refl

-- ---- All of it

-- reading is the refusal of the first condition that holds, or the fields by places where none does
pub read_by_conditions : (m : Mode) (c : List ℕ) → read m c ≡ first_refusal (named m c) (fields_at m c)
unfolding named first_refusal
read_by_conditions m c =
    by_need (λ (a : Answer Refusal Group). read m c ≡ a) (not (ltb 128 (length c))) TooLong _
    (λ t. read_long m c (ltb→lt 128 (length c) (T_not-not (ltb 128 (length c)) t)))
    (λ t.
    let h = nltb→le 128 (length c) t in
    by_need (λ (a : Answer Refusal Group). read m c ≡ a) (not (misshapen m c)) Misshapen _
    (λ u. misshapen_read m c h (T_not-not (misshapen m c) u))
    (λ u. shaped_read m c h (shape m c u)
    ∙ ap (need (not (check_wrong m c)) CheckWrong) (listed_told m c (lookup (label_of m c) (rows m)) refl)))
