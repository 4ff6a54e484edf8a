-- Pictures as the code goes over them: at a place, what is left decides; the forms of a rule one after the other; and data of
-- one kind and one width.
use Rattle.std.proofs.Common.{◌≡◌, refl, Bool, true, false, List, [], ◌∷◌, cond, ◌==◌, Less, Equal, Greater, ◌∙◌, ℕ, suc, ◌+◌, ◌-◌, ◌<◌, ◌≤◌, max, add-one, arith, eqb, leb, length, get_or, drop, drop_of_length-le, length-drop, replicate, drop-cons, drop-drop, eq-eqb, ne_eqb, le-leb, ltb, ltb→lt, nltb→le}
use Rattle.std.proofs.lemmas.Bool.{lt-leb}
use Rattle.std.proofs.lemmas.List.{length-replicate}
use Rattle.std.specs.Ordering.{is_lt, nat_cmp, ord_max}
use Rattle.std.proofs.Math.Dec.{not_T}
use Rattle.std.proofs.Math.Bool.{and-false}
use Rattle.characters.specs.Answers.{every, pick, is_true, is_false, from_true}
use Rattle.groups.specs.Kinds.{of_kind}
use Rattle.groups.specs.Forms.{Form, picture_of, takes, last_of, has_length, fits, some_fits}
use Rattle.groups.specs.Formats.{form_of, forms}
use Rattle.groups.specs.Fields.{width_right, kind_right}
use Rattle.groups.specs.Place.{agreed, reach, furthest, first_wrong}
use Rattle.groups.specs.Stored.{plain_rule, formed_rule, form_in, format_at, formats_from}
use Rattle.std.specs.List.{prefix_len}
use Rattle.groups.proofs.Laws.Tests.{split}
use Rattle.groups.proofs.Laws.Forms.{some_reached, reached_some, furthest_most, run_end, match_run, kind_takes, or_false, append_none}
use Rattle.groups.specs.declared.table.Form.{Form as StoredForm}
use Rattle.groups.specs.declared.table.Kind.{Kind}
use Rattle.groups.specs.declared.table.Plain.{Plain}
use Rattle.groups.specs.declared.table.Forms.{Forms}

-- ---- A picture and data, from the front

module _ (p d : List ℕ) (i : ℕ) where
  pub agreed_here : i < length p → i < length d → takes (get_or p i 0) (get_or d i 0) ≡ false → agreed (drop i p) (drop i d) ≡ 0
  unfolding agreed pick
  agreed_here h k e = rw (drop-cons p i 0 h, drop-cons d i 0 k, e)

  pub agreed_on : i < length p → i < length d → takes (get_or p i 0) (get_or d i 0) ≡ true
      → agreed (drop i p) (drop i d) ≡ suc (agreed (drop (i + 1) p) (drop (i + 1) d))
  unfolding agreed pick
  agreed_on h k e = rw (add-one i, drop-cons p i 0 h, drop-cons d i 0 k, e)

  pub agreed_over : length p ≤ i → agreed (drop i p) (drop i d) ≡ 0
  unfolding agreed
  agreed_over h = rw (drop_of_length-le p h)

-- ---- How far data got

module _ (fs : List Form) (d : List ℕ) where
  pub all_taken : furthest fs d ≡ length d + 1 → some_fits fs d ≡ true
  all_taken e = is_true (reached_some fs d (omega arith))

  pub not_taken : (furthest fs d ≡ length d + 1 → ⊥) → some_fits fs d ≡ false
  not_taken n = is_false (not_T (some_fits fs d) (λ t. n (omega (arith, some_reached fs d t))))

-- ---- A stored form

module _ (f : StoredForm) (d : List ℕ) where
  pub too_short : length d < f.0 → reach (form_in f) d ≡ 0
  unfolding form_in reach has_length pick
  too_short h = rw (lt-leb _ _ h)

  picture_length : length f.2 ≡ 21 → f.1 ≤ 21 → length (last_of f.1 f.2) ≡ f.1
  picture_length l h = simp length-drop (omega arith)

  pub too_long : length f.2 ≡ 21 → f.1 ≤ 21 → f.1 < length d → reach (form_in f) d ≡ 0
  unfolding form_in reach has_length pick
  too_long l m h = rw (picture_length l m, lt-leb _ _ h, and-false (leb f.0 (length d)))

  pub reached : length f.2 ≡ 21 → f.1 ≤ 21 → f.0 ≤ length d → length d ≤ f.1
      → reach (form_in f) d ≡ suc (agreed (drop (21 - length d) f.2) d)
  unfolding form_in reach has_length pick
  reached l m h k =
      let n : 21 - f.1 + (f.1 - length d) ≡ 21 - length d = omega arith in
      rw (picture_length l m, le-leb _ _ h, le-leb _ _ k, l, drop-drop (f.1 - length d) (21 - f.1) f.2, n)

-- ---- One form after the other

module _ (first count : ℕ) (d : List ℕ) (i best : ℕ) where
  pub furthest_on : i < count
      → max best (furthest (forms (formats_from (first + i) (count - i))) d)
      ≡ max (max best (reach (form_of (format_at (first + i))) d)) (furthest (forms (formats_from (first + (i + 1)) (count - (i + 1)))) d)
  unfolding formats_from furthest
  furthest_on h =
      let e : count - i ≡ suc (count - (i + 1)) = omega arith in
      let k : first + (i + 1) ≡ first + i + 1 = omega arith in
      rw (e, k) (omega arith)

  pub furthest_over : count ≤ i → max best (furthest (forms (formats_from (first + i) (count - i))) d) ≡ best
  unfolding formats_from furthest
  furthest_over h = let e : count - i ≡ 0 = omega arith in rw e (omega arith)

-- the greater of two in std's order is the greater
pub later_most : (a b : ℕ) → ord_max nat_cmp a b ≡ max a b
later_most a b = go (ltb b a) refl
  where
    other : (t : Bool) → cond (is_lt (cond t Equal Greater)) a b ≡ b
    other true = refl
    other false = refl

    go : (t : Bool) → ltb b a ≡ t → cond (is_lt (cond t Less (cond (b == a) Equal Greater))) a b ≡ max a b
    go true e = omega (arith, ltb→lt b a (from_true e))
    go false e = other (b == a) ∙ omega (arith, nltb→le b a (rw e tt))

-- ---- One kind and one width

agreed_run : (k : Kind) (d : List ℕ) → agreed (replicate (length d) (picture_of k)) d ≡ prefix_len (of_kind k) d
unfolding agreed pick
agreed_run k [] = refl
agreed_run k (c ∷ d) = rw (kind_takes k c, agreed_run k d) (chosen (of_kind k c))
  where
    chosen : (b : Bool) → pick b (suc (prefix_len (of_kind k) d)) 0 ≡ cond b (1 + prefix_len (of_kind k) d) 0
    chosen true = omega arith
    chosen false = refl

module _ (p : Plain) (d : List ℕ) where
  pub plain_width : width_right (plain_rule p) (length d) ≡ eqb (length d) p.width
  unfolding width_right
  plain_width =
      split p.width (length d)
      (λ h. split (length d) p.width
      (λ j. rw (le-leb _ _ h, le-leb _ _ j, eq-eqb (length d) p.width (omega arith)))
      (λ j. rw (le-leb _ _ h, lt-leb _ _ j, ne_eqb (length d) p.width (λ e. omega arith))))
      (λ h. rw (lt-leb _ _ h, ne_eqb (length d) p.width (λ e. omega arith)))

  pub plain_kind : length d ≡ p.width → kind_right (plain_rule p) d ≡ every (of_kind p.kind) d
  unfolding kind_right some_fits fits has_length form_of
  plain_kind e =
      rw (
        ← e,
        append_none (length d) (picture_of p.kind),
        run_end p.kind (length d) (length d) (omega arith),
        length-replicate (length d) (picture_of p.kind),
        le-leb (length d + 0) (length d) (omega arith),
        le-leb (length d) (length d) (omega arith),
        match_run p.kind d,
      ) (or_false (every (of_kind p.kind) d))

  -- data of the width go wrong at the first character that is not of the kind, data of another at once
  pub plain_wrong : length d ≡ p.width → first_wrong (plain_rule p) d ≡ prefix_len (of_kind p.kind) d
  unfolding first_wrong furthest reach has_length form_of pick
  plain_wrong e =
      rw (
        ← e,
        append_none (length d) (picture_of p.kind),
        run_end p.kind (length d) (length d) (omega arith),
        length-replicate (length d) (picture_of p.kind),
        le-leb (length d + 0) (length d) (omega arith),
        le-leb (length d) (length d) (omega arith),
        agreed_run p.kind d,
      ) (omega arith)

  pub plain_unfit : (length d ≡ p.width → ⊥) → first_wrong (plain_rule p) d ≡ 0
  unfolding first_wrong furthest reach has_length form_of pick
  plain_unfit n =
      let most = length-replicate p.width (picture_of p.kind) in
      rw (append_none p.width (picture_of p.kind), most)
      (split (p.width + 0) (length d)
      (λ h. split (length d) p.width (λ j. absurd (n (omega arith))) (λ j. rw (le-leb _ _ h, lt-leb _ _ j)))
      (λ h. rw (lt-leb _ _ h)))

-- ---- Where forms go wrong

module _ (f : Forms) (d : List ℕ) where
  pub formed_wrong : first_wrong (formed_rule f) d ≡ furthest (forms (formats_from f.first f.count)) d - 1
  unfolding first_wrong
  formed_wrong = refl

  pub wrong_most : first_wrong (formed_rule f) d ≤ length d
  unfolding first_wrong
  wrong_most = omega (arith, furthest_most (forms (formats_from f.first f.count)) d)
