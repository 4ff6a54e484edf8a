-- Data fit the form of a format exactly when they are made of its fields.
use Rattle.std.proofs.Common.{◌≡◌, refl, Bool, true, false, not, ◌&&◌, ◌||◌, List, [], ◌∷◌, ◌++◌, ℕ, zero, suc, ◌+◌, ◌-◌, ◌≤◌, T, eqb, leb, ltb, length, take, drop, sym, ap, ◌∙◌, subst, ⊎_elim, arith, eqb→eq, leb→le, le→leb, T_not, length-append, length-drop, take-append-drop, length-take-le, ne_eqb, le-leb, le-ltb, lt-ltb}
use Rattle.std.proofs.lemmas.List.{length-replicate}
use Rattle.std.proofs.Math.Facts.{and_yes, yes_and, or_yes, yes_eqb}
use Rattle.std.proofs.lemmas.Bool.{lt-leb}
use Rattle.characters.specs.Answers.{every, pick}
use Rattle.groups.specs.Kinds.{within}
use Rattle.groups.specs.Forms.{Form, picture_of, takes, last_of, matches, has_length, fits, some_fits}
use Rattle.groups.specs.Formats.{
  Field,
  Rule,
  run,
  text,
  comma_or_point,
  least_of,
  longest_of,
  form_of,
  forms,
  stands_for_itself,
  drawable,
  is_fixed,
  are_fixed,
  is_drawn,
}
use Rattle.groups.specs.Table.{same}
use Rattle.groups.specs.Spelled.{among, spelled}
use Rattle.groups.specs.Fields.{width_right, kind_right}
use Rattle.groups.specs.Conditions.{outside}
use Rattle.groups.specs.Made.{is_field, some_up_to, made_of, some_made}
use Rattle.groups.proofs.Laws.Tests.{split, equal_or, one_test}
use Rattle.groups.proofs.Laws.Forms.{
  match_length,
  match_parts,
  parts_match,
  match_run,
  last_parts,
  last_whole,
  run_end,
  length_is_right,
  or_left,
  or_right,
}
use Rattle.groups.proofs.Laws.Stamps.{kinds_agree_in}
use Rattle.groups.specs.declared.table.Kind.{Kind}

-- ---- Lengths

-- data that fit, by their length and the picture's end
module _ (f : Form) (d : List ℕ) where
  fits_parts : T (fits f d) → (f.least ≤ length d) × (length d ≤ length f.picture) × T (matches (last_of (length d) f.picture) d)
  unfolding fits
  fits_parts t =
      let (h, u) = and_yes (has_length f (length d)) (matches (last_of (length d) f.picture) d) t in
      let (l, k) = length_is_right f d h in
      (l, k, u)

  parts_fit : f.least ≤ length d → length d ≤ length f.picture → T (matches (last_of (length d) f.picture) d) → T (fits f d)
  unfolding fits has_length
  parts_fit l k u =
      yes_and (has_length f (length d)) (matches (last_of (length d) f.picture) d)
      (yes_and (leb f.least (length d)) (leb (length d) (length f.picture)) (le→leb _ _ l) (le→leb _ _ k)) u

-- ---- One field

abbrev form_of_field : Field → Form
form_of_field f = record { least = least_of f; picture = longest_of f }

-- a character that stands for itself takes itself alone
takes_itself : (p c : ℕ) → T (stands_for_itself p) → takes p c ≡ eqb c p
unfolding takes pick
takes_itself p c t =
    let printed = within 0x20 0x7E p in
    let (a, comma) = and_yes (printed && not (eqb p 0x39) && not (eqb p 0x30) && not (eqb p 0x2A)) (not (eqb p 0x2C)) t in
    let (b, star) = and_yes (printed && not (eqb p 0x39) && not (eqb p 0x30)) (not (eqb p 0x2A)) a in
    let (e, naught) = and_yes (printed && not (eqb p 0x39)) (not (eqb p 0x30)) b in
    let (g, nine) = and_yes printed (not (eqb p 0x39)) e in
    rw (
      ne_eqb p 0x39 (λ q. T_not (eqb p 0x39) nine (yes_eqb q)),
      ne_eqb p 0x30 (λ q. T_not (eqb p 0x30) naught (yes_eqb q)),
      ne_eqb p 0x2A (λ q. T_not (eqb p 0x2A) star (yes_eqb q)),
      ne_eqb p 0x2C (λ q. T_not (eqb p 0x2C) comma (yes_eqb q)),
    )

-- and a text of such takes itself alone
match_same : (t d : List ℕ) → T (every stands_for_itself t) → matches t d ≡ same d t
unfolding matches
match_same [] [] w = refl
match_same [] (c ∷ d) w = refl
match_same (x ∷ t) [] w = refl
match_same (x ∷ t) (c ∷ d) w =
    let (u, v) = and_yes (stands_for_itself x) (every stands_for_itself t) w in
    rw (takes_itself x c u, match_same t d v)

module _ (k : Kind) (a b : ℕ) (d : List ℕ) where
  run_fits : T (is_field (run k a b) d) → T (fits (form_of_field (run k a b)) d)
  run_fits t =
      let (h, u) = and_yes (leb a (length d) && leb (length d) b) (every (among (spelled k)) d) t in
      let (l, m) = and_yes (leb a (length d)) (leb (length d) b) h in
      let n = leb→le (length d) b m in
      parts_fit (form_of_field (run k a b)) d (leb→le a (length d) l) (rw (length-replicate b (picture_of k)) n)
      (rw (run_end k b (length d) n, match_run k d, kinds_agree_in k d) u)

  fits_run : T (fits (form_of_field (run k a b)) d) → T (is_field (run k a b) d)
  fits_run t =
      let (l, m, u) = fits_parts (form_of_field (run k a b)) d t in
      let n : length d ≤ b = omega (arith, m, length-replicate b (picture_of k)) in
      let e = run_end k b (length d) n in
      let v : T (every (among (spelled k)) d) =
      subst T (ap (λ (p : List ℕ). matches p d) e ∙ match_run k d ∙ kinds_agree_in k d) u in
      yes_and (leb a (length d) && leb (length d) b) (every (among (spelled k)) d)
      (yes_and (leb a (length d)) (leb (length d) b) (le→leb _ _ l) (le→leb _ _ n)) v

-- data of the picture's own length
module _ (least : ℕ) (p d : List ℕ) where
  whole_fits : least ≤ length p → T (matches p d) → T (fits (record { least = least; picture = p }) d)
  whole_fits h t =
      let l = match_length p d t in
      parts_fit (record { least = least; picture = p }) d (omega arith) (omega arith)
      (subst (λ (n : ℕ). T (matches (last_of n p) d)) l (rw (last_whole p) t))

  fits_whole : length p ≤ least → T (fits (record { least = least; picture = p }) d) → T (matches p d)
  fits_whole h t =
      let (l, m, u) = fits_parts (record { least = least; picture = p }) d t in
      let e : length d ≡ length p = omega arith in
      subst (λ (q : List ℕ). T (matches q d)) (ap (λ (n : ℕ). last_of n p) e ∙ last_whole p) u

-- one comma or point
sign_agree : (d : List ℕ) → matches (0x2C ∷ []) d ≡ is_field comma_or_point d
unfolding matches takes pick
sign_agree [] = refl
sign_agree (c ∷ []) = go (eqb c 0x2C) (eqb c 0x2E)
  where
    go : (a b : Bool) → ((a || b) && true) ≡ ((a && true) || (b && true))
    go true b = refl
    go false true = refl
    go false false = refl
sign_agree (c ∷ x ∷ d) = go (eqb c 0x2C) (eqb c 0x2E)
  where
    go : (a b : Bool) → ((a || b) && false) ≡ ((a && false) || (b && false))
    go true true = refl
    go true false = refl
    go false true = refl
    go false false = refl

field_fits : (f : Field) (d : List ℕ) → T (drawable f) → T (is_field f d) → T (fits (form_of_field f) d)
field_fits (run k a b) d w t = run_fits k a b d t
field_fits (text s) d w t = whole_fits (length s) s d (omega arith) (rw (match_same s d w) t)
field_fits comma_or_point d w t = whole_fits 1 (0x2C ∷ []) d (omega arith) (rw (sign_agree d) t)

fits_field : (f : Field) (d : List ℕ) → T (drawable f) → T (fits (form_of_field f) d) → T (is_field f d)
fits_field (run k a b) d w t = fits_run k a b d t
fits_field (text s) d w t = subst T (match_same s d w) (fits_whole (length s) s d (omega arith) t)
fits_field comma_or_point d w t = subst T (sign_agree d) (fits_whole 1 (0x2C ∷ []) d (omega arith) t)

-- ---- All fields

-- the first that passes
pub some_found : (g : ℕ → Bool) (n : ℕ) → T (some_up_to g n) → (k : ℕ) × (k ≤ n) × T (g k)
unfolding some_up_to
some_found g zero t = (0, omega arith, t)
some_found g (suc n) t =
    ⊎_elim (λ u. (suc n, omega arith, u)) (λ u. let (k, h, v) = some_found g n u in (k, omega arith, v))
    (or_yes (g (suc n)) (some_up_to g n) t)

pub found_some : (g : ℕ → Bool) (n k : ℕ) → k ≤ n → T (g k) → T (some_up_to g n)
unfolding some_up_to
found_some g zero k h t = let e : k ≡ 0 = omega arith in subst (λ (j : ℕ). T (g j)) e t
found_some g (suc n) k h t =
    equal_or k (suc n) (λ e. or_left (g (suc n)) (some_up_to g n) (subst (λ (j : ℕ). T (g j)) e t))
    (λ z. or_right (g (suc n)) (some_up_to g n) (found_some g n k (omega arith) t))

-- fields that don't vary have a form that does not
fixed_least : (fs : List Field) → T (are_fixed fs) → (form_of fs).least ≡ length (form_of fs).picture
unfolding form_of
fixed_least [] t = refl
fixed_least (f ∷ fs) t =
    let (u, v) = and_yes (drawable f && is_fixed f) (are_fixed fs) t in
    let e = eqb→eq (least_of f) (length (longest_of f)) (and_yes (drawable f) (is_fixed f) u).1 in
    rw (length-append (longest_of f) (form_of fs).picture) (omega (arith, e, fixed_least fs v))

fixed_drawn : (fs : List Field) → T (are_fixed fs) → T (is_drawn fs)
fixed_drawn [] t = tt
fixed_drawn (f ∷ fs) t =
    let (u, v) = and_yes (drawable f && is_fixed f) (are_fixed fs) t in
    yes_and (drawable f) (are_fixed fs) (and_yes (drawable f) (is_fixed f) u).0 v

no_length : (d : List ℕ) → length d ≡ 0 → d ≡ []
no_length [] e = refl
no_length (x ∷ d) e = absurd (omega arith)

made_fits : (fs : List Field) (d : List ℕ) → T (is_drawn fs) → T (made_of fs d) → T (fits (form_of fs) d)
unfolding made_of form_of matches
made_fits [] d w t = rw (no_length d (eqb→eq (length d) 0 t)) (whole_fits 0 [] [] (omega arith) tt)
made_fits (f ∷ fs) d w t =
    let (u, v) = and_yes (drawable f) (are_fixed fs) w in
    let (n, h, z) = some_found (λ n. is_field f (take n d) && made_of fs (drop n d)) (length d) t in
    let (x, y) = and_yes (is_field f (take n d)) (made_of fs (drop n d)) z in
    let q = (form_of fs).picture in
    let e = fixed_least fs v in
    let front = fits_parts (form_of_field f) (take n d) (field_fits f (take n d) u x) in
    let rest = fits_whole (form_of fs).least q (drop n d) (omega arith) (made_fits fs (drop n d) (fixed_drawn fs v) y) in
    let a = length-take-le n d h in
    let b = match_length q (drop n d) rest in
    let c = length-drop n d in
    let l : length d ≡ length (take n d) + length q = omega arith in
    parts_fit (form_of (f ∷ fs)) d (omega (arith, front.0)) (rw (length-append (longest_of f) q) (omega (arith, front.1)))
    (subst (λ (k : ℕ). T (matches (last_of k (longest_of f ++ q)) d)) (sym l)
    (rw (last_parts (length (take n d)) (longest_of f) q front.1)
    (subst (λ (x : List ℕ). T (matches (last_of (length (take n d)) (longest_of f) ++ q) x)) (take-append-drop n d)
    (parts_match (last_of (length (take n d)) (longest_of f)) q (take n d) (drop n d) front.2 rest))))

fits_made : (fs : List Field) (d : List ℕ) → T (is_drawn fs) → T (fits (form_of fs) d) → T (made_of fs d)
unfolding made_of form_of
fits_made [] d w t = let (l, k, u) = fits_parts (form_of []) d t in yes_eqb {a = length d} {b = 0} (omega arith)
fits_made (f ∷ fs) d w t =
    let (u, v) = and_yes (drawable f) (are_fixed fs) w in
    let q = (form_of fs).picture in
    let e = fixed_least fs v in
    let (l, k, z) = fits_parts (form_of (f ∷ fs)) d t in
    let n = length d - length q in
    let j = length-append (longest_of f) q in
    let s : length d ≡ n + length q = omega arith in
    let m : n ≤ length (longest_of f) = omega arith in
    let whole = subst (λ (p : List ℕ). T (matches p d)) (ap (λ (i : ℕ). last_of i (longest_of f ++ q)) s ∙ last_parts n (longest_of f) q m) z in
    let (h, x, y) = match_parts (last_of n (longest_of f)) q d whole in
    let a : length (last_of n (longest_of f)) ≡ n = length-drop (length (longest_of f) - n) (longest_of f) ∙ omega arith in
    let b = length-take-le n d (omega arith) in
    let front = subst (λ (i : ℕ). T (matches (last_of n (longest_of f)) (take i d))) a x in
    let rest = subst (λ (i : ℕ). T (matches q (drop i d))) a y in
    found_some (λ n. is_field f (take n d) && made_of fs (drop n d)) (length d) n (omega arith)
    (yes_and (is_field f (take n d)) (made_of fs (drop n d))
    (fits_field f (take n d) u
    (parts_fit (form_of_field f) (take n d) (omega arith) (omega arith)
    (subst (λ (i : ℕ). T (matches (last_of i (longest_of f)) (take n d))) (sym b) front)))
    (fits_made fs (drop n d) (fixed_drawn fs v) (whole_fits (form_of fs).least q (drop n d) (omega arith) rest)))

-- data have a form of one of the formats exactly when they are made of one of them
pub made_agrees : (formats : List (List Field)) (d : List ℕ) → T (every is_drawn formats) → some_fits (forms formats) d ≡ some_made formats d
unfolding some_fits some_made
made_agrees [] d t = refl
made_agrees (fs ∷ more) d t =
    let (u, v) = and_yes (is_drawn fs) (every is_drawn more) t in
    rw (one_test (fits (form_of fs) d) (made_of fs d) (fits_made fs d u) (made_fits fs d u), made_agrees more d v)

-- ---- What a rule asks of data

pub kind_agrees : (rule : Rule) (d : List ℕ) → T (every is_drawn rule.formats) → kind_right rule d ≡ some_made rule.formats d
unfolding kind_right
kind_agrees rule d t = made_agrees rule.formats d t

-- one order or the other, as tests
pub le_or : (a b : ℕ) → leb a b ≡ not (ltb b a)
le_or a b = split a b (λ h. rw (le-leb a b h, le-ltb b a h)) (λ h. rw (lt-leb a b h, lt-ltb b a h))

neither : (a b : Bool) → (not a && not b) ≡ not (a || b)
neither true b = refl
neither false b = refl

pub width_agrees : (rule : Rule) (d : List ℕ) → width_right rule (length d) ≡ not (outside rule d)
unfolding width_right
width_agrees rule d =
    rw (le_or rule.smallest (length d), le_or (length d) rule.largest)
    (neither (ltb (length d) rule.smallest) (ltb rule.largest (length d)))
