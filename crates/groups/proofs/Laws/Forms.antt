-- The laws of forms: data get past their end in some form exactly when some form takes them; a picture in two parts; a run of
-- one kind.
use Rattle.std.proofs.Common.{◌≡◌, refl, Bool, true, false, ◌&&◌, ◌||◌, List, [], ◌∷◌, ◌++◌, leb, length, take, drop, replicate, ◌∙◌, ⊎_elim, append-nil, arith, length-append, length-drop, ℕ, zero, suc, ◌+◌, ◌-◌, ◌≤◌, ap, T, leb→le}
use Rattle.std.proofs.lemmas.List.{length-replicate, drop-append-le}
use Rattle.std.proofs.Math.Facts.{and_yes, yes_and, or_yes}
use Rattle.characters.specs.Answers.{every, pick, pick_yes, by_pick}
use Rattle.groups.specs.Kinds.{of_kind}
use Rattle.groups.specs.Forms.{Form, picture_of, takes, last_of, matches, has_length, fits, some_fits}
use Rattle.groups.specs.Place.{agreed, reach, furthest}
use Rattle.groups.proofs.Laws.Tests.{split}
use Rattle.groups.specs.declared.table.Kind.{Kind}
use Rattle.groups.specs.declared.table.Kind.TheVariants.{Digits, Hex, Text}

-- ---- A picture and data

pub match_length : (p d : List ℕ) → T (matches p d) → length p ≡ length d
unfolding matches
match_length [] [] t = refl
match_length [] (c ∷ d) t = absurd t
match_length (x ∷ p) [] t = absurd t
match_length (x ∷ p) (c ∷ d) t = ap suc (match_length p d (and_yes (takes x c) (matches p d) t).1)

match_agreed : (p d : List ℕ) → T (matches p d) → agreed p d ≡ length d
unfolding matches agreed
match_agreed [] [] t = refl
match_agreed [] (c ∷ d) t = absurd t
match_agreed (x ∷ p) [] t = absurd t
match_agreed (x ∷ p) (c ∷ d) t =
    let h = and_yes (takes x c) (matches p d) t in
    pick_yes (takes x c) _ _ h.0 ∙ ap suc (match_agreed p d h.1)

agreed_match : (p d : List ℕ) → length p ≡ length d → agreed p d ≡ length d → T (matches p d)
unfolding matches agreed
agreed_match [] [] l e = tt
agreed_match [] (c ∷ d) l e = absurd (omega arith)
agreed_match (x ∷ p) [] l e = absurd (omega arith)
agreed_match (x ∷ p) (c ∷ d) l e =
    by_pick (λ (n : ℕ). n ≡ suc (length d) → T (takes x c && matches p d)) (takes x c) _ _
    (λ t e. yes_and (takes x c) (matches p d) t (agreed_match p d (omega arith) (omega arith)))
    (λ t e. absurd (omega arith)) e

pub agreed_most : (p d : List ℕ) → agreed p d ≤ length d
unfolding agreed
agreed_most [] d = omega arith
agreed_most (x ∷ p) [] = omega arith
agreed_most (x ∷ p) (c ∷ d) =
    let k = agreed_most p d in
    by_pick (λ (n : ℕ). n ≤ suc (length d)) (takes x c) _ _ (λ t. omega arith) (λ t. omega arith)

-- a picture in two parts
pub match_parts : (p q d : List ℕ) → T (matches (p ++ q) d)
    → (length p ≤ length d) × T (matches p (take (length p) d)) × T (matches q (drop (length p) d))
unfolding matches
match_parts [] q d t = (omega arith, tt, t)
match_parts (x ∷ p) q [] t = absurd t
match_parts (x ∷ p) q (c ∷ d) t =
    let (u, v) = and_yes (takes x c) (matches (p ++ q) d) t in
    let (l, w, z) = match_parts p q d v in
    (omega arith, yes_and (takes x c) (matches p (take (length p) d)) u w, z)

pub parts_match : (p q a b : List ℕ) → T (matches p a) → T (matches q b) → T (matches (p ++ q) (a ++ b))
unfolding matches
parts_match [] q [] b t u = u
parts_match [] q (c ∷ a) b t u = absurd t
parts_match (x ∷ p) q [] b t u = absurd t
parts_match (x ∷ p) q (c ∷ a) b t u =
    let (v, w) = and_yes (takes x c) (matches p a) t in
    yes_and (takes x c) (matches (p ++ q) (a ++ b)) v (parts_match p q a b w u)

-- the end of a picture in two parts: the end of the first, and the second
pub last_parts : (n : ℕ) (p q : List ℕ) → n ≤ length p → last_of (n + length q) (p ++ q) ≡ last_of n p ++ q
last_parts n p q h =
    let e : length p + length q - (n + length q) ≡ length p - n = omega arith in
    rw (length-append p q, e) (drop-append-le (length p - n) p q (omega arith))

pub last_whole : (p : List ℕ) → last_of (length p) p ≡ p
last_whole p = let e : length p - length p ≡ 0 = omega arith in rw e

-- ---- A form and data

module _ (f : Form) (d : List ℕ) where
  -- the end of the picture that data of its length stand against
  abbrev against : List ℕ
  against = last_of (length d) f.picture

  pub length_is_right : T (has_length f (length d)) → (f.least ≤ length d) × (length d ≤ length f.picture)
  unfolding has_length
  length_is_right t =
      let h = and_yes (leb f.least (length d)) (leb (length d) (length f.picture)) t in
      (leb→le _ _ h.0, leb→le _ _ h.1)

  against_length : T (has_length f (length d)) → length against ≡ length d
  against_length t = simp length-drop (omega (arith, (length_is_right t).1))

  reach_most : reach f d ≤ suc (length d)
  unfolding reach
  reach_most =
      let k = agreed_most against d in
      by_pick (λ (n : ℕ). n ≤ suc (length d)) (has_length f (length d)) _ _ (λ t. omega arith) (λ t. omega arith)

  fits_reached : T (fits f d) → reach f d ≡ suc (length d)
  unfolding fits reach
  fits_reached t =
      let h = and_yes (has_length f (length d)) (matches against d) t in
      pick_yes (has_length f (length d)) _ _ h.0 ∙ ap suc (match_agreed against d h.1)

  reached_fits : reach f d ≡ suc (length d) → T (fits f d)
  unfolding fits reach
  reached_fits e =
      by_pick (λ (n : ℕ). n ≡ suc (length d) → T (has_length f (length d) && matches against d)) (has_length f (length d)) _ _
      (λ t e. yes_and (has_length f (length d)) (matches against d) t (agreed_match against d (against_length t) (omega arith)))
      (λ t e. absurd (omega arith)) e

pub or_left : (a b : Bool) → T a → T (a || b)
or_left true b t = tt
or_left false b t = absurd t

pub or_false : (a : Bool) → (a || false) ≡ a
or_false true = refl
or_false false = refl

pub or_right : (a b : Bool) → T b → T (a || b)
or_right true b t = tt
or_right false b t = t

pub furthest_most : (fs : List Form) (d : List ℕ) → furthest fs d ≤ suc (length d)
unfolding furthest
furthest_most [] d = omega arith
furthest_most (f ∷ fs) d = omega (arith, reach_most f d, furthest_most fs d)

pub some_reached : (fs : List Form) (d : List ℕ) → T (some_fits fs d) → furthest fs d ≡ suc (length d)
unfolding furthest some_fits
some_reached [] d t = absurd t
some_reached (f ∷ fs) d t =
    ⊎_elim (λ t. omega (arith, fits_reached f d t, furthest_most fs d))
    (λ t. omega (arith, reach_most f d, some_reached fs d t)) (or_yes (fits f d) (some_fits fs d) t)

pub reached_some : (fs : List Form) (d : List ℕ) → furthest fs d ≡ suc (length d) → T (some_fits fs d)
unfolding furthest some_fits
reached_some [] d e = absurd (omega arith)
reached_some (f ∷ fs) d e =
    split (suc (length d)) (reach f d)
    (λ h. or_left (fits f d) (some_fits fs d) (reached_fits f d (omega (arith, reach_most f d))))
    (λ h. or_right (fits f d) (some_fits fs d) (reached_some fs d (omega arith)))

-- ---- A run of one kind

pub kind_takes : (k : Kind) (c : ℕ) → takes (picture_of k) c ≡ of_kind k c
unfolding takes pick
kind_takes Digits c = refl
kind_takes Hex c = refl
kind_takes Text c = refl

drop_run : (a n m : ℕ) → drop n (replicate (n + m) a) ≡ replicate m a
drop_run a zero m = let e : 0 + m ≡ m = omega arith in rw e
drop_run a (suc n) m = let e : suc n + m ≡ suc (n + m) = omega arith in rw e (drop_run a n m)

-- the end of a run is a shorter run
pub run_end : (k : Kind) (most n : ℕ) → n ≤ most → last_of n (replicate most (picture_of k)) ≡ replicate n (picture_of k)
run_end k most n h =
    let e : most ≡ most - n + n = omega arith in
    rw (length-replicate most (picture_of k))
    (ap (λ (j : ℕ). drop (most - n) (replicate j (picture_of k))) e ∙ drop_run (picture_of k) (most - n) n)

pub match_run : (k : Kind) (d : List ℕ) → matches (replicate (length d) (picture_of k)) d ≡ every (of_kind k) d
unfolding matches
match_run k [] = refl
match_run k (c ∷ d) = rw (kind_takes k c, match_run k d)

-- a run with nothing behind it
pub append_none : (n a : ℕ) → replicate n a ++ [] ≡ replicate n a
append_none n a = append-nil (replicate n a)
