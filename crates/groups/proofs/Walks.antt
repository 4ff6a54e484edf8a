-- The definitions over lists, as a loop from the front uses them: at a place, what is left decides.
use Rattle.std.proofs.Common.{◌≡◌, refl, sym, ap, ◌∙◌, Bool, true, false, ◌&&◌, cond, List, [], ◌∷◌, ◌++◌, ℕ, suc, ◌+◌, ◌-◌, ◌%◌, ◌<◌, ◌≤◌, min, add-one, arith, T, eqb, leb, leb→le, length, get_or, take, drop, drop_of_length-le, length-drop, length-take, drop-cons, get_or-drop, take-add, take_all, take-append-drop, drop-drop, eq-eqb, ne_eqb, eqb-true}
use Rattle.std.proofs.lemmas.Bool.{eqb-false}
use Rattle.std.proofs.lemmas.List.Folds.{prefix_len-append}
use Rattle.std.proofs.Math.Facts.{and_yes}
use Rattle.characters.specs.Answers.{every, every_at, from_true, is_true, pick}
use Rattle.characters.specs.Passing.{Pass}
use Rattle.groups.specs.Kinds.{of_kind}
use Rattle.groups.specs.Modes.{separator, counted_at_end}
use Rattle.groups.specs.Groups.{total, check}
use Rattle.groups.specs.Conditions.{first_at}
use Rattle.groups.specs.Inside.{check_from, ContentWalk, FrontSum, RightUpTo, StartsWith}
use Rattle.groups.proofs.Laws.Tests.{split}
use Rattle.groups.proofs.Laws.Conditions.{front_behind}
use Rattle.groups.specs.declared.Mode.{Mode}
use Rattle.std.specs.List.{fold, prefix_len}
use Rattle.groups.specs.declared.table.Kind.TheVariants.{Digits}

-- a content begins with what is taken from its front
pub starts_with : (n : ℕ) (c : List ℕ) → StartsWith (take n c) c
starts_with n c = record { inside = simp length-take (omega arith); begins = whole (length-take n c) }
  where
    whole : length (take n c) ≡ min n (length c) → take (length (take n c)) c ≡ take n c
    whole e =
        split n (length c)
        (λ h. let z : length (take n c) ≡ n = simp length-take (omega arith) in rw z)
        (λ h. let z : length (take n c) ≡ length c = simp length-take (omega arith) in
        rw z (take_all (length c) c (omega arith) ∙ sym (take_all n c (omega arith))))

-- a part that runs to the end
pub to_end : {A : Type 0} (a : ℕ) (s : List A) → take (length s - a) (drop a s) ≡ drop a s
to_end a s = take_all (length s - a) (drop a s) (simp length-drop (omega arith))

module _ (s : ℕ) (c : List ℕ) (i : ℕ) where
  pub first_here : i < length c → get_or c i 0 ≡ s → first_at s (drop i c) ≡ 0
  unfolding first_at pick
  first_here h e = rw (drop-cons c i 0 h, eq-eqb _ _ e)

  pub first_on : i < length c → (get_or c i 0 ≡ s → ⊥) → first_at s (drop i c) ≡ suc (first_at s (drop (i + 1) c))
  unfolding first_at pick
  first_on h e = rw (add-one i, drop-cons c i 0 h, ne_eqb _ _ e)

  pub first_over : length c ≤ i → first_at s (drop i c) ≡ 0
  unfolding first_at
  first_over h = rw (drop_of_length-le c h)

eqb_suc : (a b : ℕ) → eqb (suc a) (suc b) ≡ eqb a b
eqb_suc a b = go (eqb a b) refl
  where
    go : (t : Bool) → eqb a b ≡ t → eqb (suc a) (suc b) ≡ t
    go true e = eq-eqb (suc a) (suc b) (ap suc (eqb-true a b e))
    go false e = ne_eqb (suc a) (suc b) (λ z. eqb-false a b e (omega arith))

-- all pass exactly when the first that fails is past the end
wrong_nowhere : (f : ℕ → Bool) (c : List ℕ) → eqb (prefix_len f c) (length c) ≡ every f c
wrong_nowhere f [] = refl
wrong_nowhere f (x ∷ c) = go (f x) (wrong_nowhere f c)
  where
    go : (b : Bool) → eqb (prefix_len f c) (length c) ≡ every f c
        → eqb (cond b (1 + prefix_len f c) 0) (suc (length c)) ≡ (b && every f c)
    go true e =
        let one : 1 + prefix_len f c ≡ suc (prefix_len f c) = omega arith in
        rw one (eqb_suc (prefix_len f c) (length c) ∙ e)
    go false e = ne_eqb 0 (suc (length c)) (λ z. omega arith)

pub wrong_none : (f : ℕ → Bool) (c : List ℕ) (n : ℕ) → length c ≡ n → eqb (prefix_len f c) n ≡ every f c
wrong_none f c n e = rw (← e) (wrong_nowhere f c)

pub all_right : (f : ℕ → Bool) (c : List ℕ) → prefix_len f c ≡ length c → every f c ≡ true
all_right f c e = sym (wrong_nowhere f c) ∙ eq-eqb _ _ e

pub some_wrong : (f : ℕ → Bool) (c : List ℕ) → (prefix_len f c ≡ length c → ⊥) → every f c ≡ false
some_wrong f c e = sym (wrong_nowhere f c) ∙ ne_eqb _ _ e

-- tests in one chain that none leaves
folded_every : (f : ℕ → Bool) (right : Bool) (c : List ℕ) → fold (λ right x. right && f x) right c ≡ (right && every f c)
folded_every f true [] = refl
folded_every f false [] = refl
folded_every f true (x ∷ c) = folded_every f (f x) c
folded_every f false (x ∷ c) = folded_every f false c

-- what follows as many that pass decides
all_passed : (f : ℕ → Bool) (c rest : List ℕ) → every f c ≡ true → prefix_len f (c ++ rest) ≡ length c + prefix_len f rest
all_passed f c rest e = rw (prefix_len-append f c rest, wrong_nowhere f c, e)

-- eight that pass, from a place on, are counted with those before it
pub eight_further : (f : ℕ → Bool) (c : List ℕ) (i : ℕ) (eight : List ℕ) → RightUpTo f c i
    → eight ≡ take 8 (take (length c - i) (drop i c)) → length eight ≡ 8 → fold (λ right x. right && f x) true eight ≡ true
    → RightUpTo f c (i + 8)
eight_further f c i eight r e n right =
    let cut : eight ≡ take 8 (drop i c) = e ∙ ap (take 8) (to_end i c) in
    let long = ap length cut in
    let on : prefix_len f (drop i c) ≡ length eight + prefix_len f (drop 8 (drop i c)) =
    ap (prefix_len f) (sym (take-append-drop 8 (drop i c)) ∙ rw cut)
    ∙ all_passed f eight (drop 8 (drop i c)) (sym (folded_every f true eight) ∙ right) in
    (omega (arith, length-take 8 (drop i c), length-drop i c), omega (arith, r.1, n, rw (drop-drop) at on))

-- the rest, one by one
pub right_to_end : (f : ℕ → Bool) (c : List ℕ) (i : ℕ) → RightUpTo f c i → i + prefix_len f (take (length c - i) (drop i c)) ≡ prefix_len f c
right_to_end f c i r = rw (to_end i c) (sym r.1)

-- where all from a place on pass, each does
right_behind : (f : ℕ → Bool) (c : List ℕ) (a : ℕ) → every f (drop a c) ≡ true → Pass f c a (length c)
right_behind f c a e i h k =
    let place : a + (i - a) ≡ i = omega arith in
    let one : T (f (get_or (drop a c) (i - a) 0)) =
    every_at f (drop a c) 0 (from_true e) (i - a) (simp length-drop (omega arith)) in
    is_true (rw (get_or-drop, place) at one)

digit_least : (x : ℕ) → of_kind Digits x ≡ true → 48 ≤ x
digit_least x e = leb→le 48 x (and_yes (leb 48 x) (leb x 57) (from_true e)).0

-- any two behind the season of a stamp whose digits are right
pub two_digits_at : (s : List ℕ) → length s ≡ 13 → every (of_kind Digits) (drop 1 s) ≡ true → (i : ℕ) → 1 ≤ i → i < 12
    → (i + 1 < length s) × (48 ≤ get_or s i 0) × (48 ≤ get_or s (i + 1) 0)
two_digits_at s n e i h k =
    let right = right_behind (of_kind Digits) s 1 e in (
      omega arith,
      digit_least _ (right i h (omega arith)),
      digit_least _ (right (i + 1) (omega arith) (omega arith)),
    )

pub total_append : (l b : List ℕ) → total (l ++ b) ≡ total l + total b
total_append [] b = omega arith
total_append (x ∷ l) b = omega (arith, total_append l b)

-- bytes added up by 256 are their sum by 256
pub folded_total : (s : ℕ) (l : List ℕ) → fold (λ (s x : ℕ). (s + x) % 256) s l % 256 ≡ (s + total l) % 256
folded_total s [] = omega arith
folded_total s (x ∷ l) = omega (arith, folded_total ((s + x) % 256) l)

pub check_from_lem : (m : Mode) (l b : List ℕ) → check_from m l (total b % 256) ≡ check m l b
unfolding check check_from
check_from_lem m l b = omega (arith, total_append l (separator m ∷ b))

-- the check character from the sum of all but the last two characters
pub check_front : (m : Mode) (l rest : List ℕ) (front : ℕ) → FrontSum m l rest front → 2 ≤ length rest
    → (front + counted_at_end m) % 64 + 32 ≡ check m l (take (length rest - 2) rest)
unfolding check
check_front m l rest front f h = omega (arith, f.front_is h)

pub front_summed : (m : Mode) (c : List ℕ) (f front : ℕ) → ContentWalk (separator m) c f front
    → FrontSum m (take f c) (drop (f + 1) c) front
front_summed m c f front w = record {
  front_is = λ h.
      let n = length-drop (f + 1) c in
      w.sum_is (omega arith) ∙ ap (λ (c : List ℕ). total c % 256) (front_behind (separator m) c f w.first_is h);
}

-- the sum up to a place, and the sum from one place to another
pub total_upto : (c : List ℕ) (i : ℕ) → i < length c → total (take (i + 1) c) ≡ total (take i c) + get_or c i 0
total_upto c i h =
    rw (take-add i 1 c, total_append (take i c) (take 1 (drop i c)), drop-cons c i 0 h) (omega arith)

pub total_between : (c : List ℕ) (a e : ℕ) → a ≤ e → total (take a c) + total (take (e - a) (drop a c)) ≡ total (take e c)
total_between c a e h =
    let split : e ≡ a + (e - a) = omega arith in
    sym (total_append (take a c) (take (e - a) (drop a c))) ∙ ap total (sym (take-add a (e - a) c))
    ∙ ap (λ (n : ℕ). total (take n c)) (sym split)
