-- What the whole build shares and no layer owns: an answer that is a value or a refusal, tests in a row, and a test
-- that every element of a list, or every number below a bound, passes. Each has its laws beside it.
use Rattle.std.specs.Prelude.{◌≡◌, ◌↔◌, Bool, not, ◌&&◌, List, [], ◌∷◌, ◌++◌, ℕ, zero, suc, ◌<◌, T, length, get_or}
use Rattle.std.proofs.Math.Path.{refl, ap}
use Rattle.std.proofs.Common.{sym, ◌∙◌, subst, ⊎_elim, le_of_suc-le-suc, not-suc-le-zero, eq-or-lt_of_le, arith}
use Rattle.std.proofs.Math.Bool.{true, false}
use Rattle.std.proofs.Math.Option.{Option, none, some}
use Rattle.std.proofs.Math.Facts.{and_yes, yes_and}

-- ---- An answer

-- a value, or a refusal; what a refusal tells, document 01's number or more, is up to the layer
pub data Answer (R A : Type 0) : Type 0 where
  refused : R → Answer R A
  given : A → Answer R A

module _ {R A : Type 0} where
  -- no refusal is a value
  pub not_given {ℓ} : {X : Type ℓ} {n : R} {a : A} → ◌≡◌ {A = Answer R A} (refused n) (given a) → X
  not_given {n = n} {a = a} e = absurd (no e)
    where
      no : ◌≡◌ {A = Answer R A} (refused n) (given a) → ⊥
      no e = let z : ◌≡◌ {A = ℕ} 0 1 = cc in omega arith

-- ---- Tests in a row, in the order in which document 01 refuses

module _ {R A : Type 0} where
  -- the test passes, or refusal n
  unfoldable pub need : Bool → R → Answer R A → Answer R A
  need true n rest = rest
  need false n rest = refused n

  -- there is such a value, or refusal n
  unfoldable pub found : {B : Type 0} → Option B → R → (B → Answer R A) → Answer R A
  found none n rest = refused n
  found (some b) n rest = rest b

  -- a test that passes goes on to the rest
  pub need_yes : (b : Bool) (n : R) {rest whole : Answer R A} → T b → rest ≡ whole → need b n rest ≡ whole
  unfolding need
  need_yes true n t e = e
  need_yes false n t e = absurd t

  -- a test that fails is its refusal
  pub need_no : (b : Bool) (n : R) (rest : Answer R A) → T (not b) → need b n rest ≡ refused n
  unfolding need
  need_no true n rest t = absurd t
  need_no false n rest t = refl

  pub found_yes : {B : Type 0} {o : Option B} {b : B} (n : R) (rest : B → Answer R A) {whole : Answer R A}
      → o ≡ some b → rest b ≡ whole → found o n rest ≡ whole
  unfolding found
  found_yes n rest e h = ap (λ o. found o n rest) e ∙ h

  pub found_no : {B : Type 0} {o : Option B} (n : R) (rest : B → Answer R A) → o ≡ none → found o n rest ≡ refused n
  unfolding found
  found_no n rest e = ap (λ o. found o n rest) e

  -- where a row of tests ends in a value, each test passed
  pub need_given : {a : A} (b : Bool) (n : R) (rest : Answer R A) → need b n rest ≡ given a → T b × (rest ≡ given a)
  unfolding need
  need_given true n rest e = (tt, e)
  need_given false n rest e = not_given e

  pub found_given : {B : Type 0} {a : A} (o : Option B) (n : R) (rest : B → Answer R A) → found o n rest ≡ given a
      → (b : B) × (o ≡ some b) × (rest b ≡ given a)
  unfolding found
  found_given none n rest e = not_given e
  found_given (some b) n rest e = (b, refl, e)

  -- where there is a value: this one, with the rest that it leads to
  pub found_exactly : {B : Type 0} (o : Option B) (n : R) (rest : B → Answer R A) (a : A)
      → (found o n rest ≡ given a) ↔ ((b : B) × (o ≡ some b) × (rest b ≡ given a))
  found_exactly o n rest a = (found_given o n rest, λ (b, e, h). found_yes n rest e h)

  -- to show something of a row of tests, show it of each refusal and of the end
  pub by_need {κ} : (P : Answer R A → Type κ) (b : Bool) (n : R) (rest : Answer R A)
      → (T (not b) → P (refused n)) → (T b → P rest) → P (need b n rest)
  unfolding need
  by_need P true n rest p q = q tt
  by_need P false n rest p q = p tt

  pub by_found {κ} : (P : Answer R A → Type κ) {B : Type 0} (o : Option B) (n : R) (rest : B → Answer R A)
      → (o ≡ none → P (refused n)) → ((b : B) → o ≡ some b → P (rest b)) → P (found o n rest)
  unfolding found
  by_found P none n rest p q = p refl
  by_found P (some b) n rest p q = q b refl

-- ---- A test that every element of a list passes

module _ {A : Type 0} where
  abbrev pub every : (A → Bool) → List A → Bool
  every f [] = true
  every f (x ∷ xs) = f x && every f xs

  -- a rule of a table is computed once, and holds at each of its rows
  pub every_at : (f : A → Bool) (xs : List A) (d : A) → T (every f xs) → (k : ℕ) → k < length xs → T (f (get_or xs k d))
  every_at f [] d t k h = absurd (not-suc-le-zero h)
  every_at f (x ∷ xs) d t zero h = (and_yes (f x) (every f xs) t).0
  every_at f (x ∷ xs) d t (suc k) h = every_at f xs d (and_yes (f x) (every f xs) t).1 k (le_of_suc-le-suc h)

  -- and back: a rule that holds at each row holds of the table
  pub at_every : (f : A → Bool) (xs : List A) (d : A) → ((k : ℕ) → k < length xs → T (f (get_or xs k d))) → T (every f xs)
  at_every f [] d p = tt
  at_every f (x ∷ xs) d p =
      yes_and (f x) (every f xs) (p 0 (omega arith)) (at_every f xs d (λ k h. p (suc k) (omega arith)))

  -- elements that pass a test pass a weaker one
  pub every_weaker : (f g : A → Bool) → ((x : A) → T (f x) → T (g x)) → (xs : List A) → T (every f xs) → T (every g xs)
  every_weaker f g w [] t = tt
  every_weaker f g w (x ∷ xs) t =
      let h = and_yes (f x) (every f xs) t in
      yes_and (g x) (every g xs) (w x h.0) (every_weaker f g w xs h.1)

  -- two lists that pass pass when joined
  pub every_joined : (f : A → Bool) (xs ys : List A) → T (every f xs) → T (every f ys) → T (every f (xs ++ ys))
  every_joined f [] ys t u = u
  every_joined f (x ∷ xs) ys t u =
      let h = and_yes (f x) (every f xs) t in
      yes_and (f x) (every f (xs ++ ys)) h.0 (every_joined f xs ys h.1 u)

-- ---- A test that every number below a bound passes

abbrev pub below : (ℕ → Bool) → ℕ → Bool
below f zero = true
below f (suc n) = f n && below f n

pub below_at : (f : ℕ → Bool) (n : ℕ) → T (below f n) → (k : ℕ) → k < n → T (f k)
below_at f zero t k h = absurd (not-suc-le-zero h)
below_at f (suc n) t k h =
    ⊎_elim (λ e. subst (λ (m : ℕ). T (f m)) (sym e) (and_yes (f n) (below f n) t).0)
    (λ l. below_at f n (and_yes (f n) (below f n) t).1 k l)
    (eq-or-lt_of_le (le_of_suc-le-suc h))

-- ---- From a test to the Bool that it is, and back

pub is_true : {b : Bool} → T b → b ≡ true
is_true {b = true} t = refl
is_true {b = false} t = absurd t

pub is_false : {b : Bool} → T (not b) → b ≡ false
is_false {b = true} t = absurd t
is_false {b = false} t = refl

pub from_true : {b : Bool} → b ≡ true → T b
from_true {b} e = subst T (sym e) tt

-- ---- One of two, by a test

module _ {ℓ} {X : Type ℓ} where
  unfoldable pub pick : Bool → X → X → X
  pick true x y = x
  pick false x y = y

  pub pick_yes : (b : Bool) (x y : X) → T b → pick b x y ≡ x
  unfolding pick
  pick_yes true x y t = refl
  pick_yes false x y t = absurd t

  pub pick_no : (b : Bool) (x y : X) → T (not b) → pick b x y ≡ y
  unfolding pick
  pick_no true x y t = absurd t
  pick_no false x y t = refl

  -- to show something of a pick, show it of both
  pub by_pick {κ} : (P : X → Type κ) (b : Bool) (x y : X) → (T b → P x) → (T (not b) → P y) → P (pick b x y)
  unfolding pick
  by_pick P true x y f g = f tt
  by_pick P false x y f g = g tt

-- ---- Conditions in a row, as document 01's table of numbers has them

-- the number of the first condition that holds; n where none does
unfoldable pub first_of : ℕ → List (ℕ × Bool) → ℕ
first_of n [] = n
first_of n ((k, holds) ∷ more) = pick holds k (first_of n more)
