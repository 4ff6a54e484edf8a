-- Small laws of tests, options and lists.
use Rattle.std.proofs.Common.{◌≡◌, refl, List, [], ◌∷◌, ℕ, ◌≤◌, ◌<◌, T, eqb, arith, lt_of_not-le, eqb→eq, Bool, true, false}
use Rattle.std.proofs.Math.Option.{none, some}
use Rattle.std.proofs.Math.Decide.{dec_le, ℕ_discrete}
use Rattle.std.proofs.Math.Dec.{eqb_refl}
use Rattle.std.proofs.Math.Facts.{and_yes, yes_and}
use Rattle.groups.specs.Table.{same}

-- one order or the other
pub split {ℓ} : {X : Type ℓ} (a b : ℕ) → (a ≤ b → X) → (b < a → X) → X
split a b f g = elim (dec_le a b) [ yes h ↦ f h | no h ↦ g (lt_of_not-le h) ]

-- the same number or not
pub equal_or {ℓ} : {X : Type ℓ} (a b : ℕ) → (a ≡ b → X) → ((a ≡ b → ⊥) → X) → X
equal_or a b f g = elim (ℕ_discrete a b) [ yes e ↦ f e | no n ↦ g n ]

-- two tests that pass for the same are the same
pub one_test : (a b : Bool) → (T a → T b) → (T b → T a) → a ≡ b
one_test true true f g = refl
one_test true false f g = absurd (f tt)
one_test false true f g = absurd (g tt)
one_test false false f g = refl

pub zero_is_not_one : ◌≡◌ {A = ℕ} 0 1 → ⊥
zero_is_not_one z = omega arith

pub not_some {ℓ} : {A : Type 0} {X : Type ℓ} {a : A} → none ≡ some a → X
not_some {a = a} e = let z : ◌≡◌ {A = ℕ} 0 1 = cc in absurd (zero_is_not_one z)

pub same→eq : (xs ys : List ℕ) → T (same xs ys) → xs ≡ ys
same→eq [] [] t = refl
same→eq [] (y ∷ ys) t = absurd t
same→eq (x ∷ xs) [] t = absurd t
same→eq (x ∷ xs) (y ∷ ys) t =
    let h = and_yes (eqb x y) (same xs ys) t in
    let p = eqb→eq x y h.0 in
    let q = same→eq xs ys h.1 in
    cc

pub same_refl : (xs : List ℕ) → T (same xs xs)
same_refl [] = tt
same_refl (x ∷ xs) = yes_and (eqb x x) (same xs xs) (eqb_refl x) (same_refl xs)
