-- Labels as numbers: the order of these numbers is that of the bytes.
use Rattle.std.proofs.Common.{◌≡◌, Bool, List, [], ◌∷◌, ℕ, zero, suc, ◌*◌, ◌^◌, ◌<◌, ◌≤◌, T, ltb, get_or, sym, subst, not-suc-le-zero, mul-le-mul_right, suc-mul, pow-suc, arith, lt-ltb, eq-eqb, ne_eqb}
use Rattle.std.proofs.Math.Nat.{one-le-pow}
use Rattle.characters.specs.Answers.{from_true, pick}
use Rattle.groups.specs.Order.{before}
use Rattle.groups.specs.Packed.{packed}
use Rattle.groups.proofs.Laws.Tests.{split, equal_or}

-- numbers of which each is a byte
abbrev pub Bytes : List ℕ → Type 0
Bytes l = (i : ℕ) → get_or l i 0 < 256

pub below : (n : ℕ) (l : List ℕ) → Bytes l → packed n l < 256 ^ n
unfolding packed
below zero l b = omega arith
below (suc n) [] b = one-le-pow (suc n) 256 (omega arith)
below (suc n) (x ∷ l) b =
    let h = below n l (λ i. b (suc i)) in
    let k : x * 256 ^ n ≤ 255 * 256 ^ n = mul-le-mul_right (256 ^ n) (omega (arith, b 0)) in
    rw (pow-suc 256 n) (omega arith)

-- the order of keys is that of bytes
pub key_order : (n : ℕ) (a b : List ℕ) → Bytes a → Bytes b → packed n a < packed n b → T (before a b)
unfolding packed pick
key_order zero a b ha hb h = absurd (not-suc-le-zero h)
key_order (suc n) a [] ha hb h = absurd (not-suc-le-zero h)
key_order (suc n) [] (y ∷ b) ha hb h = tt
key_order (suc n) (x ∷ a) (y ∷ b) ha hb h =
    equal_or x y
    (λ e. let z : x * 256 ^ n ≡ y * 256 ^ n = rw e in
    subst (λ (c : Bool). T (pick c (before a b) (ltb x y))) (sym (eq-eqb x y e))
    (key_order n a b (λ i. ha (suc i)) (λ i. hb (suc i)) (omega arith)))
    (λ m. subst (λ (c : Bool). T (pick c (before a b) (ltb x y))) (sym (ne_eqb x y m))
    (from_true (lt-ltb x y (split y x (λ g. absurd (no m g)) (λ g. g)))))
  where
    high : suc y * 256 ^ n ≤ x * 256 ^ n → ⊥
    high g = let s = suc-mul y (256 ^ n) in omega (arith, below n b (λ i. hb (suc i)))

    over : (x ≡ y → ⊥) → y ≤ x → suc y ≤ x
    over m g = omega arith

    no : (x ≡ y → ⊥) → y ≤ x → ⊥
    no m g = high (mul-le-mul_right (256 ^ n) (over m g))
