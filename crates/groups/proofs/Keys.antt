-- Labels as numbers: how the code makes them, and that they tell one label from another.
use Rattle.std.proofs.Common.{◌≡◌, refl, sym, List, [], ◌∷◌, reverse, ℕ, zero, suc, ◌+◌, ◌*◌, ◌-◌, ◌/◌, ◌^◌, ◌<◌, ◌≤◌, mul-le-mul_right, mul_assoc, suc-mul, pow-suc, arith, length, get_or, take}
use mathlib.Core.List.{reverse-cons}
use Rattle.std.specs.List.{fold}
use Rattle.std.proofs.lemmas.List.Sums.{fold_push}
use Rattle.groups.specs.Packed.{packed}
use Rattle.groups.proofs.Laws.Tests.{split}
use Rattle.groups.proofs.Laws.Packed.{Bytes, below}

pub bytes_take : (n : ℕ) (l : List ℕ) → Bytes l → Bytes (take n l)
bytes_take zero l b i = omega arith
bytes_take (suc n) [] b i = omega arith
bytes_take (suc n) (x ∷ l) b zero = b 0
bytes_take (suc n) (x ∷ l) b (suc i) = bytes_take n l (λ j. b (suc j)) i

-- all but the last byte
pub packed_less : (n : ℕ) (l : List ℕ) → Bytes l → packed (suc n) l / 256 ≡ packed n l
unfolding packed
packed_less zero [] b = refl
packed_less zero (x ∷ l) b = omega (arith, b 0)
packed_less (suc n) [] b = refl
packed_less (suc n) (x ∷ l) b =
    let h = packed_less n l (λ i. b (suc i)) in
    rw (pow-suc 256 n, sym (mul_assoc x (256 ^ n) 256)) (omega arith)

-- eight bytes are two halves of four
pub eight_halves : (l : List ℕ) → 8 ≤ length l
    → packed 4 (get_or l 0 0 ∷ get_or l 1 0 ∷ get_or l 2 0 ∷ get_or l 3 0 ∷ []) * 4294967296
    + packed 4 (get_or l 4 0 ∷ get_or l 5 0 ∷ get_or l 6 0 ∷ get_or l 7 0 ∷ [])
    ≡ packed 8 l
unfolding packed
eight_halves [] h = omega arith
eight_halves (a ∷ []) h = omega arith
eight_halves (a ∷ b ∷ []) h = omega arith
eight_halves (a ∷ b ∷ c ∷ []) h = omega arith
eight_halves (a ∷ b ∷ c ∷ d ∷ []) h = omega arith
eight_halves (a ∷ b ∷ c ∷ d ∷ e ∷ []) h = omega arith
eight_halves (a ∷ b ∷ c ∷ d ∷ e ∷ f ∷ []) h = omega arith
eight_halves (a ∷ b ∷ c ∷ d ∷ e ∷ f ∷ g ∷ []) h = omega arith
eight_halves (a ∷ b ∷ c ∷ d ∷ e ∷ f ∷ g ∷ i ∷ l) h = omega arith

-- so many of eight bytes: the others are divided away
module _
    (x0 x1 x2 x3 x4 x5 x6 x7 : ℕ)
    (l : List ℕ)
    (b : Bytes (x0 ∷ x1 ∷ x2 ∷ x3 ∷ x4 ∷ x5 ∷ x6 ∷ x7 ∷ l))
  where
    eight_cut : (n : ℕ) → packed 8 (x0 ∷ x1 ∷ x2 ∷ x3 ∷ x4 ∷ x5 ∷ x6 ∷ x7 ∷ l) / 256 ^ (8 - n) * 256 ^ (8 - n)
        ≡ packed 8 (take n (x0 ∷ x1 ∷ x2 ∷ x3 ∷ x4 ∷ x5 ∷ x6 ∷ x7 ∷ l))
    unfolding packed
    eight_cut zero = omega (arith, b 0, b 1, b 2, b 3, b 4, b 5, b 6, b 7)
    eight_cut (suc zero) = omega (arith, b 1, b 2, b 3, b 4, b 5, b 6, b 7)
    eight_cut (suc (suc zero)) = omega (arith, b 2, b 3, b 4, b 5, b 6, b 7)
    eight_cut (suc (suc (suc zero))) = omega (arith, b 3, b 4, b 5, b 6, b 7)
    eight_cut (suc (suc (suc (suc zero)))) = omega (arith, b 4, b 5, b 6, b 7)
    eight_cut (suc (suc (suc (suc (suc zero))))) = omega (arith, b 5, b 6, b 7)
    eight_cut (suc (suc (suc (suc (suc (suc zero)))))) = omega (arith, b 6, b 7)
    eight_cut (suc (suc (suc (suc (suc (suc (suc zero))))))) = omega (arith, b 7)
    eight_cut (suc (suc (suc (suc (suc (suc (suc (suc n)))))))) =
        let z : 8 - suc (suc (suc (suc (suc (suc (suc (suc n))))))) ≡ 0 = omega arith in rw z (omega arith)

pub key_cut : (l : List ℕ) → 8 ≤ length l → Bytes l → (n : ℕ) → packed 8 l / 256 ^ (8 - n) * 256 ^ (8 - n) ≡ packed 8 (take n l)
key_cut [] h b n = omega arith
key_cut (x0 ∷ []) h b n = omega arith
key_cut (x0 ∷ x1 ∷ []) h b n = omega arith
key_cut (x0 ∷ x1 ∷ x2 ∷ []) h b n = omega arith
key_cut (x0 ∷ x1 ∷ x2 ∷ x3 ∷ []) h b n = omega arith
key_cut (x0 ∷ x1 ∷ x2 ∷ x3 ∷ x4 ∷ []) h b n = omega arith
key_cut (x0 ∷ x1 ∷ x2 ∷ x3 ∷ x4 ∷ x5 ∷ []) h b n = omega arith
key_cut (x0 ∷ x1 ∷ x2 ∷ x3 ∷ x4 ∷ x5 ∷ x6 ∷ []) h b n = omega arith
key_cut (x0 ∷ x1 ∷ x2 ∷ x3 ∷ x4 ∷ x5 ∷ x6 ∷ x7 ∷ l) h b n = eight_cut x0 x1 x2 x3 x4 x5 x6 x7 l b n

-- each byte goes on top of those behind it, from the last one on
pub folded_key : (l : List ℕ) → Bytes l
    → fold (λ (key byte : ℕ). key / 256 + byte * 72057594037927936) 0 (reverse l) ≡ packed 8 l
unfolding packed
folded_key [] b = refl
folded_key (x ∷ l) b =
    let behind : Bytes l = λ i. b (suc i) in
    let less = packed_less 7 l behind in
    let on = fold_push (λ (key byte : ℕ). key / 256 + byte * 72057594037927936) 0 (reverse l) x in
    rw (reverse-cons x l) (omega (arith, on, folded_key l behind, less))

-- two numbers with the same lower part have the same upper part
same_top : (m x y p q : ℕ) → p < m → q < m → x * m + p ≡ y * m + q → x ≡ y
same_top m x y p q h k e =
    split x y
    (λ l. split y x (λ g. omega arith) (λ g. absurd (no x y p q h (mul-le-mul_right m g) e)))
    (λ g. absurd (no y x q p k (mul-le-mul_right m g) (sym e)))
  where
    no : (x y p q : ℕ) → p < m → suc x * m ≤ y * m → x * m + p ≡ y * m + q → ⊥
    no x y p q h l e = let s = suc-mul x m in omega arith

-- texts of one length, of which so many bytes and the next one are the same, are the same
pub alike : (n : ℕ) (a b : List ℕ) → Bytes a → Bytes b → length a ≡ length b → length a ≤ n + 1 → packed n a ≡ packed n b
    → get_or a n 0 ≡ get_or b n 0 → a ≡ b
unfolding packed
alike n [] [] ha hb e s p q = refl
alike n [] (y ∷ b) ha hb e s p q = absurd (no e)
  where
    no : 0 ≡ suc (length b) → ⊥
    no e = omega arith
alike n (x ∷ a) [] ha hb e s p q = absurd (no e)
  where
    no : suc (length a) ≡ 0 → ⊥
    no e = omega arith
alike zero (x ∷ []) (y ∷ []) ha hb e s p q = rw q
alike zero (x ∷ []) (y ∷ z ∷ b) ha hb e s p q = absurd (no e)
  where
    no : 1 ≡ suc (suc (length b)) → ⊥
    no e = omega arith
alike zero (x ∷ z ∷ a) (y ∷ b) ha hb e s p q = absurd (no s)
  where
    no : suc (suc (length a)) ≤ 1 → ⊥
    no s = omega arith
alike (suc n) (x ∷ a) (y ∷ b) ha hb e s p q =
    let ba : Bytes a = λ i. ha (suc i) in
    let bb : Bytes b = λ i. hb (suc i) in
    let t = same_top (256 ^ n) x y (packed n a) (packed n b) (below n a ba) (below n b bb) p in
    let u : x * 256 ^ n ≡ y * 256 ^ n = rw t in
    let r = alike n a b ba bb (omega arith) (omega arith) (omega arith) q in
    rw (t, r)
