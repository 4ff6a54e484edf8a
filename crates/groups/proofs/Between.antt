-- Data between two texts: where a picture takes, in each place, all that lies between the characters of the texts, it takes
-- data that lie between the texts.
use Rattle.std.proofs.Common.{◌≡◌, refl, ap, subst, Bool, true, false, ◌&&◌, List, [], ◌∷◌, ℕ, zero, suc, ◌+◌, ◌-◌, ◌<◌, ◌≤◌, arith, T, eqb, leb, eqb→eq, leb→le, le→leb, length, drop, length-drop, fold, get_or, sym, ◌∙◌, get_or-drop, get_or-take, take}
use Rattle.std.specs.List.{zip}
use Rattle.std.proofs.Math.Facts.{and_yes, yes_and}
use Rattle.characters.specs.Answers.{pick, by_pick, from_true, is_true}
use Rattle.groups.specs.Forms.{Form, takes, last_of, matches, has_length, fits, some_fits}
use Rattle.groups.specs.Formats.{form_of, forms}
use Rattle.groups.specs.Stored.{format_at, formats_from, Between, Bounded}
use Rattle.groups.proofs.Laws.Forms.{or_left, or_right}

-- ---- One place

-- whether a picture's character takes all from a lowest to a highest
abbrev covers : ℕ → ℕ → ℕ → Bool
covers p l h =
    pick (eqb l h) (takes p l)
    (pick (eqb p 0x39) (leb 0x30 l && leb h 0x39) (eqb p 0x2A && (leb 0x20 l && leb h 0x7E)))

in_order : (a b l h c : ℕ) → T (leb a l && leb h b) → l ≤ c → c ≤ h → T (leb a c && leb c b)
in_order a b l h c t x y =
    let (u, v) = and_yes (leb a l) (leb h b) t in
    let m = leb→le a l u in
    let n = leb→le h b v in
    yes_and (leb a c) (leb c b) (le→leb a c (omega arith)) (le→leb c b (omega arith))

digit_taken : (c : ℕ) → T (leb 0x30 c && leb c 0x39) → T (takes 0x39 c)
unfolding takes pick
digit_taken c t = t

text_taken : (c : ℕ) → T (leb 0x20 c && leb c 0x7E) → T (takes 0x2A c)
unfolding takes pick
text_taken c t = t

covers_takes : (p l h c : ℕ) → T (covers p l h) → l ≤ c → c ≤ h → T (takes p c)
covers_takes p l h c t x y =
    by_pick (λ (b : Bool). T b → T (takes p c)) (eqb l h) _ _
    (λ e t. let q = eqb→eq l h e in let z : l ≡ c = omega arith in subst (λ (j : ℕ). T (takes p j)) z t)
    (λ e t.
    by_pick (λ (b : Bool). T b → T (takes p c)) (eqb p 0x39) _ _
    (λ e t. rw (eqb→eq p 0x39 e) (digit_taken c (in_order 0x30 0x39 l h c t x y)))
    (λ e t.
    let (u, v) = and_yes (eqb p 0x2A) (leb 0x20 l && leb h 0x7E) t in
    rw (eqb→eq p 0x2A u) (text_taken c (in_order 0x20 0x7E l h c v x y)))
    t)
    t

-- ---- All places

abbrev pub all_covered : List ℕ → List ℕ → List ℕ → Bool
all_covered [] [] [] = true
all_covered [] [] (h ∷ high) = false
all_covered [] (l ∷ low) high = false
all_covered (p ∷ picture) [] high = false
all_covered (p ∷ picture) (l ∷ low) [] = false
all_covered (p ∷ picture) (l ∷ low) (h ∷ high) = covers p l h && all_covered picture low high

covered_length : (p l h : List ℕ) → T (all_covered p l h) → (length p ≡ length l) × (length p ≡ length h)
covered_length [] [] [] t = (refl, refl)
covered_length [] [] (z ∷ h) t = absurd t
covered_length [] (y ∷ l) h t = absurd t
covered_length (x ∷ p) [] h t = absurd t
covered_length (x ∷ p) (y ∷ l) [] t = absurd t
covered_length (x ∷ p) (y ∷ l) (z ∷ h) t =
    let (a, b) = covered_length p l h (and_yes (covers x y z) (all_covered p l h) t).1 in
    (ap suc a, ap suc b)

-- the ends of texts that a picture covers are covered by its end
covered_drop : (n : ℕ) (p l h : List ℕ) → T (all_covered p l h) → T (all_covered (drop n p) (drop n l) (drop n h))
covered_drop zero p l h t = t
covered_drop (suc n) [] [] [] t = tt
covered_drop (suc n) [] [] (z ∷ h) t = absurd t
covered_drop (suc n) [] (y ∷ l) h t = absurd t
covered_drop (suc n) (x ∷ p) [] h t = absurd t
covered_drop (suc n) (x ∷ p) (y ∷ l) [] t = absurd t
covered_drop (suc n) (x ∷ p) (y ∷ l) (z ∷ h) t = covered_drop n p l h (and_yes (covers x y z) (all_covered p l h) t).1

covered_match : (p l h d : List ℕ) → T (all_covered p l h) → length p ≡ length d → Between l h d 0 (length d) → T (matches p d)
unfolding matches
covered_match [] [] [] [] t e b = tt
covered_match [] [] [] (c ∷ d) t e b = absurd (omega arith)
covered_match [] [] (z ∷ h) d t e b = absurd t
covered_match [] (y ∷ l) h d t e b = absurd t
covered_match (x ∷ p) [] h d t e b = absurd t
covered_match (x ∷ p) (y ∷ l) [] d t e b = absurd t
covered_match (x ∷ p) (y ∷ l) (z ∷ h) [] t e b = absurd (omega arith)
covered_match (x ∷ p) (y ∷ l) (z ∷ h) (c ∷ d) t e b =
    let (u, v) = and_yes (covers x y z) (all_covered p l h) t in
    let (m, n) = b 0 (omega arith) (omega arith) in
    yes_and (takes x c) (matches p d) (covers_takes x y z c u m n)
    (covered_match p l h d v (omega arith) (λ i f k. b (suc i) (omega arith) (omega arith)))

-- ---- Texts of one length, gone over at once

abbrev pub step : Bool → (ℕ × ℕ) × ℕ → Bool
step right p = right && leb p.0.0 p.1 && leb p.1 p.0.1

all_yes : (low high codes : List ℕ) (right : Bool) → length high ≡ length low → length codes ≡ length low
    → fold step right (zip (zip low high) codes) ≡ true → (right ≡ true) × Between low high codes 0 (length codes)
all_yes [] [] [] right a b e = (e, λ i f k. absurd (omega arith))
all_yes [] (h ∷ high) codes right a b e = absurd (omega (arith, a))
all_yes [] [] (c ∷ codes) right a b e = absurd (omega (arith, b))
all_yes (l ∷ low) [] codes right a b e = absurd (omega (arith, a))
all_yes (l ∷ low) (h ∷ high) [] right a b e = absurd (omega (arith, b))
all_yes (l ∷ low) (h ∷ high) (c ∷ codes) right a b e =
    let (x, y) = all_yes low high codes (step right ((l, h), c)) (omega (arith, a)) (omega (arith, b)) e in
    let (v, q) = and_yes (right && leb l c) (leb c h) (from_true x) in
    let (u, p) = and_yes right (leb l c) v in
    (is_true u, here (leb→le l c p) (leb→le c h q) y)
  where
    here : l ≤ c → c ≤ h → Between low high codes 0 (length codes)
        → Between (l ∷ low) (h ∷ high) (c ∷ codes) 0 (length (c ∷ codes))
    here p q y zero f k = (p, q)
    here p q y (suc i) f k = y i (omega arith) (omega arith)

-- data laid behind the front of the lowest, where all lie between the texts
pub bounded_behind : (least : ℕ) (low high d codes : List ℕ) (start : ℕ) → length high ≡ length low → length codes ≡ length low
    → least ≤ length d → start + length d ≡ length low → take (start + length d - start) (drop start codes) ≡ d
    → fold step true (zip (zip low high) codes) ≡ true → Bounded least low high d
bounded_behind least low high d codes start a b enough room behind e =
    record { enough = enough; room = omega (arith, room); between = λ i f k. at i k }
  where
    at : (i : ℕ) → i < length d
        → (get_or (last_of (length d) low) i 0 ≤ get_or d i 0) × (get_or d i 0 ≤ get_or (last_of (length d) high) i 0)
    at i k =
        let front : length low - length d ≡ start = omega (arith, room) in
        let one = (all_yes low high codes true a b e).1 (start + i) (omega arith) (omega (arith, b, room)) in
        let same : get_or codes (start + i) 0 ≡ get_or d i 0 =
        sym (get_or-drop start codes i 0) ∙ sym (get_or-take (start + length d - start) (drop start codes) i 0 (omega arith)) ∙ ap (λ (x : List ℕ). get_or x i 0) behind in
        rw (a, front, get_or-drop start low i 0, get_or-drop start high i 0, ← same) one

-- ---- Forms

pub bounded_fits : (f : Form) (low high d : List ℕ) → T (all_covered f.picture low high) → Bounded f.least low high d → T (fits f d)
unfolding fits has_length
bounded_fits f low high d t b =
    let p = f.picture in
    let (a, c) = covered_length p low high t in
    let n = length d in
    let same : length p - n ≡ length low - n = omega arith in
    let also : length p - n ≡ length high - n = omega arith in
    let ends = covered_drop (length p - n) p low high t in
    let long = length-drop (length p - n) p in
    yes_and (has_length f n) (matches (last_of n p) d)
    (yes_and (leb f.least n) (leb n (length p)) (le→leb f.least n b.enough) (le→leb n (length p) (omega (arith, b.room))))
    (covered_match (last_of n p) (last_of n low) (last_of n high) d (rw (← same, ← also) ends) (omega (arith, b.room)) b.between)

-- data that one of some forms takes
pub one_fits : (first count i : ℕ) (d : List ℕ) → i < count → T (fits (form_of (format_at (first + i))) d)
    → T (some_fits (forms (formats_from first count)) d)
unfolding formats_from some_fits
one_fits first zero i d h t = absurd (omega arith)
one_fits first (suc count) zero d h t =
    let e : first + 0 ≡ first = omega arith in
    or_left (fits (form_of (format_at first)) d) (some_fits (forms (formats_from (first + 1) count)) d) (rw e at t)
one_fits first (suc count) (suc i) d h t =
    let e : first + suc i ≡ first + 1 + i = omega arith in
    or_right (fits (form_of (format_at first)) d) (some_fits (forms (formats_from (first + 1) count)) d)
    (one_fits (first + 1) count i d (omega arith) (rw e at t))
