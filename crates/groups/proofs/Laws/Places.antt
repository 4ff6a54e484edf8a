-- The reader's definitions, test by test, in terms of places.
use Rattle.std.proofs.Common.{◌≡◌, refl, Bool, true, false, List, [], ◌∷◌, eqb, take, drop, get_or, ap, ◌∙◌, ℕ, zero, suc, ◌+◌, ◌-◌, ◌<◌, ◌≤◌, arith, eq-eqb, ne_eqb, le-leb, add-one, length, drop_of_length-le, drop-cons, length-take-le}
use Rattle.std.proofs.lemmas.Bool.{lt-leb}
use Rattle.std.proofs.Math.Option.{none, some}
use Rattle.characters.specs.Answers.{refused, need, found, pick}
use Rattle.groups.specs.Modes.{separator}
use Rattle.groups.specs.Formats.{Rule}
use Rattle.groups.specs.Table.{rows, lookup}
use Rattle.groups.specs.Stamps.{is_stamped}
use Rattle.groups.specs.Fields.{checked}
use Rattle.groups.specs.Cuts.{cut, also, ending, ahead}
use Rattle.groups.specs.Groups.{group_of, check, parts, fields_of, behind_label, read}
use Rattle.groups.specs.Conditions.{first_at}
use Rattle.groups.specs.declared.Mode.{Mode}
use Rattle.groups.specs.declared.Refusal.TheVariants.{TooLong, Misshapen, CheckWrong, LabelUnknown, StampWrong}

-- ---- The first separator

pub cut_there : (s : ℕ) (c : List ℕ) → first_at s c < length c
    → cut s c ≡ some (record { before = take (first_at s c) c; after = drop (suc (first_at s c)) c })
unfolding cut first_at pick
cut_there s [] h = absurd (omega arith)
cut_there s (x ∷ c) h = go (eqb x s) h (λ k. ap (also x) (cut_there s c k))
  where
    go : (b : Bool) → pick b 0 (suc (first_at s c)) < suc (length c)
        → (first_at s c < length c → also x (cut s c) ≡ some (record { before = x ∷ take (first_at s c) c; after = drop (suc (first_at s c)) c }))
        → pick b (some (record { before = []; after = c })) (also x (cut s c))
        ≡ some (record { before = take (pick b 0 (suc (first_at s c))) (x ∷ c); after = drop (suc (pick b 0 (suc (first_at s c)))) (x ∷ c) })
    go true h e = refl
    go false h e = e (omega arith)

pub cut_nowhere : (s : ℕ) (c : List ℕ) → length c ≤ first_at s c → cut s c ≡ none
unfolding cut first_at pick
cut_nowhere s [] h = refl
cut_nowhere s (x ∷ c) h = go (eqb x s) h (λ k. ap (also x) (cut_nowhere s c k))
  where
    go : (b : Bool) → suc (length c) ≤ pick b 0 (suc (first_at s c)) → (length c ≤ first_at s c → also x (cut s c) ≡ none)
        → pick b (some (record { before = []; after = c })) (also x (cut s c)) ≡ none
    go true h e = absurd (omega arith)
    go false h e = e (omega arith)

-- ---- The last two characters

pub ending_short : (s : ℕ) (c : List ℕ) → length c < 2 → ending s c ≡ none
unfolding ending
ending_short s [] h = refl
ending_short s (x ∷ []) h = refl
ending_short s (x ∷ y ∷ c) h = absurd (omega arith)

-- the last but one of n + 2 characters
pub ending_at : (s : ℕ) (c : List ℕ) (n : ℕ) → length c ≡ suc (suc n)
    → ending s c ≡ pick (eqb (get_or c n 0) s) (some (record { front = take n c; last = get_or c (suc n) 0 })) none
unfolding ending pick
ending_at s [] n h = absurd (omega arith)
ending_at s (x ∷ []) n h = absurd (omega arith)
ending_at s (x ∷ y ∷ []) zero h = refl
ending_at s (x ∷ y ∷ []) (suc n) h = absurd (omega arith)
ending_at s (x ∷ y ∷ z ∷ c) zero h = absurd (omega arith)
ending_at s (x ∷ y ∷ z ∷ c) (suc n) h =
    ap (ahead x) (ending_at s (y ∷ z ∷ c) n (omega arith)) ∙ go (eqb (get_or (y ∷ z ∷ c) n 0) s)
  where
    go : (b : Bool)
        → ahead x (pick b (some (record { front = take n (y ∷ z ∷ c); last = get_or (y ∷ z ∷ c) (suc n) 0 })) none)
        ≡ pick b (some (record { front = x ∷ take n (y ∷ z ∷ c); last = get_or (y ∷ z ∷ c) (suc n) 0 })) none
    go true = refl
    go false = refl

-- ---- The fields of a body

module _ (m : Mode) (r : Rule) (l b : List ℕ) where
  pub fields_plain : is_stamped r.mark ≡ false → fields_of m r l b ≡ checked r [] b (group_of l [] b)
  unfolding fields_of parts found
  fields_plain e = rw e

  pub fields_short : is_stamped r.mark ≡ true → length b < 14 → fields_of m r l b ≡ refused StampWrong
  unfolding fields_of parts found pick
  fields_short e h = rw (e, drop_of_length-le b {i = 13} (omega arith))

  pub fields_unparted : is_stamped r.mark ≡ true → 14 ≤ length b → (get_or b 13 0 ≡ separator m → ⊥)
      → fields_of m r l b ≡ refused StampWrong
  unfolding fields_of parts found pick
  fields_unparted e h n = rw (e, drop-cons b 13 0 h, ne_eqb _ _ n)

  pub fields_stamped : is_stamped r.mark ≡ true → 14 ≤ length b → get_or b 13 0 ≡ separator m
      → fields_of m r l b ≡ checked r (take 13 b) (drop 14 b) (group_of l (take 13 b) (drop 14 b))
  unfolding fields_of parts found pick
  fields_stamped e h n = rw (e, drop-cons b 13 0 h, eq-eqb _ _ n)

-- ---- What stands behind the label's separator

module _ (m : Mode) (l u : List ℕ) where
  pub behind_short : length u < 2 → behind_label m l u ≡ refused Misshapen
  unfolding behind_label found
  behind_short h = rw (ending_short (separator m) u h)

  pub behind_open : 2 ≤ length u → (get_or u (length u - 2) 0 ≡ separator m → ⊥) → behind_label m l u ≡ refused Misshapen
  unfolding behind_label found pick
  behind_open h n = rw (ending_at (separator m) u (length u - 2) (omega arith), ne_eqb _ _ n)

  pub behind_closed : 2 ≤ length u → get_or u (length u - 2) 0 ≡ separator m
      → behind_label m l u ≡ need (eqb (get_or u (length u - 1) 0) (check m l (take (length u - 2) u))) CheckWrong
      (found (lookup l (rows m)) LabelUnknown λ r. fields_of m r l (take (length u - 2) u))
  unfolding behind_label found pick
  behind_closed h n =
      let e : suc (length u - 2) ≡ length u - 1 = omega arith in
      rw (ending_at (separator m) u (length u - 2) (omega arith), eq-eqb _ _ n, e)

  pub behind_checked : 2 ≤ length u → get_or u (length u - 2) 0 ≡ separator m
      → (get_or u (length u - 1) 0 ≡ check m l (take (length u - 2) u) → ⊥) → behind_label m l u ≡ refused CheckWrong
  unfolding need
  behind_checked h n k = behind_closed h n ∙ rw (ne_eqb _ _ k)

  pub behind_unlisted : 2 ≤ length u → get_or u (length u - 2) 0 ≡ separator m
      → get_or u (length u - 1) 0 ≡ check m l (take (length u - 2) u) → lookup l (rows m) ≡ none
      → behind_label m l u ≡ refused LabelUnknown
  unfolding need found
  behind_unlisted h n k o = behind_closed h n ∙ rw (eq-eqb _ _ k, o)

  pub behind_listed : (r : Rule) → 2 ≤ length u → get_or u (length u - 2) 0 ≡ separator m
      → get_or u (length u - 1) 0 ≡ check m l (take (length u - 2) u) → lookup l (rows m) ≡ some r
      → behind_label m l u ≡ fields_of m r l (take (length u - 2) u)
  unfolding need found
  behind_listed r h n k o = behind_closed h n ∙ rw (eq-eqb _ _ k, o)

-- ---- The content

pub read_long : (m : Mode) (c : List ℕ) → 128 < length c → read m c ≡ refused TooLong
unfolding read need
read_long m c h = rw (lt-leb _ _ h)

-- f is the place of the first separator
module _ (m : Mode) (c : List ℕ) (f : ℕ) (at : f ≡ first_at (separator m) c) where
  pub read_uncut : length c ≤ 128 → length c ≤ f → read m c ≡ refused Misshapen
  unfolding read need found
  read_uncut h k = rw (le-leb _ _ h, cut_nowhere (separator m) c (omega arith))

  pub read_unlabelled : length c ≤ 128 → f < length c → f < 1 → read m c ≡ refused Misshapen
  unfolding read need found
  read_unlabelled h k z =
      let e : first_at (separator m) c ≡ 0 = omega arith in
      rw (le-leb _ _ h, cut_there (separator m) c (omega arith), e)

  pub read_cut : length c ≤ 128 → f < length c → 1 ≤ f → read m c ≡ behind_label m (take f c) (drop (f + 1) c)
  unfolding read need found
  read_cut h k z =
      rw (le-leb _ _ h, cut_there (separator m) c (omega arith), ← at, length-take-le f c (omega arith), le-leb _ _ z, add-one f)
