-- Looking a label up: rows in the order of their keys, and the row that is left.
use Rattle.std.proofs.Common.{◌≡◌, refl, sym, ap, subst, ◌∙◌, Bool, true, false, ◌&&◌, List, [], ◌∷◌, map, ℕ, zero, suc, ◌<◌, ◌≤◌, not-suc-le-zero, le_of_suc-le-suc, arith, T, eqb, ltb, leb, eqb→eq, leb→le, ltb-true, eq-eqb, ne_eqb, length, get_or, take, length-take, Some, None, Err, Option}
use Rattle.std.proofs.Math.Option.{none, some}
use Rattle.std.proofs.Math.Facts.{and_yes, yes_and}
use Rattle.std.specs.List.Sorted.{IsBinarySearchResult, IsNonDecreasingBy}
use Rattle.std.specs.Ordering.{nat_cmp, ordering_index}
use Rattle.std.specs.declared.cmp.Ordering.TheVariants.{Equal}
use Rattle.std.proofs.lemmas.Cmp.{ranked}
use Rattle.std.proofs.lemmas.List.{get_or_default}
use Rattle.std.proofs.lemmas.Bool.Decides.{nat_tests}
use Rattle.characters.specs.Answers.{every, every_at, is_true, from_true, pick}
use Rattle.groups.specs.Table.{rows, same, lookup}
use Rattle.groups.specs.Stored.{rule_of}
use Rattle.groups.specs.Packed.{key_of, ninth_of, label_in, entry_in, is_right, is_named, rising, HasKey, Finds, Short, rule_by, Decides}
use Rattle.groups.proofs.Laws.Tests.{same→eq, same_refl, split, one_test}
use Rattle.groups.proofs.Laws.Packed.{Bytes}
use Rattle.groups.proofs.Keys.{alike, bytes_take}
use Rattle.groups.proofs.Laws.Order.{empty_is_missing, longer_is_missing}
use Rattle.groups.specs.declared.Mode.{Mode}
use Rattle.groups.specs.declared.table.Row.{Row}

-- ---- Rows in the order of their keys

-- a row behind the first has a higher key
behind_first : (r : Row) (rs : List Row) (i : ℕ) (d : Row) → T (rising (r ∷ rs)) → i < length rs → r.key < (get_or rs i d).key
behind_first r rs i d t h =
    let all = (and_yes (every (λ x. ltb r.key x.key) rs) (rising rs) t).0 in
    ltb-true r.key (get_or rs i d).key (is_true (every_at (λ x. ltb r.key x.key) rs d all i h))

-- the keys do not fall
pub not_falling : (rs : List Row) → T (rising rs) → (i j : ℕ) → i ≤ j → j < length rs → (d : Row)
    → (get_or rs i d).key ≤ (get_or rs j d).key
not_falling [] t i j h k d = absurd (not-suc-le-zero k)
not_falling (r ∷ rs) t zero zero h k d = omega arith
not_falling (r ∷ rs) t zero (suc j) h k d = omega (arith, behind_first r rs j d t (le_of_suc-le-suc k))
not_falling (r ∷ rs) t (suc i) zero h k d = absurd (not-suc-le-zero h)
not_falling (r ∷ rs) t (suc i) (suc j) h k d =
    not_falling rs (and_yes (every (λ x. ltb r.key x.key) rs) (rising rs) t).1 i j (le_of_suc-le-suc h) (le_of_suc-le-suc k) d

-- ---- Labels by their rows

every_byte : (l : List ℕ) → T (every (λ x. ltb x 256) l) → Bytes l
every_byte [] t i = omega arith
every_byte (x ∷ l) t zero = ltb-true x 256 (is_true (and_yes (ltb x 256) (every (λ x. ltb x 256) l) t).0)
every_byte (x ∷ l) t (suc i) = every_byte l (and_yes (ltb x 256) (every (λ x. ltb x 256) l) t).1 i

named_right : (l a : List ℕ) → Short l → Bytes a → length a ≤ 9 → key_of l ≡ key_of a → length l ≡ length a → ninth_of l ≡ ninth_of a
    → l ≡ a
named_right l a s b h k n t = alike 8 l a s.bytes b n s.at_most_nine k t

-- a label is that of a row where both have the same key, length and ninth byte
named : (l : List ℕ) (r : Row) → Short l → T (is_right r)
    → (eqb (key_of l) r.key && is_named (length l) (ninth_of l) r) ≡ same l (label_in r)
named l r s t =
    let (u, bytes) = and_yes (eqb r.key (key_of a) && eqb r.length (length a) && eqb r.ninth (ninth_of a) && leb (length a) 9) _ t in
    let (v, few) = and_yes (eqb r.key (key_of a) && eqb r.length (length a) && eqb r.ninth (ninth_of a)) _ u in
    let (w, z) = and_yes (eqb r.key (key_of a) && eqb r.length (length a)) _ v in
    let (k, n) = and_yes (eqb r.key (key_of a)) (eqb r.length (length a)) w in
    let key = eqb→eq r.key (key_of a) k in
    let long = eqb→eq r.length (length a) n in
    let ninth = eqb→eq r.ninth (ninth_of a) z in
    one_test (eqb (key_of l) r.key && is_named (length l) (ninth_of l) r) (same l a)
    (λ y. let (p, g) = and_yes (eqb (key_of l) r.key) (is_named (length l) (ninth_of l) r) y in
    let (q, h) = and_yes (eqb (length l) r.length) (eqb (ninth_of l) r.ninth) g in
    subst (λ (b : List ℕ). T (same l b))
    (named_right l a s (every_byte a bytes) (leb→le _ 9 few) (eqb→eq _ _ p ∙ key) (eqb→eq _ _ q ∙ long) (eqb→eq _ _ h ∙ ninth))
    (same_refl l))
    (λ y. let e = same→eq l a y in
    yes_and (eqb (key_of l) r.key) (is_named (length l) (ninth_of l) r)
    (eq_true (key_of l) r.key (ap (λ (b : List ℕ). key_of b) e ∙ sym key))
    (yes_and (eqb (length l) r.length) (eqb (ninth_of l) r.ninth)
    (eq_true (length l) r.length (ap (λ (b : List ℕ). length b) e ∙ sym long))
    (eq_true (ninth_of l) r.ninth (ap (λ (b : List ℕ). ninth_of b) e ∙ sym ninth))))
  where
    a : List ℕ
    a = label_in r

    eq_true : (a b : ℕ) → a ≡ b → T (eqb a b)
    eq_true a b e = from_true (eq-eqb a b e)

module _ (l : List ℕ) (s : Short l) where
  -- a row of another key is passed over
  passed : (r : Row) (rs : List Row) → T (is_right r) → (key_of l ≡ r.key → ⊥)
      → lookup l (map entry_in (r ∷ rs)) ≡ lookup l (map entry_in rs)
  unfolding lookup pick
  passed r rs t n = rw (sym (named l r s t), ne_eqb (key_of l) r.key n)

  -- no row has the key
  pub none_has : (rs : List Row) → T (every is_right rs)
      → ((i : ℕ) (d : Row) → i < length rs → key_of l ≡ (get_or rs i d).key → ⊥) → lookup l (map entry_in rs) ≡ none
  unfolding lookup
  none_has [] t n = refl
  none_has (r ∷ rs) t n =
      let h = and_yes (is_right r) (every is_right rs) t in
      passed r rs h.0 (n 0 r (omega arith)) ∙ none_has rs h.1 (λ i d k. n (suc i) d (omega arith))

  -- the row at a place has it: this row decides
  pub one_has : (rs : List Row) → T (every is_right rs) → T (rising rs) → (i : ℕ) (d : Row) → i < length rs
      → key_of l ≡ (get_or rs i d).key → lookup l (map entry_in rs) ≡ rule_by l (Some (get_or rs i d))
  unfolding lookup pick
  one_has [] t u i d h e = absurd (not-suc-le-zero h)
  one_has (r ∷ rs) t u zero d h e =
      let right = and_yes (is_right r) (every is_right rs) t in
      let others = none_has rs right.1 (λ i b k c. omega (arith, behind_first r rs i b u k)) in
      decided (is_named (length l) (ninth_of l) r) refl right.0 others
    where
      decided : (b : Bool) → is_named (length l) (ninth_of l) r ≡ b → T (is_right r) → lookup l (map entry_in rs) ≡ none
          → lookup l (map entry_in (r ∷ rs)) ≡ pick b (some (rule_of r.rule)) none
      decided true a t o = rw (sym (named l r s t), eq-eqb (key_of l) r.key e, a)
      decided false a t o = rw (sym (named l r s t), eq-eqb (key_of l) r.key e, a) o
  one_has (r ∷ rs) t u (suc i) d h e =
      let right = and_yes (is_right r) (every is_right rs) t in
      passed r rs right.0 (λ c. omega (arith, behind_first r rs i d u (le_of_suc-le-suc h)))
      ∙ one_has rs right.1 (and_yes (every (λ x. ltb r.key x.key) rs) (rising rs) u).1 i d (le_of_suc-le-suc h) e

-- these rows are the list of the mode, in the order of their keys
pub record Holds (m : Mode) (rs : List Row) : Type 0 where
  pub listed : map entry_in rs ≡ rows m
  pub right : T (every is_right rs)
  pub rise : T (rising rs)

-- what is found among them decides
pub decides : (m : Mode) (rs : List Row) → Holds m rs → (key : ℕ) (found : Option Row) → Finds rs key found → Decides m key found
decides m rs held key None none_there l s k =
    ap (lookup l) (sym held.listed) ∙ none_has l s rs held.right (λ i d h e. none_there i d h (sym e ∙ k))
decides m rs held key (Some r) there l s k =
    ap (lookup l) (sym held.listed)
    ∙ one_has l s rs held.right held.rise there.place r there.inside (k ∙ sym there.has_key ∙ ap (λ (x : Row). x.key) there.there)
    ∙ ap (λ (x : Row). rule_by l (Some x)) (sym there.there)

-- ---- What std's search tells

module _ (rs : List Row) (rise : T (rising rs)) (key : ℕ) where
  -- the comparisons with the key do not fall along the rows, as the search asks
  compared : IsNonDecreasingBy (λ r. ordering_index (nat_cmp r.key key)) rs
  compared i j d h k = grind (arith, nat_tests, not_falling rs rise i j h k d)

  -- the key is found at a place
  pub found_at : (i : ℕ) (d : Row) → i < length rs → ((b : Row) → nat_cmp (get_or rs i b).key key ≡ Equal)
      → HasKey rs key (get_or rs i d)
  found_at i d h same = record {
    place = i;
    inside = h;
    there = get_or_default rs i d (get_or rs i d) h;
    has_key = ranked _ key _ (sym (same d));
  }

  -- it is not found
  pub not_found : (i : ℕ) → IsBinarySearchResult (λ r. nat_cmp r.key key) rs (Err i) → Finds rs key None
  not_found i parted j d h e =
      split i j
      (λ above. omega (arith, ranked _ key _ (sym ((parted compared).1 j d above h))))
      (λ below. omega (arith, ranked _ key _ (sym ((parted compared).0 j d (omega arith) below))))

-- ---- The label that is looked up

pub no_bytes : (m : Mode) (n : ℕ) (l : List ℕ) → n ≡ 0 → none ≡ lookup (take n l) (rows m)
no_bytes m n l e = rw e (sym (empty_is_missing m))

pub too_many : (m : Mode) (n : ℕ) (l : List ℕ) → n ≤ length l → 9 < n → none ≡ lookup (take n l) (rows m)
too_many m n l h k = sym (longer_is_missing m (take n l) (simp length-take (omega arith)))

-- what is looked up is as long as it has to be
pub short : (n : ℕ) (l : List ℕ) → Bytes l → n ≤ length l → (n ≡ 0 → ⊥) → n ≤ 9 → Short (take n l)
short n l b h one few = record {
  bytes = bytes_take n l b;
  not_empty = simp length-take (omega arith);
  at_most_nine = simp length-take (omega arith);
}
