-- How far data get in the pictures of their rule is where they go wrong in document 02's words: every character of a picture
-- takes itself, so what begins right can go on as the picture does.
use Rattle.std.proofs.Common.{◌≡◌, refl, ◌↔◌, Bool, true, false, not, ◌&&◌, ◌||◌, ℕ, zero, suc, ◌+◌, ◌-◌, ◌<◌, ◌≤◌, eqb, leb, get_or, replicate, sym, ap, ◌∙◌, arith, leb→le, eqb→eq, T_not, length-take, length-drop, length-take-le, take_at, get_or-take, List, [], ◌∷◌, ◌++◌, subst, ⊎_elim, T, length, take, drop, length-append}
use Rattle.std.proofs.Math.Option.{some}
use Rattle.std.proofs.Math.Dec.{eqb_refl}
use Rattle.std.proofs.lemmas.List.{length-replicate}
use Rattle.std.proofs.Math.Facts.{and_yes, yes_and, or_yes}
use Rattle.characters.specs.Answers.{every, every_at, at_every, every_joined, pick_yes, by_pick}
use Rattle.groups.specs.Forms.{Form, takes, last_of, matches, has_length, fits, some_fits}
use Rattle.groups.specs.Formats.{Rule, Field, form_of, forms, is_drawn}
use Rattle.groups.specs.Table.{Entry, historic_rows, standard_rows, business_rows, rows, lookup, plain}
use Rattle.groups.specs.Spelled.{among, spelled}
use Rattle.groups.specs.Made.{some_up_to, made_of, some_made}
use Rattle.groups.specs.Place.{agreed, reach, furthest, first_wrong}
use Rattle.groups.specs.FirstWrong.{Begun, FirstWrong}
use Rattle.groups.proofs.Laws.Tests.{split, equal_or}
use Rattle.groups.proofs.Laws.Forms.{length_is_right, or_left, or_right, furthest_most, reached_some}
use Rattle.groups.proofs.Laws.Table.{found_passes, listed_right}
use Rattle.groups.proofs.Laws.Right.{In, found_listed}
use Rattle.groups.proofs.Laws.Made.{made_agrees}
use Rattle.groups.proofs.Laws.Business.{plain_made}
use Rattle.groups.specs.declared.Mode.{Mode}
use Rattle.groups.specs.declared.Mode.TheVariants.{Historic, Standard, Business}
use Rattle.groups.specs.declared.table.Kind.{Kind}
use Rattle.groups.specs.declared.table.Kind.TheVariants.{Digits, Hex, Text}

-- ---- A picture

takes_itself : (p : ℕ) → T (takes p p)
unfolding takes
takes_itself p =
    by_pick T (eqb p 0x39) _ _ (λ u. rw (eqb→eq p 0x39 u) tt)
    (λ u. by_pick T (eqb p 0x30) _ _ (λ u. rw (eqb→eq p 0x30 u) tt)
    (λ u. by_pick T (eqb p 0x2A) _ _ (λ u. rw (eqb→eq p 0x2A u) tt)
    (λ u. by_pick T (eqb p 0x2C) _ _ (λ u. rw (eqb→eq p 0x2C u) tt) (λ u. eqb_refl p))))

match_itself : (p : List ℕ) → T (matches p p)
unfolding matches
match_itself [] = tt
match_itself (x ∷ p) = yes_and (takes x x) (matches p p) (takes_itself x) (match_itself p)

-- a beginning that a picture takes goes on as the picture does
match_begun : (p d : List ℕ) (i : ℕ) → i ≤ agreed p d → T (matches p (take i d ++ drop i p))
unfolding matches agreed
match_begun p d zero h = match_itself p
match_begun [] d (suc i) h = absurd (omega arith)
match_begun (x ∷ p) [] (suc i) h = absurd (omega arith)
match_begun (x ∷ p) (c ∷ d) (suc i) h =
    by_pick (λ (n : ℕ). suc i ≤ n → T (takes x c && matches p (take i d ++ drop i p))) (takes x c) _ _
    (λ t h. yes_and (takes x c) (matches p (take i d ++ drop i p)) t (match_begun p d i (omega arith)))
    (λ t h. absurd (omega arith)) h

-- and a picture that takes data takes what begins as they do
begun_match : (p e d : List ℕ) (i : ℕ) → T (matches p e) → take i e ≡ take i d → i ≤ length d → i ≤ agreed p d
unfolding matches agreed
begun_match p e d zero t q h = omega arith
begun_match p e [] (suc i) t q h = absurd (omega arith)
begun_match [] [] (c ∷ d) (suc i) t q h =
    let z : ◌≡◌ {A = ℕ} 0 (suc (length (take i d))) = ap length q in absurd (omega arith)
begun_match [] (y ∷ e) (c ∷ d) (suc i) t q h = absurd t
begun_match (x ∷ p) [] (c ∷ d) (suc i) t q h = absurd t
begun_match (x ∷ p) (y ∷ e) (c ∷ d) (suc i) t q h =
    let u = and_yes (takes x y) (matches p e) t in
    let k = begun_match p e d i u.1 (ap (drop 1) q) (omega arith) in
    let s = subst (λ (z : ℕ). T (takes x z)) (ap (λ (l : List ℕ). get_or l 0 0) q) u.0 in
    rw (pick_yes (takes x c) (suc (agreed p d)) 0 s) (omega arith)

-- ---- A form, and several

-- some data of the length of d that forms take begin with its first i characters
record BegunIn (fs : List Form) (d : List ℕ) (i : ℕ) : Type 0 where
  other : List ℕ
  same_length : length other ≡ length d
  fitting : T (some_fits fs other)
  same_beginning : take i other ≡ take i d

module _ (f : Form) (d : List ℕ) (i : ℕ) (h : i ≤ length d) where
  abbrev against : List ℕ
  against = last_of (length d) f.picture

  begun_reached : (e : List ℕ) → length e ≡ length d → T (fits f e) → take i e ≡ take i d → i < reach f d
  unfolding fits reach
  begun_reached e l t q =
      let u : T (has_length f (length d)) × T (matches against e) =
      subst (λ (n : ℕ). T (has_length f n) × T (matches (last_of n f.picture) e)) l
      (and_yes (has_length f (length e)) (matches (last_of (length e) f.picture) e) t) in
      let k = begun_match against e d i u.1 q h in
      rw (pick_yes (has_length f (length d)) (suc (agreed against d)) 0 u.0) (omega arith)

  reached_begun : i < reach f d
      → (e : List ℕ) × (length e ≡ length d) × T (fits f e) × (take i e ≡ take i d)
  unfolding fits reach
  reached_begun k =
      by_pick (λ (n : ℕ). i < n → (e : List ℕ) × (length e ≡ length d) × T (fits f e) × (take i e ≡ take i d))
      (has_length f (length d)) (suc (agreed against d)) 0
      (λ t k. (take i d ++ drop i against, same t, taken t (omega arith), begins)) (λ t k. absurd (omega arith)) k
    where
      same : T (has_length f (length d)) → length (take i d ++ drop i against) ≡ length d
      same t =
          length-append (take i d) (drop i against) ∙ simp (length-take, length-drop) (omega (arith, (length_is_right f d t).1))

      taken : T (has_length f (length d)) → i ≤ agreed against d → T (fits f (take i d ++ drop i against))
      taken t k =
          subst (λ (n : ℕ). T (has_length f n && matches (last_of n f.picture) (take i d ++ drop i against))) (sym (same t))
          (yes_and (has_length f (length d)) (matches against (take i d ++ drop i against)) t (match_begun against d i k))

      begins : take i (take i d ++ drop i against) ≡ take i d
      begins = take_at (take i d) (drop i against) i (length-take-le i d h)

module _ (d : List ℕ) (i : ℕ) (h : i ≤ length d) where
  begins_reached : (fs : List Form) → BegunIn fs d i → i < furthest fs d
  unfolding some_fits furthest
  begins_reached [] b = absurd b.fitting
  begins_reached (f ∷ fs) b =
      ⊎_elim (λ t. let k = begun_reached f d i h b.other b.same_length t b.same_beginning in omega arith)
      (λ t. let k = begins_reached fs (record { other = b.other; same_length = b.same_length; fitting = t; same_beginning = b.same_beginning }) in omega arith)
      (or_yes (fits f b.other) (some_fits fs b.other) b.fitting)

  reached_begins : (fs : List Form) → i < furthest fs d → BegunIn fs d i
  unfolding some_fits furthest
  reached_begins [] k = absurd (omega arith)
  reached_begins (f ∷ fs) k =
      split (suc i) (reach f d)
      (λ j. let (e, l, t, q) = reached_begun f d i h j in record { other = e; same_length = l; fitting = or_left (fits f e) (some_fits fs e) t; same_beginning = q })
      (λ j. let b = reached_begins fs (omega arith) in record {
        other = b.other;
        same_length = b.same_length;
        fitting = or_right (fits f b.other) (some_fits fs b.other) b.fitting;
        same_beginning = b.same_beginning;
      })

-- ---- Formats

module _ (formats : List (List Field)) (drawn : T (every is_drawn formats)) (d : List ℕ) where
  made_in : (n : ℕ) → Begun formats d n → BegunIn (forms formats) d n
  made_in n b =
      record {
        other = b.other;
        same_length = b.same_length;
        fitting = subst T (sym (made_agrees formats b.other drawn)) b.fitting;
        same_beginning = b.same_beginning;
      }

  in_made : (n : ℕ) → BegunIn (forms formats) d n → Begun formats d n
  in_made n b =
      record {
        other = b.other;
        same_length = b.same_length;
        fitting = subst T (made_agrees formats b.other drawn) b.fitting;
        same_beginning = b.same_beginning;
      }

  -- data that don't fit go wrong where they get no further in any picture
  pub reached_wrong : T (not (some_made formats d)) → 0 < length d → FirstWrong formats d (furthest (forms formats) d - 1)
  reached_wrong t h =
      let fs = forms formats in
      let most = furthest_most fs d in
      let short : furthest fs d ≡ suc (length d) → ⊥ =
      λ e. T_not (some_made formats d) t (subst T (made_agrees formats d drawn) (reached_some fs d e)) in
      let below : furthest fs d < suc (length d) = split (suc (length d)) (furthest fs d) (λ k. absurd (short (omega arith))) (λ k. k) in
      record {
        inside = omega arith;
        right_before = λ k j. in_made (k + 1) (reached_begins d (k + 1) (omega arith) fs (omega arith));
        wrong_there = λ b. let k = begins_reached d (furthest fs d - 1 + 1) (omega arith) fs (made_in _ b) in omega arith;
      }

-- ---- There is one first wrong character

module _ (formats : List (List Field)) (d : List ℕ) where
  not_later : (i j : ℕ) → FirstWrong formats d i → FirstWrong formats d j → j ≤ i
  not_later i j a b = split j i (λ h. h) (λ h. absurd (a.wrong_there (b.right_before i h)))

  pub wrong_once : (i j : ℕ) → FirstWrong formats d i → FirstWrong formats d j → i ≡ j
  wrong_once i j a b = let h = not_later i j a b in let k = not_later j i b a in omega arith

-- so it is that of a rule whose formats have forms, exactly
pub rule_wrong : (rule : Rule) → T (every is_drawn rule.formats) → (d : List ℕ) → 0 < length d → T (not (some_made rule.formats d))
    → (i : ℕ) → (first_wrong rule d ≡ i) ↔ FirstWrong rule.formats d i
unfolding first_wrong
rule_wrong rule drawn d h t i =
    let own = reached_wrong rule.formats drawn d t h in (
      λ e. subst (FirstWrong rule.formats d) e own,
      λ a. wrong_once rule.formats d (furthest (forms rule.formats) d - 1) i own a,
    )

-- ---- A row of the table

-- a row asks for a character at least, or takes none (DATE): computed
some_data : (m : Mode) → T (every (λ (e : Entry). leb 1 e.rule.smallest || some_made e.rule.formats []) (rows m))
unfolding historic_rows standard_rows business_rows form_of some_made made_of some_up_to
some_data Historic = tt
some_data Standard = tt
some_data Business = tt

-- so data that are long enough and don't fit have a character
pub unfit_some : (m : Mode) (label : List ℕ) (rule : Rule) → lookup label (rows m) ≡ some rule → (d : List ℕ) → rule.smallest ≤ length d
    → T (not (some_made rule.formats d)) → 0 < length d
unfit_some m label rule e [] h t =
    ⊎_elim (λ k. let j = leb→le 1 rule.smallest k in absurd (omega arith)) (λ k. absurd (T_not (some_made rule.formats []) t k))
    (or_yes (leb 1 rule.smallest) (some_made rule.formats [])
    (found_passes (λ f. leb 1 f.rule.smallest || some_made f.rule.formats []) label (rows m) rule (some_data m) e))
unfit_some m label rule e (x ∷ d) h t = omega arith

pub row_wrong : (m : Mode) (label : List ℕ) (rule : Rule) → In label rule (rows m) → (d : List ℕ) → rule.smallest ≤ length d
    → T (not (some_made rule.formats d)) → (i : ℕ) → (first_wrong rule d ≡ i) ↔ FirstWrong rule.formats d i
row_wrong m label rule listed d h t i =
    let found = found_listed m label rule listed in
    rule_wrong rule (listed_right m label rule found).all_drawn d (unfit_some m label rule found d h t) t i

-- ---- What stands before it

module _ (formats : List (List Field)) (d : List ℕ) (i : ℕ) (wrong : FirstWrong formats d i) where
  -- where some data have this length, some begin with it
  pub before_begun : (other : List ℕ) → length other ≡ length d → T (some_made formats other) → Begun formats d i
  before_begun other l t = go i refl
    where
      go : (j : ℕ) → i ≡ j → Begun formats d j
      go zero e = record { other = other; fitting = t; same_length = l; same_beginning = refl }
      go (suc j) e =
          let n : j + 1 ≡ suc j = omega arith in
          subst (Begun formats d) n (wrong.right_before j (omega arith))

  -- and where none have, it is the first character
  pub length_unknown : ((other : List ℕ) → length other ≡ length d → T (not (some_made formats other))) → i ≡ 0
  length_unknown none = go i refl
    where
      go : (j : ℕ) → i ≡ j → j ≡ 0
      go zero e = refl
      go (suc j) e =
          let b = wrong.right_before j (omega arith) in
          absurd (T_not (some_made formats b.other) (none b.other b.same_length) b.fitting)

-- ---- One kind and one width

-- so many of one character that passes a test all pass it
same_pass : (f : ℕ → Bool) (x n : ℕ) → T (f x) → T (every f (replicate n x))
same_pass f x zero t = tt
same_pass f x (suc n) t = yes_and (f x) (every f (replicate n x)) t (same_pass f x n t)

-- the first n of a text pass a test that they pass at each place
front_pass : (f : ℕ → Bool) (d : List ℕ) (n : ℕ) → n ≤ length d → ((k : ℕ) → k < n → T (f (get_or d k 0))) → T (every f (take n d))
front_pass f d n h p =
    at_every f (take n d) 0 λ k j.
    let l = length-take-le n d h in
    subst (λ (x : ℕ). T (f x)) (sym (get_or-take n d k 0 (omega arith))) (p k (omega arith))

module _ (kind : Kind) (width : ℕ) (d : List ℕ) (wide : length d ≡ width) where
  abbrev of_this : ℕ → Bool
  of_this = among (spelled kind)

  -- a zero is of each kind
  zero_right : T (of_this 0x30)
  zero_right = go kind
    where
      go : (k : Kind) → T (among (spelled k) 0x30)
      go Digits = tt
      go Hex = tt
      go Text = tt

  -- fitting data begin with the first n characters where these are of the kind, and nowhere else
  kind_begun : (n : ℕ) → n ≤ length d → ((k : ℕ) → k < n → T (of_this (get_or d k 0))) → Begun (plain kind width) d n
  kind_begun n h p =
      let front = length-take-le n d h in
      let other = take n d ++ replicate (length d - n) 0x30 in
      let l : length other ≡ length d =
      length-append (take n d) (replicate (length d - n) 0x30) ∙ omega (arith, front, length-replicate {A = ℕ} (length d - n) 0x30) in
      record {
        other = other;
        fitting = (plain_made kind width other).1 (
          l ∙ wide,
          every_joined of_this (take n d) (replicate (length d - n) 0x30) (front_pass of_this d n h p) (same_pass of_this 0x30 (length d - n) zero_right),
        );
        same_length = l;
        same_beginning = take_at (take n d) (replicate (length d - n) 0x30) n front;
      }

  begun_kind : (n : ℕ) → n ≤ length d → Begun (plain kind width) d n → (k : ℕ) → k < n → T (of_this (get_or d k 0))
  begun_kind n h b k j =
      let all = ((plain_made kind width b.other).0 b.fitting).1 in
      let same : get_or b.other k 0 ≡ get_or d k 0 =
      sym (get_or-take n b.other k 0 j) ∙ ap (λ (l : List ℕ). get_or l k 0) b.same_beginning ∙ get_or-take n d k 0 j in
      subst (λ (x : ℕ). T (of_this x)) same (every_at of_this b.other 0 all k (omega (arith, b.same_length)))

  -- so the first wrong one is the first that is not of the kind
  pub kind_wrong : (i : ℕ)
      → FirstWrong (plain kind width) d i
      ↔ ((i < length d) × ((k : ℕ) → k < i → T (of_this (get_or d k 0))) × T (not (of_this (get_or d i 0))))
  kind_wrong i = (forth, λ (h, p, t). back h p t)
    where
      refuted : (b : Bool) → (T b → ⊥) → T (not b)
      refuted true f = absurd (f tt)
      refuted false f = tt

      forth : FirstWrong (plain kind width) d i
          → (i < length d) × ((k : ℕ) → k < i → T (of_this (get_or d k 0))) × T (not (of_this (get_or d i 0)))
      forth w =
          let p : (k : ℕ) → k < i → T (of_this (get_or d k 0)) =
          λ k j. begun_kind (k + 1) (omega (arith, w.inside)) (w.right_before k j) k (omega arith) in (
            w.inside,
            p,
            refuted (of_this (get_or d i 0)) (λ t. w.wrong_there (kind_begun (i + 1) (omega (arith, w.inside)) (λ k j.
                equal_or k i (λ e. subst (λ (x : ℕ). T (of_this (get_or d x 0))) (sym e) t) (λ n. p k (omega arith))))),
          )

      back : i < length d → ((k : ℕ) → k < i → T (of_this (get_or d k 0))) → T (not (of_this (get_or d i 0)))
          → FirstWrong (plain kind width) d i
      back h p t =
          record {
            inside = h;
            right_before = λ k j. kind_begun (k + 1) (omega arith) (λ x y. p x (omega arith));
            wrong_there = λ b. T_not (of_this (get_or d i 0)) t (begun_kind (i + 1) (omega arith) b i (omega arith));
          }
