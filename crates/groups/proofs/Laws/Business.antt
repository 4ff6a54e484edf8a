-- What document 02 says of rows and of mode 2 (M-100): data that fit have a length of the row; data of one field are those of
-- one kind and one width; and no row of mode 2 is stamped.
use Rattle.std.proofs.Common.{◌≡◌, refl, ◌↔◌, Bool, true, not, ◌&&◌, ℕ, suc, ◌≤◌, length, take, drop, sym, ◌∙◌, le→leb, take_all, lt-ltb, List, [], ◌∷◌, arith, subst, ⊎_elim, false, T, eqb, leb, eqb→eq, leb→le, length-drop, length-take-le}
use Rattle.std.proofs.Math.Option.{Option, none, some}
use Rattle.std.proofs.Math.Facts.{and_yes, yes_and, or_yes, yes_eqb}
use Rattle.characters.specs.Answers.{every, pick, by_pick, first_of}
use Rattle.groups.specs.Forms.{Form, matches, last_of, has_length, fits, some_fits, fewest, most}
use Rattle.groups.specs.Formats.{Rule, run, forms}
use Rattle.groups.specs.Table.{Entry, business_rows, rows, lookup, plain}
use Rattle.groups.specs.Stamps.{is_stamped}
use Rattle.groups.specs.Groups.{group_of}
use Rattle.groups.specs.Numbers.{number_of, number_of_writing}
use Rattle.groups.specs.Place.{judgement}
use Rattle.groups.specs.Writing.{writing, told}
use Rattle.groups.specs.Spelled.{among, spelled}
use Rattle.groups.specs.Made.{is_field, made_of, some_made}
use Rattle.groups.specs.Conditions.{label_of, body_of, stamp_wrong, conditions, given_when}
use Rattle.groups.specs.WriterConditions.{written_when}
use Rattle.groups.proofs.Laws.Forms.{length_is_right, or_left}
use Rattle.groups.proofs.Laws.Table.{found_passes, listed_right}
use Rattle.groups.proofs.Laws.Right.{In, found_listed}
use Rattle.groups.proofs.Laws.Made.{some_found, found_some, made_agrees}
use Rattle.groups.proofs.Laws.ByNumber.{judged_first}
use Rattle.groups.proofs.Laws.Writer.{written_first}
use Rattle.groups.specs.declared.Mode.{Mode}
use Rattle.groups.specs.declared.Mode.TheVariants.{Business}
use Rattle.groups.specs.declared.table.Kind.{Kind}
use Rattle.groups.specs.declared.table.Mark.{Mark}
use Rattle.groups.specs.declared.table.Mark.TheVariants.{Unstamped, Letter, Space}

-- ---- Data that fit

module _ (m : Mode) (label : List ℕ) (rule : Rule) (listed : In label rule (rows m)) where
  -- the formats of a row in both forms
  pub row_made : (d : List ℕ) → some_fits (forms rule.formats) d ≡ some_made rule.formats d
  row_made d = made_agrees rule.formats d (listed_right m label rule (found_listed m label rule listed)).all_drawn

-- some form has at least the fewest characters, and at most the most
fewest_first : (f : Form) (fs : List Form) → fewest (f ∷ fs) ≤ f.least
fewest_first f [] = omega arith
fewest_first f (g ∷ fs) = omega arith

fewest_rest : (f g : Form) (fs : List Form) → fewest (f ∷ g ∷ fs) ≤ fewest (g ∷ fs)
fewest_rest f g fs = omega arith

some_length : (fs : List Form) (d : List ℕ) → T (some_fits fs d) → (fewest fs ≤ length d) × (length d ≤ most fs)
unfolding some_fits fits
some_length [] d t = absurd t
some_length (f ∷ []) d t =
    ⊎_elim (λ u.
    let (l, k) = length_is_right f d (and_yes (has_length f (length d)) (matches (last_of (length d) f.picture) d) u).0 in
    (l, omega arith)) (λ u. absurd u) (or_yes (fits f d) false t)
some_length (f ∷ g ∷ fs) d t =
    ⊎_elim (λ u.
    let (l, k) = length_is_right f d (and_yes (has_length f (length d)) (matches (last_of (length d) f.picture) d) u).0 in
    (omega (arith, fewest_first f (g ∷ fs)), omega arith))
    (λ u. let (l, k) = some_length (g ∷ fs) d u in (omega (arith, fewest_rest f g fs), omega arith))
    (or_yes (fits f d) (some_fits (g ∷ fs) d) t)

-- data that are made of a format of a row have a length of the row: 13 is never the answer to them
pub row_lengths : (m : Mode) (label : List ℕ) (rule : Rule) → In label rule (rows m) → (d : List ℕ)
    → T (some_made rule.formats d) → (rule.smallest ≤ length d) × (length d ≤ rule.largest)
row_lengths m label rule listed d t =
    let row = listed_right m label rule (found_listed m label rule listed) in
    let (l, k) = some_length (forms rule.formats) d (subst T (sym (row_made m label rule listed d)) t) in
    (rw row.smallest_is l, rw row.largest_is k)

-- ---- One field

module _ (kind : Kind) (width : ℕ) (d : List ℕ) where
  abbrev all : Bool
  all = every (among (spelled kind)) d

  -- data of one field are of its width, and each of their characters is of its kind
  pub plain_made : T (some_made (plain kind width) d) ↔ ((length d ≡ width) × T all)
  unfolding some_made made_of
  plain_made = (there, λ (e, t). back e t)
    where
      there : T (some_made (plain kind width) d) → (length d ≡ width) × T all
      there t =
          ⊎_elim (λ u.
          let (n, h, v) = some_found (λ n. is_field (run kind width width) (take n d) && eqb (length (drop n d)) 0) (length d) u in
          let (w, z) = and_yes (is_field (run kind width width) (take n d)) (eqb (length (drop n d)) 0) v in
          let (r, q) = and_yes (leb width (length (take n d)) && leb (length (take n d)) width) (every (among (spelled kind)) (take n d)) w in
          let (lo, hi) = and_yes (leb width (length (take n d))) (leb (length (take n d)) width) r in
          let a = leb→le width (length (take n d)) lo in
          let b = leb→le (length (take n d)) width hi in
          let c = eqb→eq (length (drop n d)) 0 z in
          let e = length-drop n d in
          let l = length-take-le n d h in
          (omega arith, subst (λ (x : List ℕ). T (every (among (spelled kind)) x)) (take_all n d (omega arith)) q))
          (λ u. absurd u) (or_yes (made_of (run kind width width ∷ []) d) false t)

      back : length d ≡ width → T all → T (some_made (plain kind width) d)
      back e t =
          or_left (made_of (run kind width width ∷ []) d) false
          (found_some (λ n. is_field (run kind width width) (take n d) && eqb (length (drop n d)) 0) (length d) (length d) (omega arith)
          (yes_and (is_field (run kind width width) (take (length d) d)) (eqb (length (drop (length d) d)) 0)
          (rw (take_all (length d) d (omega arith))
          (yes_and (leb width (length d) && leb (length d) width) all
          (yes_and (leb width (length d)) (leb (length d) width) (le→leb width (length d) (omega arith)) (le→leb (length d) width (omega arith))) t))
          (yes_eqb {a = length (drop (length d) d)} {b = 0} (omega (arith, length-drop (length d) d)))))

-- ---- No stamp in mode 2

-- "No row of mode 2 is stamped": computed
none_stamped : T (every (λ (e : Entry). not (is_stamped e.rule.mark)) (rows Business))
unfolding business_rows
none_stamped = tt

business_unstamped : (label : List ℕ) (rule : Rule) → lookup label (rows Business) ≡ some rule → rule.mark ≡ Unstamped
business_unstamped label rule e =
    go rule.mark (found_passes (λ f. not (is_stamped f.rule.mark)) label (rows Business) rule none_stamped e)
  where
    go : (mark : Mark) → T (not (is_stamped mark)) → mark ≡ Unstamped
    go Unstamped t = refl
    go Letter t = absurd t
    go Space t = absurd t

-- a number whose conditions don't hold is not the first
not_first : (k n : ℕ) (cs : List (ℕ × Bool)) → T (not (eqb n k)) → T (every (λ r. not (eqb r.0 k && r.1)) cs)
    → T (not (eqb (first_of n cs) k))
unfolding first_of
not_first k n [] t u = t
not_first k n ((j, holds) ∷ more) t u =
    let (own, rest) = and_yes (not (eqb j k && holds)) (every (λ r. not (eqb r.0 k && r.1)) more) u in
    by_pick (λ (x : ℕ). T (not (eqb x k))) holds j (first_of n more) (λ h. held (eqb j k) holds own h) (λ h. not_first k n more t rest)
  where
    held : (a b : Bool) → T (not (a && b)) → T b → T (not a)
    held true true v h = v
    held true false v h = absurd h
    held false b v h = tt

stamp_not_asked : (body : List ℕ) (o : Option Rule) → ((rule : Rule) → o ≡ some rule → rule.mark ≡ Unstamped)
    → stamp_wrong Business body o ≡ false
stamp_not_asked body none h = refl
stamp_not_asked body (some rule) h = rw (h rule refl)

-- reading in mode 2 never answers 12
pub never_twelve : (c : List ℕ) → T (not (eqb (number_of (judgement 2 c)) 12))
unfolding given_when conditions
never_twelve c =
    let o = lookup (label_of Business c) (rows Business) in
    let e = stamp_not_asked (body_of Business c) o (λ rule q. business_unstamped (label_of Business c) rule q) in
    rw (judged_first 2 c) (not_first 12 1 (given_when 2 c) tt (rw e tt))

-- and writing in mode 2 answers 12 to any stamp
pub stamp_refused : (label : List ℕ) (rule : Rule) → In label rule (rows Business) → (x : ℕ) (rest d : List ℕ) (room : ℕ)
    → number_of_writing (told (writing 2 (group_of label (x ∷ rest) d) room)) ≡ 12
unfolding written_when first_of pick
stamp_refused label rule listed x rest d room =
    let found = found_listed Business label rule listed in
    written_first 2 _ room ∙ rw (found, business_unstamped label rule found, lt-ltb 0 (suc (length rest)) (omega arith))
