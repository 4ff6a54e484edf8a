-- What reading and writing come to: both say that a content is that of a group. From this, demand 2.
use Rattle.std.proofs.Common.{◌≡◌, refl, ◌↔◌, Bool, true, false, ◌&&◌, List, [], ◌∷◌, ◌++◌, ℕ, ◌+◌, ◌≤◌, T, eqb, leb, length, take, drop, get_or, sym, ap, ◌∙◌, subst, arith, eqb→eq, le→leb, leb→le, length-append, take-append-drop, take_at, drop_at}
use Rattle.std.proofs.Math.Option.{Option, some}
use Rattle.std.proofs.Math.Dec.{eqb_refl}
use Rattle.std.proofs.Math.Facts.{and_yes}
use Rattle.characters.specs.Answers.{given, need_yes, need_given, found_yes, found_given, pick, pick_yes, by_pick}
use Rattle.groups.specs.Modes.{separator}
use Rattle.groups.specs.Formats.{Rule}
use Rattle.groups.specs.Table.{rows, lookup}
use Rattle.groups.specs.Stamps.{is_stamped, stamp_as, season_right, date_right}
use Rattle.groups.specs.Fields.{width_right, longest, checked}
use Rattle.groups.specs.Cuts.{Cut, Ending}
use Rattle.groups.specs.Groups.{Group, total, check, content, body, Parts, behind_stamp, parts, fields_of, behind_label, read, compose}
use Rattle.groups.specs.Inside.{RightFields, stamp_room}
use Rattle.groups.proofs.Laws.Tests.{not_some}
use Rattle.groups.proofs.Laws.Cuts.{cut_joined, cut_joins, ending_joined, ending_joins}
use Rattle.groups.proofs.Laws.Table.{listed_right}
use Rattle.groups.specs.declared.Mode.{Mode}
use Rattle.groups.specs.declared.table.Mark.{Mark}

-- ---- Stamp and data of a body

behind_stamp_inv : (m : Mode) (s t : List ℕ) (p : Parts) → behind_stamp m s t ≡ some p
    → s ++ t ≡ p.stamp ++ separator m ∷ p.«data»
behind_stamp_inv m s [] p e = not_some e
behind_stamp_inv m s (x ∷ d) p e =
    by_pick (λ (o : Option Parts). o ≡ some p → s ++ x ∷ d ≡ p.stamp ++ separator m ∷ p.«data») (eqb x (separator m)) _ _
    (λ t e. here (eqb→eq x (separator m) t) e) (λ t e. not_some e) e
  where
    here : x ≡ separator m → some (record { stamp = s; «data» = d }) ≡ some p
        → s ++ x ∷ d ≡ p.stamp ++ separator m ∷ p.«data»
    here z e =
        let q : record { stamp = s; «data» = d } ≡ p = cc in
        rw z (ap (λ (r : Parts). r.stamp ++ separator m ∷ r.«data») q)

pub parts_join : (m : Mode) (k : Bool) (b : List ℕ) (p : Parts) → parts m k b ≡ some p
    → b ≡ body m k p.stamp p.«data»
unfolding parts body
parts_join m false b p e = cc
parts_join m true b p e = sym (take-append-drop 13 b) ∙ behind_stamp_inv m (take 13 b) (drop 13 b) p e

pub length_zero : (s : List ℕ) → length s ≡ 0 → [] ≡ s
length_zero [] h = refl
length_zero (x ∷ s) h = absurd (omega arith)

-- a stamp has 13 characters, or none
pub stamp_length : (b : Bool) (k : Mark) (s : List ℕ) → T (stamp_as b k s) → length s ≡ pick b 13 0
unfolding stamp_as pick
stamp_length false k s t = eqb→eq (length s) 0 t
stamp_length true k s t = eqb→eq (length s) 13 (and_yes (eqb (length s) 13) (season_right k (get_or s 0 0) && date_right s) t).0

pub parts_joined : (m : Mode) (b : Bool) (k : Mark) (s d : List ℕ) → T (stamp_as b k s)
    → parts m b (body m b s d) ≡ some (record { stamp = s; «data» = d })
unfolding parts body pick
parts_joined m false k s d t = rw (← (length_zero s (stamp_length false k s t)))
parts_joined m true k s d t =
    let n = stamp_length true k s t in
    rw (take_at s (separator m ∷ d) 13 n, drop_at s (separator m ∷ d) 13 n)
    (pick_yes (eqb (separator m) (separator m)) _ _ (eqb_refl (separator m)))

pub checked_right : {A : Type 0} (r : Rule) (s d : List ℕ) (a : A) → RightFields r s d → checked r s d a ≡ given a
unfolding checked
checked_right r s d a f = need_yes _ _ f.stamp_is_right (need_yes _ _ f.width_is_right (need_yes _ _ f.kind_is_right refl))

pub checked_given : {A : Type 0} {b : A} (r : Rule) (s d : List ℕ) (a : A) → checked r s d a ≡ given b
    → RightFields r s d × (a ≡ b)
unfolding checked
checked_given r s d a e =
    let h = need_given _ _ _ e in
    let i = need_given _ _ _ h.1 in
    let j = need_given _ _ _ i.1 in
    let z = j.1 in
    (record { stamp_is_right = h.0; width_is_right = i.0; kind_is_right = j.0 }, cc)

-- ---- The middle: c is the content of g

pub record IsGroup (m : Mode) (c : List ℕ) (g : Group) : Type 0 where
  pub rule : Rule
  pub listed : lookup g.label (rows m) ≡ some rule
  pub fields : RightFields rule g.stamp g.«data»
  pub whole : content m g.label (body m (is_stamped rule.mark) g.stamp g.«data») ≡ c

pub compose_given : (m : Mode) (c : List ℕ) (g : Group) → compose m g ≡ given c → IsGroup m c g
unfolding compose
compose_given m c g e =
    let (r, er, h) = found_given _ _ _ e in
    let i = checked_given r g.stamp g.«data» _ h in
    record { rule = r; listed = er; fields = i.0; whole = i.1 }

pub compose_right : (m : Mode) (c : List ℕ) (g : Group) → IsGroup m c g → compose m g ≡ given c
unfolding compose
compose_right m c g i = found_yes _ _ i.listed (checked_right i.rule g.stamp g.«data» _ i.fields ∙ ap given i.whole)

joined : (m : Mode) (k : Bool) (c : List ℕ) (u : Cut) (t : Ending) (p : Parts)
    → c ≡ u.before ++ separator m ∷ u.after → u.after ≡ t.front ++ separator m ∷ t.last ∷ []
    → t.last ≡ check m u.before t.front → t.front ≡ body m k p.stamp p.«data»
    → content m u.before (body m k p.stamp p.«data») ≡ c
unfolding content
joined m k c u t p c1 c2 c3 c4 = cc

pub read_given : (m : Mode) (c : List ℕ) (g : Group) → read m c ≡ given g → IsGroup m c g
unfolding read behind_label fields_of
read_given m c g e =
    let h = need_given _ _ _ e in
    let (u, eu, h1) = found_given _ _ _ h.1 in
    let h2 = need_given _ _ _ h1 in
    let (t, et, h3) = found_given _ _ _ h2.1 in
    let h4 = need_given _ _ _ h3 in
    let (r, er, h5) = found_given _ _ _ h4.1 in
    let (p, ep, h6) = found_given _ _ _ h5 in
    let h7 = checked_given r p.stamp p.«data» _ h6 in
    subst (IsGroup m c) h7.1 (record {
      rule = r;
      listed = er;
      fields = h7.0;
      whole = joined m (is_stamped r.mark) c u t p (cut_joins (separator m) c u eu).1 (ending_joins (separator m) u.after t et) (eqb→eq _ _ h4.0) (parts_join m (is_stamped r.mark) t.front p ep);
    })

-- ---- Sums

-- one more character at the end adds its code
pub total_end : (a : List ℕ) (x : ℕ) → total (a ++ x ∷ []) ≡ total a + x
total_end [] x = omega arith
total_end (y ∷ a) x = omega (arith, total_end a x)

-- ---- Lengths

pub width_most : (r : Rule) (n : ℕ) → T (width_right r n) → n ≤ longest r
unfolding width_right
width_most r n t = leb→le n r.largest (and_yes (leb r.smallest n) (leb n r.largest) t).1

pub body_length : (m : Mode) (b : Bool) (k : Mark) (s d : List ℕ) → T (stamp_as b k s)
    → length (body m b s d) ≡ stamp_room b + length d
unfolding body pick
body_length m false k s d t = omega arith
body_length m true k s d t = simp length-append (omega (arith, stamp_length true k s t))

pub content_length : (m : Mode) (l b : List ℕ) → length (content m l b) ≡ length l + length b + 3
unfolding content
content_length m l b = simp length-append (omega arith)

-- a content of a label that is listed, and that is not too long, is read by the label's rule
pub read_listed : (m : Mode) (l b : List ℕ) (r : Rule) → lookup l (rows m) ≡ some r → length (content m l b) ≤ 128
    → read m (content m l b) ≡ fields_of m r l b
unfolding read behind_label content
read_listed m l b r listed h =
    need_yes _ _ (le→leb _ _ h)
    (found_yes _ _ (cut_joined (separator m) l _ (listed_right m l r listed).no_separator)
    (need_yes _ _ (listed_right m l r listed).some_label
    (found_yes _ _ (ending_joined (separator m) b (check m l b))
    (need_yes _ _ (eqb_refl (check m l b))
    (found_yes _ _ listed refl)))))

module _ (m : Mode) (g : Group) (r : Rule) (listed : lookup g.label (rows m) ≡ some r) (f : RightFields r g.stamp g.«data») where
  -- the content of a group fits 128
  pub content_short : length (content m g.label (body m (is_stamped r.mark) g.stamp g.«data»)) ≤ 128
  content_short =
      omega (
        arith,
        (listed_right m g.label r listed).short,
        content_length m g.label (body m (is_stamped r.mark) g.stamp g.«data»),
        body_length m (is_stamped r.mark) r.mark g.stamp g.«data» f.stamp_is_right,
        width_most r (length g.«data») f.width_is_right,
      )

  read_content : read m (content m g.label (body m (is_stamped r.mark) g.stamp g.«data»)) ≡ given g
  unfolding fields_of
  read_content =
      read_listed m g.label (body m (is_stamped r.mark) g.stamp g.«data») r listed content_short
      ∙ found_yes _ _ (parts_joined m (is_stamped r.mark) r.mark g.stamp g.«data» f.stamp_is_right)
      (checked_right r g.stamp g.«data» _ f)

pub read_right : (m : Mode) (c : List ℕ) (g : Group) → IsGroup m c g → read m c ≡ given g
read_right m c g i = subst (λ (c : List ℕ). read m c ≡ given g) i.whole (read_content m g i.rule i.listed i.fields)

-- demand 2, of the definitions over a mode
pub read_exactly_written : (m : Mode) (c : List ℕ) (g : Group) → (read m c ≡ given g) ↔ (compose m g ≡ given c)
read_exactly_written m c g = (λ e. compose_right m c g (read_given m c g e), λ e. read_right m c g (compose_given m c g e))
