-- Reading says that a content is that of a right group, in document 01's own terms.
use Rattle.std.proofs.Common.{◌≡◌, refl, ◌↔◌, Bool, not, List, [], ◌∷◌, ◌++◌, ℕ, ◌+◌, ◌%◌, T, leb, length, sym, ◌∙◌, subst, ⊎_elim, append_assoc, arith, leb→le, le→leb, T_not}
use Rattle.std.proofs.Math.Option.{Option, some}
use mathlib.Core.List.Memᴰ
use mathlib.Core.List.{Memᴰ}
use Rattle.std.proofs.Math.Dec.{not_T}
use Rattle.std.proofs.Math.Facts.{and_yes, yes_and, or_yes}
use Rattle.characters.specs.Answers.{given, every, pick, pick_yes, pick_no, by_pick}
use Rattle.characters.specs.Wire.{HT}
use Rattle.groups.specs.Modes.{separator, counted_at_end}
use Rattle.groups.specs.Formats.{Field, Rule}
use Rattle.groups.specs.Table.{Entry, rows, same, lookup}
use Rattle.groups.specs.Stamps.{is_stamped}
use Rattle.groups.specs.Fields.{width_right}
use Rattle.groups.specs.Groups.{Group, total, check, content, body, read}
use Rattle.groups.specs.Made.{made_of, some_made}
use Rattle.groups.specs.Right.{parted, counted, RightGroup}
use Rattle.groups.proofs.Laws.Tests.{not_some, same→eq, same_refl}
use Rattle.groups.proofs.Laws.Forms.{or_left, or_right}
use Rattle.groups.proofs.Laws.Table.{distinct, labels_distinct, listed_right}
use Rattle.groups.proofs.Laws.Groups.{total_end, IsGroup, read_given, read_right}
use Rattle.groups.proofs.Laws.Stamps.{stamps_agree}
use Rattle.groups.proofs.Laws.Made.{kind_agrees}
use Rattle.groups.specs.declared.Mode.{Mode}
use Rattle.groups.specs.declared.Mode.TheVariants.{Historic, Standard, Business}
use Rattle.groups.specs.declared.table.Mark.{Mark}
use Rattle.groups.specs.declared.table.Mark.TheVariants.{Unstamped, Letter, Space}

-- ---- A label that is looked up stands in the list

-- what every row passes, a row in the list passes
every_row : (f : Entry → Bool) (es : List Entry) (e : Entry) → T (every f es) → Memᴰ e es → T (f e)
every_row f [] e t h = absurd (Memᴰ.not-nil h)
every_row f (x ∷ es) e t h =
    let p = and_yes (f x) (every f es) t in
    ⊎_elim (λ q. subst (λ (y : Entry). T (f y)) (sym q) p.0) (λ k. every_row f es e p.1 k)
    (Memᴰ.cases_cons h)

-- a label stands in a list with this rule
abbrev pub In : List ℕ → Rule → List Entry → Type 0
In l r es = Memᴰ (record { label = l; rule = r }) es

-- a label that is found stands in the list, with its rule
pub lookup_listed : (l : List ℕ) (es : List Entry) (r : Rule) → lookup l es ≡ some r → In l r es
unfolding lookup
lookup_listed l [] r e = not_some e
lookup_listed l (x ∷ es) r e =
    by_pick (λ (o : Option Rule). o ≡ some r → In l r (x ∷ es)) (same l x.label) _ _
    (λ t e. Memᴰ.head (here (same→eq l x.label t) e)) (λ t e. Memᴰ.tail (lookup_listed l es r e)) e
  where
    here : l ≡ x.label → some x.rule ≡ some r → record { label = l; rule = r } ≡ x
    here p e =
        let q : x.rule ≡ r = cc in
        rw (p, ← q)

-- in a list where no label stands twice, a label that stands there is found, with its rule
listed_lookup : (l : List ℕ) (es : List Entry) (r : Rule) → T (distinct es) → In l r es → lookup l es ≡ some r
unfolding lookup
listed_lookup l [] r t h = absurd (Memᴰ.not-nil h)
listed_lookup l (x ∷ es) r t h = ⊎_elim here (λ k. there k (listed_lookup l es r p.1 k)) (Memᴰ.cases_cons h)
  where
    p : T (every (λ f. not (same x.label f.label)) es) × T (distinct es)
    p = and_yes (every (λ f. not (same x.label f.label)) es) (distinct es) t

    here : record { label = l; rule = r } ≡ x → pick (same l x.label) (some x.rule) (lookup l es) ≡ some r
    here q =
        subst (λ (y : Entry). pick (same l y.label) (some y.rule) (lookup l es) ≡ some r) q
        (pick_yes (same l l) _ _ (same_refl l))

    differ : In l r es → T (same l x.label) → ⊥
    differ k s =
        T_not (same x.label l) (every_row (λ f. not (same x.label f.label)) es _ p.0 k)
        (subst (λ (y : List ℕ). T (same y l)) (same→eq l x.label s) (same_refl l))

    there : In l r es → lookup l es ≡ some r → pick (same l x.label) (some x.rule) (lookup l es) ≡ some r
    there k e = pick_no (same l x.label) _ _ (not_T (same l x.label) (differ k)) ∙ e

-- and in the table of a mode one that stands there is found
pub found_listed : (m : Mode) (l : List ℕ) (r : Rule) → In l r (rows m) → lookup l (rows m) ≡ some r
found_listed m l r h = listed_lookup l (rows m) r (labels_distinct m) h

-- ---- Right fields and a right group

-- the fields with their separators are label, separator and body
parted_is : (m : Mode) (mark : Mark) (g : Group)
    → parted m mark g ≡ g.label ++ separator m ∷ body m (is_stamped mark) g.stamp g.«data»
unfolding body
parted_is m Unstamped g = refl
parted_is m Letter g = refl
parted_is m Space g = refl

-- the sum of what is counted
counted_is : (m : Mode) (front : List ℕ) → total (counted m front) ≡ total front + counted_at_end m
counted_is Historic front = omega arith
counted_is Standard front = total_end front HT
counted_is Business front = omega arith

-- a content is the fields with their separators, the final separator and the check character
whole : (m : Mode) (mark : Mark) (g : Group) (k : ℕ) → k ≡ total (counted m (parted m mark g)) % 64 + 32
    → content m g.label (body m (is_stamped mark) g.stamp g.«data») ≡ parted m mark g ++ separator m ∷ k ∷ []
unfolding content check
whole m mark g k e = rw (e, counted_is m (parted m mark g), parted_is m mark g) (simp append_assoc)

-- data that are made of one of some formats are made of one that stands among them
some_made_lem : (formats : List (List Field)) (d : List ℕ) → T (some_made formats d)
    → (format : List Field) × Memᴰ format formats × T (made_of format d)
unfolding some_made
some_made_lem [] d t = absurd t
some_made_lem (f ∷ more) d t =
    ⊎_elim (λ t. (f, Memᴰ.head refl, t))
    (λ t. let (g, m, u) = some_made_lem more d t in (g, Memᴰ.tail m, u)) (or_yes (made_of f d) (some_made more d) t)

made_some : (formats : List (List Field)) (d : List ℕ) (format : List Field) → Memᴰ format formats
    → T (made_of format d) → T (some_made formats d)
unfolding some_made
made_some [] d f m t = absurd (Memᴰ.not-nil m)
made_some (g ∷ more) d f m t =
    ⊎_elim (λ e. or_left (made_of g d) (some_made more d) (subst (λ (x : List Field). T (made_of x d)) e t))
    (λ k. or_right (made_of g d) (some_made more d) (made_some more d f k t)) (Memᴰ.cases_cons m)

-- a content of right fields is that of a right group
group_right : (m : Mode) (c : List ℕ) (g : Group) → IsGroup m c g → RightGroup m c g
unfolding width_right
group_right m c g i =
    let mark = i.rule.mark in
    let n = length g.«data» in
    let wide = and_yes (leb i.rule.smallest n) (leb n i.rule.largest) i.fields.width_is_right in
    let drawn = (listed_right m g.label i.rule i.listed).all_drawn in
    let made = some_made_lem i.rule.formats g.«data» (subst T (kind_agrees i.rule g.«data» drawn) i.fields.kind_is_right) in
    record {
      rule = i.rule;
      check_character = total (counted m (parted m mark g)) % 64 + 32;
      listed = lookup_listed g.label (rows m) i.rule i.listed;
      separated = sym i.whole ∙ whole m mark g _ refl;
      check_right = refl;
      stamp_is_right = (stamps_agree mark g.stamp).0 i.fields.stamp_is_right;
      long_enough = leb→le _ _ wide.0;
      short_enough = leb→le _ _ wide.1;
      format = made.0;
      format_listed = made.1;
      data_made = made.2;
    }

-- and back
pub right_group : (m : Mode) (c : List ℕ) (g : Group) → RightGroup m c g → IsGroup m c g
unfolding width_right
right_group m c g r =
    let mark = r.rule.mark in
    let n = length g.«data» in
    let found = found_listed m g.label r.rule r.listed in
    let drawn = (listed_right m g.label r.rule found).all_drawn in
    let made = made_some r.rule.formats g.«data» r.format r.format_listed r.data_made in
    record {
      rule = r.rule;
      listed = found;
      fields = record {
        stamp_is_right = (stamps_agree mark g.stamp).1 r.stamp_is_right;
        width_is_right = yes_and (leb r.rule.smallest n) (leb n r.rule.largest) (le→leb _ _ r.long_enough) (le→leb _ _ r.short_enough);
        kind_is_right = subst T (sym (kind_agrees r.rule g.«data» drawn)) made;
      };
      whole = whole m mark g r.check_character r.check_right ∙ sym r.separated;
    }

-- by its rule
pub right_rule : (m : Mode) (c : List ℕ) (g : Group) (r : RightGroup m c g) → (right_group m c g r).rule ≡ r.rule
unfolding right_group
right_rule m c g r = refl

-- reading gives these fields exactly when the content is that of a right group with them
pub right_exactly : (m : Mode) (c : List ℕ) (g : Group) → (read m c ≡ given g) ↔ RightGroup m c g
right_exactly m c g = (λ e. group_right m c g (read_given m c g e), λ r. read_right m c g (right_group m c g r))
