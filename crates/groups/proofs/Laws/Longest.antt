-- A right group has no more bytes than its row allows; and groups of which no two have the same label have no more than one
-- group of each label in the list.
use Rattle.std.proofs.Common.{◌≡◌, refl, Bool, true, false, not, List, [], ◌∷◌, ℕ, ◌+◌, ◌≤◌, T, length, sym, ap, ◌∙◌, arith, T_not}
use Rattle.std.proofs.Math.Option.{some}
use Rattle.std.proofs.Math.Facts.{and_yes}
use Rattle.characters.specs.Answers.{every, pick}
use Rattle.groups.specs.Groups.{Group, body}
use Rattle.groups.specs.Formats.{Rule, form_of}
use Rattle.groups.specs.Table.{Entry, historic_rows, standard_rows, business_rows, rows, same, lookup}
use Rattle.groups.specs.Stamps.{is_stamped}
use Rattle.groups.specs.Right.{RightGroup}
use Rattle.groups.specs.Longest.{longest_content, longest_group, longest_groups}
use Rattle.groups.proofs.Laws.Tests.{not_some, same→eq, same_refl}
use Rattle.groups.proofs.Laws.Table.{distinct}
use Rattle.groups.proofs.Laws.Groups.{IsGroup, width_most, body_length, content_length}
use Rattle.groups.proofs.Laws.Right.{right_group, right_rule}
use Rattle.groups.specs.declared.Mode.{Mode}
use Rattle.groups.specs.declared.Mode.TheVariants.{Historic, Standard, Business}

-- ---- One group

group_most : (m : Mode) (c : List ℕ) (g : Group) (i : IsGroup m c g)
    → length c ≤ longest_content (record { label = g.label; rule = i.rule })
group_most m c g i =
    let mark = i.rule.mark in
    let inner = body m (is_stamped mark) g.stamp g.«data» in
    let long : length c ≡ length g.label + length inner + 3 = ap length (sym i.whole) ∙ content_length m g.label inner in
    omega (
      arith,
      long,
      body_length m (is_stamped mark) mark g.stamp g.«data» i.fields.stamp_is_right,
      width_most i.rule (length g.«data») i.fields.width_is_right,
    )

pub content_most : (m : Mode) (c : List ℕ) (g : Group) (r : RightGroup m c g)
    → length c ≤ longest_content (record { label = g.label; rule = r.rule })
content_most m c g r = rw (right_rule m c g r) at (group_most m c g (right_group m c g r))

-- its label is found in the list, with its rule
pub row_found : (m : Mode) (c : List ℕ) (g : Group) (r : RightGroup m c g) → lookup g.label (rows m) ≡ some r.rule
row_found m c g r = (right_group m c g r).listed ∙ ap some (right_rule m c g r)

-- ---- Several

-- all of these rows are found in a list
abbrev pub AllFound : List Entry → List Entry → Type 0
AllFound [] es = Unit {0}
AllFound (e ∷ more) es = (lookup e.label es ≡ some e.rule) × AllFound more es

-- a list without the first row of a label
abbrev without : List ℕ → List Entry → List Entry
without l [] = []
without l (x ∷ es) = pick (same l x.label) es (x ∷ without l es)

-- that row and the others are the whole
without_one : (l : List ℕ) (r : Rule) (es : List Entry) → lookup l es ≡ some r
    → longest_groups es ≡ longest_group (record { label = l; rule = r }) + longest_groups (without l es)
unfolding lookup pick
without_one l r [] e = not_some e
without_one l r (x ∷ es) e = go (same l x.label) refl e (without_one l r es)
  where
    go : (here : Bool) → same l x.label ≡ here → pick here (some x.rule) (lookup l es) ≡ some r
        → (lookup l es ≡ some r → longest_groups es ≡ longest_group (record { label = l; rule = r }) + longest_groups (without l es))
        → longest_groups (x ∷ es)
        ≡ longest_group (record { label = l; rule = r }) + longest_groups (pick here es (x ∷ without l es))
    go true s e more =
        let p : l ≡ x.label = same→eq l x.label (rw s tt) in
        let q : x.rule ≡ r = cc in
        rw (p, ← q)
    go false s e more = omega (arith, more e)

-- any other label is found as before
others_found : (l k : List ℕ) (es : List Entry) → T (not (same l k)) → lookup k (without l es) ≡ lookup k es
unfolding lookup pick
others_found l k [] t = refl
others_found l k (x ∷ es) t = go (same l x.label) refl (others_found l k es t)
  where
    not_here : same l x.label ≡ true → (here : Bool) → same k x.label ≡ here → lookup k es ≡ pick here (some x.rule) (lookup k es)
    not_here s true e =
        let p : l ≡ x.label = same→eq l x.label (rw s tt) in
        let q : k ≡ x.label = same→eq k x.label (rw e tt) in
        absurd (T_not (same l k) t (rw (p, q) (same_refl x.label)))
    not_here s false e = refl

    go : (here : Bool) → same l x.label ≡ here → lookup k (without l es) ≡ lookup k es
        → lookup k (pick here es (x ∷ without l es)) ≡ lookup k (x ∷ es)
    go true s more = not_here s (same k x.label) refl
    go false s more = ap (pick (same k x.label) (some x.rule)) more

all_others : (l : List ℕ) (more es : List Entry) → T (every (λ f. not (same l f.label)) more) → AllFound more es
    → AllFound more (without l es)
all_others l [] es t a = tt
all_others l (f ∷ more) es t a =
    let (u, v) = and_yes (not (same l f.label)) (every (λ f. not (same l f.label)) more) t in
    (others_found l f.label es u ∙ a.0, all_others l more es v a.1)

-- rows of which no two have the same label, all found in a list, are no more than the list
pub each_once : (some_rows es : List Entry) → T (distinct some_rows) → AllFound some_rows es
    → longest_groups some_rows ≤ longest_groups es
each_once [] es t a = omega arith
each_once (e ∷ more) es t a =
    let (u, v) = and_yes (every (λ f. not (same e.label f.label)) more) (distinct more) t in
    let rest = each_once more (without e.label es) v (all_others e.label more es u a.1) in
    omega (arith, without_one e.label e.rule es a.0, rest)

-- ---- The lists

pub lists_long : (longest_groups (rows Historic) ≡ 534) × (longest_groups (rows Standard) ≡ 1725) × (longest_groups (rows Business) ≡ 1691)
unfolding historic_rows standard_rows business_rows form_of pick
lists_long = (refl, refl, refl)
