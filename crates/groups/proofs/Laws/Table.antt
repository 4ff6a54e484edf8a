-- The table's rules: each is one test that is computed over all its rows, and holds of each row that is found.
use Rattle.std.proofs.Common.{◌≡◌, refl, Bool, true, not, ◌&&◌, List, [], ◌∷◌, ℕ, ◌+◌, T, eqb, leb, length, subst, eqb→eq, leb→le}
use Rattle.std.proofs.Math.Option.{Option, some}
use Rattle.std.proofs.Math.Facts.{and_yes}
use Rattle.characters.specs.Answers.{every, pick, by_pick}
use Rattle.groups.specs.Modes.{separator}
use Rattle.groups.specs.Kinds.{within}
use Rattle.groups.specs.Forms.{Form, fewest, most}
use Rattle.groups.specs.Formats.{Rule, form_of, forms, is_drawn}
use Rattle.groups.specs.Table.{Entry, historic_rows, standard_rows, business_rows, rows, same, lookup}
use Rattle.groups.specs.Listed.{count_on_page}
use Rattle.groups.specs.Stamps.{is_stamped}
use Rattle.groups.specs.Fields.{longest}
use Rattle.groups.specs.Inside.{stamp_room, ShortRow}
use Rattle.groups.proofs.Laws.Tests.{not_some, same→eq}
use Rattle.groups.proofs.Laws.Cuts.{free}
use Rattle.groups.specs.declared.Mode.{Mode}
use Rattle.groups.specs.declared.Mode.TheVariants.{Historic, Standard, Business}

-- each mode has as many rows as the page says
pub row_counts : (m : Mode) → length (rows m) ≡ count_on_page m
unfolding historic_rows standard_rows business_rows count_on_page
row_counts Historic = refl
row_counts Standard = refl
row_counts Business = refl

-- a picture has neither control character nor anything past tilde
abbrev pub plain_form : Form → Bool
plain_form f = every (within 0x20 0x7E) f.picture

-- a label is not empty and has neither separator nor control character nor anything past tilde
abbrev label_right : Mode → List ℕ → Bool
label_right m label = leb 1 (length label) && free (separator m) label && every (λ x. leb 0x21 x && leb x 0x7E) label

-- a form says what its format says, and has a kind or a character of 0x20 to 0x7E at each place
abbrev formats_right : Rule → Bool
formats_right rule = every is_drawn rule.formats && every plain_form (forms rule.formats)

-- the smallest and the largest length are those of the forms
abbrev lengths_right : Rule → Bool
lengths_right rule = eqb rule.smallest (fewest (forms rule.formats)) && eqb rule.largest (most (forms rule.formats))

-- and the longest content of the label's group fits 128
abbrev pub right_row : Mode → Entry → Bool
right_row m e =
    label_right m e.label
    && formats_right e.rule
    && lengths_right e.rule
    && leb (length e.label + 1 + stamp_room (is_stamped e.rule.mark) + longest e.rule + 2) 128

pub rows_right : (m : Mode) → T (every (right_row m) (rows m))
unfolding historic_rows standard_rows business_rows form_of pick
rows_right Historic = tt
rows_right Standard = tt
rows_right Business = tt

-- no label stands twice
abbrev pub distinct : List Entry → Bool
distinct [] = true
distinct (e ∷ more) = every (λ f. not (same e.label f.label)) more && distinct more

pub labels_distinct : (m : Mode) → T (distinct (rows m))
unfolding historic_rows standard_rows business_rows
labels_distinct Historic = tt
labels_distinct Standard = tt
labels_distinct Business = tt

-- ---- Looking up

-- what every row passes, a row that is found passes
pub found_passes : (f : Entry → Bool) (l : List ℕ) (es : List Entry) (r : Rule) → T (every f es) → lookup l es ≡ some r
    → T (f (record { label = l; rule = r }))
unfolding lookup
found_passes f l [] r t e = not_some e
found_passes f l (x ∷ es) r t e =
    by_pick (λ (o : Option Rule). o ≡ some r → T (f (record { label = l; rule = r }))) (same l x.label) _ _
    (λ t e. here (same→eq l x.label t) e) (λ t e. found_passes f l es r h.1 e) e
  where
    h : T (f x) × T (every f es)
    h = and_yes (f x) (every f es) t

    here : l ≡ x.label → some x.rule ≡ some r → T (f (record { label = l; rule = r }))
    here p e =
        let q : x.rule ≡ r = cc in
        let z : x ≡ record { label = l; rule = r } = rw (p, ← q) in
        subst (λ (y : Entry). T (f y)) z h.0

-- what the table's rule says of a row
pub record RightRow (m : Mode) (e : Entry) : Type 0 where
  pub some_label : T (leb 1 (length e.label))
  pub no_separator : T (free (separator m) e.label)
  pub plain_label : T (every (λ x. leb 0x21 x && leb x 0x7E) e.label)
  pub all_drawn : T (every is_drawn e.rule.formats)
  pub plain_forms : T (every plain_form (forms e.rule.formats))
  pub smallest_is : e.rule.smallest ≡ fewest (forms e.rule.formats)
  pub largest_is : e.rule.largest ≡ most (forms e.rule.formats)
  pub short : ShortRow e.rule e.label

right_row_lem : (m : Mode) (e : Entry) → T (right_row m e) → RightRow m e
right_row_lem m e t =
    let (a, short) = and_yes (label_right m e.label && formats_right e.rule && lengths_right e.rule) _ t in
    let (b, lengths) = and_yes (label_right m e.label && formats_right e.rule) (lengths_right e.rule) a in
    let (label, formats) = and_yes (label_right m e.label) (formats_right e.rule) b in
    let (c, plain_label) = and_yes (leb 1 (length e.label) && free (separator m) e.label) _ label in
    let (some_label, no_separator) = and_yes (leb 1 (length e.label)) (free (separator m) e.label) c in
    let (all_drawn, plain_forms) = and_yes (every is_drawn e.rule.formats) (every plain_form (forms e.rule.formats)) formats in
    let (smallest, largest) = and_yes (eqb e.rule.smallest (fewest (forms e.rule.formats))) (eqb e.rule.largest (most (forms e.rule.formats))) lengths in
    record {
      some_label = some_label;
      no_separator = no_separator;
      plain_label = plain_label;
      all_drawn = all_drawn;
      plain_forms = plain_forms;
      smallest_is = eqb→eq _ _ smallest;
      largest_is = eqb→eq _ _ largest;
      short = leb→le _ 128 short;
    }

pub listed_right : (m : Mode) (l : List ℕ) (r : Rule) → lookup l (rows m) ≡ some r
    → RightRow m (record { label = l; rule = r })
listed_right m l r e = right_row_lem m (record { label = l; rule = r }) (found_passes (right_row m) l (rows m) r (rows_right m) e)
