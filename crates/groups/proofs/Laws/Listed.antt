-- The table has the rows of the pages, and no others.
use Rattle.std.proofs.Common.{◌≡◌, refl, ◌↔◌, ℕ, ⊎_elim, List, [], ◌∷◌, map}
use Rattle.std.proofs.Math.Option.{Option, none, some}
use mathlib.Core.List.Memᴰ
use mathlib.Core.List.{Memᴰ}
use Rattle.characters.specs.Answers.{pick, by_pick}
use Rattle.groups.specs.Formats.{form_of}
use Rattle.groups.specs.Table.{historic_rows, standard_rows, business_rows, rows, same}
use Rattle.groups.specs.Listed.{OnPage, as_on_page, page}
use Rattle.groups.proofs.Laws.Tests.{not_some}
use Rattle.groups.specs.declared.Mode.{Mode}
use Rattle.groups.specs.declared.Mode.TheVariants.{Historic, Standard, Business}

-- the table as a page
abbrev pub table : Mode → List OnPage
table m = map as_on_page (rows m)

-- the first line of a label
unfoldable line_of : List ℕ → List OnPage → Option OnPage
line_of label [] = none
line_of label (x ∷ more) = pick (same label x.label) (some x) (line_of label more)

-- what the labels of one list are found to be in another, and what they are
abbrev found_in : List OnPage → List OnPage → List (Option OnPage)
found_in fs es = map (λ e. line_of e.label fs) es

abbrev as_listed : List OnPage → List (Option OnPage)
as_listed es = map (λ e. some e) es

-- both ways, computed
page_found : (m : Mode) → found_in (table m) (page m) ≡ as_listed (page m)
unfolding page historic_rows standard_rows business_rows form_of line_of pick
page_found Historic = refl
page_found Standard = refl
page_found Business = refl

rows_found : (m : Mode) → found_in (page m) (table m) ≡ as_listed (table m)
unfolding page historic_rows standard_rows business_rows form_of line_of pick
rows_found Historic = refl
rows_found Standard = refl
rows_found Business = refl

-- a line that is found stands in the list
line_listed : (l : List ℕ) (es : List OnPage) (e : OnPage) → line_of l es ≡ some e → Memᴰ e es
unfolding line_of
line_listed l [] e h = not_some h
line_listed l (x ∷ es) e h =
    by_pick (λ (o : Option OnPage). o ≡ some e → Memᴰ e (x ∷ es)) (same l x.label) _ _
    (λ t h. let q : e ≡ x = cc in Memᴰ.head q) (λ t h. Memᴰ.tail (line_listed l es e h)) h

-- a line that is found as it is stands in the other list
row_found : (fs es : List OnPage) (e : OnPage) → found_in fs es ≡ as_listed es → Memᴰ e es → Memᴰ e fs
row_found fs [] e p h = absurd (Memᴰ.not-nil h)
row_found fs (x ∷ es) e p h =
    let here : line_of x.label fs ≡ some x = cc in
    let more : found_in fs es ≡ as_listed es = cc in
    ⊎_elim (λ q. rw q (line_listed x.label fs x here)) (λ k. row_found fs es e more k) (Memᴰ.cases_cons h)

-- a line is on the page exactly when it is in the table
pub rows_as_listed : (m : Mode) (e : OnPage) → Memᴰ e (table m) ↔ Memᴰ e (page m)
rows_as_listed m e = (row_found (page m) (table m) e (rows_found m), row_found (table m) (page m) e (page_found m))
