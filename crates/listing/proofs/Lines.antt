-- The line of each case of what was heard, over plain variables, and how long it is.
use Rattle.std.proofs.Common.{◌≡◌, sym, ap, ◌∙◌, List, [], ◌∷◌, ◌++◌, append_assoc, append-nil, ℕ, ◌+◌, ◌≤◌, arith, length, length-take, length-drop, length-append}
use Rattle.characters.specs.Wire.{LF}
use Rattle.groups.specs.Groups.{group_of}
use Rattle.groups.specs.Judging.{part_of}
use Rattle.groups.proofs.Laws.Shown.{part_inside}
use Rattle.groups.specs.declared.Stretch.{Stretch}
use Rattle.line.specs.Numbers.{number_of, number_of_notice, place_of, place_of_notice}
use Rattle.line.specs.Views.{FieldsInside}
use Rattle.line.proofs.Laws.Heard.{heard_nothing, heard_told, heard_accepted}
use Rattle.groups.specs.declared.Fields.{Fields}
use Rattle.line.specs.declared.Notice.{Notice}
use Rattle.line.specs.declared.Heard.{Heard}
use Rattle.line.specs.declared.Heard.TheVariants.{Nothing, Accepted, Told}
use Rattle.listing.specs.Listing.{digits, fields_shown, place_shown, line_for, lines_for}
use Rattle.listing.specs.Parts.{lines_heard}
use Rattle.listing.proofs.Lengths.{dash_length}

-- ---- The line of each case

-- nothing heard has none
pub nothing_lines : (heard : Heard) (content : List ℕ) → heard ≡ Nothing → lines_heard heard content ≡ []
unfolding lines_heard lines_for
nothing_lines heard content e = rw (e, heard_nothing content)

-- a notice has its number and, where it is 12 or 14, its place
pub told_lines : (heard : Heard) (content : List ℕ) (notice : Notice) (number place : ℕ) → heard ≡ Told notice
    → number ≡ number_of heard → place ≡ place_of heard
    → (digits number ++ place_shown number place) ++ LF ∷ [] ≡ lines_heard heard content
unfolding lines_heard lines_for line_for
told_lines heard content notice number place e n p =
    let k : number ≡ number_of_notice notice = n ∙ ap number_of e in
    let j : place ≡ place_of_notice notice = p ∙ ap place_of e in
    rw (e, k, j, heard_told notice content) (append_assoc (digits (number_of_notice notice)) (place_shown (number_of_notice notice) (place_of_notice notice)) (LF ∷ []) ∙ sym (append-nil _))

-- a stretch inside the content has its length
part_length : (s : Stretch) (content : List ℕ) → length content ≡ 128 → s.start + s.length ≤ 128
    → length (part_of s content) ≡ s.length
part_length s content long h =
    rw (part_inside s content (rw long h)) (simp (length-take, length-drop) (omega arith))

module _ (fields : Fields) (content label stamp d : List ℕ) (long : length content ≡ 128)
    (inside : FieldsInside (Accepted fields)) (l : label ≡ part_of fields.label content)
    (s : stamp ≡ part_of fields.stamp content) (t : d ≡ part_of fields.«data» content) where
  -- an accepted group has also its fields
  pub group_lines : (digits 1 ++ fields_shown (group_of label stamp d)) ++ LF ∷ []
      ≡ lines_heard (Accepted fields) content
  unfolding lines_heard lines_for line_for
  group_lines =
      rw (
        l ∙ part_inside fields.label content (rw long inside.label_inside),
        s ∙ part_inside fields.stamp content (rw long inside.stamp_inside),
        t ∙ part_inside fields.«data» content (rw long inside.data_inside),
        heard_accepted fields content long inside,
      )
      (append_assoc (digits 1) (fields_shown _) (LF ∷ []) ∙ sym (append-nil _))

  -- which together have no more bytes than the content
  pub fields_short : length label + length stamp + length d ≤ 128
  fields_short =
      rw (
        l,
        s,
        t,
        part_length fields.label content long inside.label_inside,
        part_length fields.stamp content long inside.stamp_inside,
        part_length fields.«data» content long inside.data_inside,
      )
      inside.all_short

-- the fields are shown with three spaces, and a `-` for an absent stamp
pub shown_short : (label stamp d : List ℕ)
    → length (fields_shown (group_of label stamp d)) ≤ 4 + (length label + length stamp + length d)
unfolding fields_shown
shown_short label stamp d =
    simp length-append (omega (arith, dash_length stamp))
