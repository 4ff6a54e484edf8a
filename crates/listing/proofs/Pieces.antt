-- A stretch of bytes up to an answer, and a piece of the capture, stretch by stretch.
use Rattle.std.proofs.Common.{◌≡◌, sym, ap, ◌∙◌, List, [], ◌∷◌, ℕ, ◌-◌, ◌≤◌, ◌<◌, arith, length, take, drop}
use Rattle.std.proofs.lemmas.List.{take-append-drop}
use Rattle.arrayvec.specs.ArrayVec.{ArrayVec}
use Rattle.line.specs.Lines.{State, after, until_answer}
use Rattle.line.specs.Steps.{Fed, fed}
use Rattle.line.specs.Views.{FieldsInside}
use Rattle.line.proofs.Views.{until_most, until_some}
use Rattle.capture.proofs.Pieces.{rest_is, rest_less, taken_view}
use Rattle.line.proofs.Laws.Bytes.{after_append}
use Rattle.line.proofs.Laws.Until.{after_none}
use Rattle.listing.specs.declared.Ear.{Ear}
use Rattle.line.specs.declared.Taken.{Taken}
use Rattle.listing.specs.Listing.{lines_for}
use Rattle.listing.specs.Parts.{heard_by, lines_heard, Lists}

module _ (e : Ear) (bytes : List ℕ) (long : length e.content ≡ 128) (taken : Taken) (left : List ℕ)
    (f : Fed (fed 0 e.line e.content bytes) taken left) where
  -- the fields of what was heard lie in the content
  pub taken_inside : FieldsInside taken.heard
  taken_inside = (taken_view e.line e.content bytes long taken left f).inside

  -- with the line of what was heard for its text, this is what the stretch lists
  pub taken_lists : (text : ArrayVec ℕ) → text.items ≡ lines_heard taken.heard left
      → Lists e bytes taken.count (record { line = taken.line; content = left }) text
  unfolding lines_heard
  taken_lists text h =
      let v = taken_view e.line e.content bytes long taken left f in
      let count : taken.count ≡ until_answer e.line.mode (heard_by e) bytes = omega (arith, v.count_is) in
      record {
        long = v.long;
        same_mode = v.same_mode;
        count_is = count;
        line_is = rw count v.line_is;
        text_is = h ∙ rw count (ap lines_for v.answers_are);
      }

-- ---- A piece, stretch by stretch

module _ (e : Ear) (bytes : List ℕ) (count : ℕ) (f : Ear) (text : ArrayVec ℕ) (n : Lists e bytes count f text) where
  -- a stretch of some bytes takes at least one
  pub stretch_some : 1 ≤ length bytes → 1 ≤ count
  stretch_some h = let some = until_some e.line.mode (heard_by e) bytes h in omega (arith, n.count_is)

  -- and no more than there are
  pub stretch_most : count ≤ length bytes
  stretch_most = let most = until_most e.line.mode (heard_by e) bytes in omega (arith, n.count_is)

  -- so less is left
  pub stretch_less : 1 ≤ length bytes → length (take (length bytes - count) (drop count bytes)) < length bytes
  stretch_less h = rest_less bytes count (stretch_some h) h

  -- what is left leads from there where all of them lead
  pub stretch_leads : after f.line.mode (heard_by f) (take (length bytes - count) (drop count bytes))
      ≡ after e.line.mode (heard_by e) bytes
  stretch_leads =
      rw (n.line_is, n.same_mode, rest_is bytes count)
      (sym (after_append e.line.mode (heard_by e) (take count bytes) (drop count bytes))
      ∙ ap (after e.line.mode (heard_by e)) (take-append-drop count bytes))

-- no bytes lead nowhere else
pub none_lead : (mode : ℕ) (s : State) (bytes : List ℕ) → length bytes ≡ 0 → after mode s bytes ≡ s
none_lead mode s [] h = after_none mode s
none_lead mode s (x ∷ xs) h = absurd (omega arith)
