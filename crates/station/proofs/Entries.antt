-- The ways through the functions that put an entry on the sheet, over plain variables.
use mathlib.Core.Path.{◌≡◌, sym, ap, ◌∙◌, subst}
use mathlib.Core.List.{List, [], ◌∷◌, ◌++◌, append_assoc}
use Prim.Native.Nat.{ℕ, ◌+◌, ◌*◌, ◌/◌, ◌%◌, ◌≤◌, ◌<◌}
use native.Mathlib.Omega.{arith}
use native.Mathlib.Nat.{add-zero}
use lib.ListN.{length, take, drop, length-take, length-drop, length-append}
use lib.Seq.{paste, paste-zero}
use Rattle.std.proofs.lemmas.List.Edits.{length-paste}
use Rattle.groups.specs.declared.Stretch.{Stretch}
use Rattle.characters.specs.Answers.{pick}
use Rattle.line.specs.Numbers.{number_of, number_of_notice, place_of, place_of_notice}
use Rattle.line.specs.Views.{FieldsInside}
use Rattle.line.proofs.Laws.Heard.{heard_nothing, heard_told, heard_accepted}
use Rattle.line.proofs.Laws.GroupsByBytes.{notice_number}
use Rattle.groups.specs.declared.Fields.{Fields}
use Rattle.line.specs.declared.Notice.{Notice}
use Rattle.line.specs.declared.Heard.{Heard}
use Rattle.line.specs.declared.Heard.TheVariants.{Nothing, Accepted, Told}
use Rattle.station.specs.Sheets.{two_bytes, entry_bytes}
use Rattle.station.specs.Parts.{entry_heard, group_entry, Put, PutShort}
use Rattle.station.proofs.Copying.{paste_two}

-- ---- The entry of each case of what was heard

nothing_entry : (frame : ℕ) (content : List ℕ) → entry_heard Nothing frame content ≡ []
unfolding entry_heard
nothing_entry frame content = rw (heard_nothing content)

-- the two bytes of a number are those of its remainder
bytes_kept : (n : ℕ) → two_bytes (n % 65536) ≡ n % 256 ∷ n / 256 % 256 ∷ []
unfolding two_bytes
bytes_kept n =
    let low : n % 65536 % 256 ≡ n % 256 = omega arith in
    let whole : n / 65536 ≡ n / 256 / 256 = omega arith in
    let rest : n % 65536 ≡ 256 * (n / 256 % 256) + n % 256 = omega arith in
    let high : n % 65536 / 256 % 256 ≡ n / 256 % 256 =
    ap (λ (k : ℕ). k / 256 % 256) rest ∙ upper (n / 256 % 256) (n % 256) (omega arith) (omega arith) in
    rw (low, high)
  where
    upper : (a b : ℕ) → a < 256 → b < 256 → (256 * a + b) / 256 % 256 ≡ a
    upper a b h k = omega arith

told_entry : (notice : Notice) (frame : ℕ) (content : List ℕ)
    → entry_heard (Told notice) frame content
    ≡ number_of_notice notice ∷ 0 ∷ 0 ∷ place_of_notice notice ∷ frame % 256 ∷ frame / 256 % 256 ∷ []
unfolding entry_heard entry_bytes pick
told_entry notice frame content = rw (heard_told notice content, notice_number notice, bytes_kept frame)

-- a field that lies inside the content has its length
text_long : (s : Stretch) (content text : List ℕ) → length content ≡ 128 → s.start + s.length ≤ 128
    → text ≡ take s.length (drop s.start content) → length text ≡ s.length
text_long s content text long h e = ap length e ∙ simp (length-take, length-drop) (omega arith)

-- the fields of an accepted group
module _ (fields : Fields) (content label stamp text : List ℕ) (long : length content ≡ 128) (inside : FieldsInside (Accepted fields))
    (el : label ≡ take fields.label.length (drop fields.label.start content))
    (es : stamp ≡ take fields.stamp.length (drop fields.stamp.start content))
    (et : text ≡ take fields.«data».length (drop fields.«data».start content)) where
  -- have at most 128 bytes
  pub fields_short : length label + (length stamp + length text) ≤ 128
  fields_short =
      let l = text_long fields.label content label long inside.label_inside el in
      let s = text_long fields.stamp content stamp long inside.stamp_inside es in
      let t = text_long fields.«data» content text long inside.data_inside et in
      omega (arith, inside.all_short)

  group_entry_lem : (frame : ℕ)
      → entry_heard (Accepted fields) frame content ≡ group_entry label stamp text (frame % 256) (frame / 256 % 256)
  unfolding entry_heard entry_bytes pick
  group_entry_lem frame =
      rw (heard_accepted fields content long inside, bytes_kept frame, el, es, et)

-- ---- Putting it

module _ (sheet content : List ℕ) (at : ℕ) (heard : Heard) (frame : ℕ) where
  pub put_nothing : heard ≡ Nothing → PutShort at sheet (entry_heard heard frame content) at sheet
  put_nothing e =
      rw (e, nothing_entry frame content) ((sym (add-zero at), paste-zero sheet at []), omega arith)

  pub put_told : (x : List ℕ) (next number place low high : ℕ) (notice : Notice) → heard ≡ Told notice
      → number ≡ number_of heard → place ≡ place_of heard → low ≡ frame % 256 → high ≡ frame / 256 % 256
      → Put at sheet (number ∷ 0 ∷ 0 ∷ place ∷ low ∷ high ∷ []) next x
      → PutShort at sheet (entry_heard heard frame content) next x
  put_told x next number place low high notice e n o ol oh p =
      let k : number ≡ number_of_notice notice = n ∙ ap number_of e in
      let j : place ≡ place_of_notice notice = o ∙ ap place_of e in
      (rw (e, told_entry notice frame content) (rw (k, j, ol, oh) at p), omega (arith, p.0))

  pub put_accepted : (x : List ℕ) (place low high : ℕ) (fields : Fields) (label stamp text : List ℕ)
      → heard ≡ Accepted fields → length content ≡ 128 → FieldsInside heard
      → label ≡ take fields.label.length (drop fields.label.start content)
      → stamp ≡ take fields.stamp.length (drop fields.stamp.start content)
      → text ≡ take fields.«data».length (drop fields.«data».start content)
      → low ≡ frame % 256 → high ≡ frame / 256 % 256
      → Put at sheet (group_entry label stamp text low high) place x
      → PutShort at sheet (entry_heard heard frame content) place x
  put_accepted x place low high fields label stamp text e long inside el es et ol oh p =
      let i = subst FieldsInside e inside in
      let short = fields_short fields content label stamp text long i el es et in
      let entry = group_entry_lem fields content label stamp text long i el es et frame in
      (rw (e, entry) (rw (ol, oh) at p), omega (arith, p.0, short, length-append label (stamp ++ text), length-append stamp text))

-- the sheet keeps its length
pub put_long : (sheet entry after : List ℕ) (at place : ℕ) → Put at sheet entry place after → place ≤ length sheet
    → length after ≡ length sheet
put_long sheet entry after at place p h =
    ap length p.1 ∙ length-paste sheet at entry (length entry) (omega (arith, p.0)) (omega arith)

-- the head of an entry, and its three texts behind it
pub put_group : (sheet : List ℕ) (at : ℕ) (label stamp text : List ℕ) (low high : ℕ)
    → length label + (length stamp + length text) ≤ 128 → at + 134 ≤ length sheet → (x y z u : List ℕ) (m p q r : ℕ)
    → Put at sheet (1 ∷ length label ∷ length stamp ∷ length text ∷ low ∷ high ∷ []) m x
    → Put m x label p y → Put p y stamp q z → Put q z text r u
    → Put at sheet (group_entry label stamp text low high) r u
put_group sheet at label stamp text low high short room x y z u m p q r ex ey ez eu =
    let head : List ℕ = 1 ∷ length label ∷ length stamp ∷ length text ∷ low ∷ high ∷ [] in
    let ls = length-append label stamp in
    let st = length-append stamp text in
    let lst = length-append label (stamp ++ text) in
    let one : y ≡ paste sheet at (head ++ label) (length (head ++ label)) =
    paste_two sheet head label x y at m (omega (arith, ex.0)) (omega (arith, ex.0)) ex.1 ey.1 in
    let two : z ≡ paste sheet at (head ++ label ++ stamp) (length (head ++ label ++ stamp)) =
    paste_two sheet (head ++ label) stamp y z at p (omega (arith, ex.0, ey.0)) (omega (arith, ex.0, ey.0)) one ez.1 in
    let three : u ≡ paste sheet at (head ++ label ++ stamp ++ text) (length (head ++ label ++ stamp ++ text)) =
    paste_two sheet (head ++ label ++ stamp) text z u at q (omega (arith, ex.0, ey.0, ez.0)) (omega (arith, ex.0, ey.0, ez.0)) two eu.1 in
    (omega (arith, ex.0, ey.0, ez.0, eu.0), rw (append_assoc label stamp text) at three)
