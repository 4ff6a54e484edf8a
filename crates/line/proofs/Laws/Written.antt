-- What the writer makes is answered by exactly that group, where it is sent in a frame.
use Rattle.std.specs.Prelude.{◌≡◌, refl, Bool, false, not, List, [], ◌∷◌, map, ℕ, suc, ◌<◌, T, eqb, length}
use Rattle.std.proofs.Common.{sym, ap, ◌∙◌, subst, arith, T_not, ne_eqb, le-ltb}
use Rattle.std.proofs.Math.Bool.{or-false}
use Rattle.std.proofs.Math.Facts.{and_yes}
use Rattle.characters.specs.Answers.{given, pick}
use Rattle.characters.specs.Wire.{wire_byte_of, STX, ETX, EOT, LF, CR}
use Rattle.characters.proofs.WireLaws.{wire_sound, wire_character}
use Rattle.groups.specs.Groups.{Group}
use Rattle.groups.specs.Judging.{judging}
use Rattle.groups.specs.Writing.{on_the_wire, off_the_wire, writing}
use Rattle.groups.proofs.Laws.OnTheWire.{is_plain, are_plain, plain_below, on_is}
use Rattle.groups.proofs.Laws.ByNumber.{judged_plain}
use Rattle.groups.proofs.Laws.Short.{judged_short}
use Rattle.groups.proofs.Promises.{written_reads_back}
use Rattle.line.specs.Symbols.{sound_symbol, symbol_of}
use Rattle.line.specs.Lines.{LineAnswer, after, answers, in_frame}
use Rattle.line.specs.Between.{is_inner, no_control, any_damaged, text_of, group_answer}
use Rattle.line.specs.ByBytes.{is, count_of}
use Rattle.line.proofs.Laws.Groups.{group_answered, group_ends}
use Rattle.line.proofs.Laws.LookingBack.{is_as, tests}
use Rattle.line.proofs.Laws.FrameNumbers.{count_append}
use Rattle.line.specs.declared.rules.Symbol.{Symbol}
use Rattle.line.specs.declared.rules.Symbol.TheVariants.{Stx, Etx, Eot, Lf, Cr, Damaged, Text}

-- ---- Wire bytes and their symbols

-- the wire byte of a character is the character's symbol
pub wire_symbol : (c : ℕ) → c < 128 → symbol_of (wire_byte_of c) ≡ sound_symbol c
unfolding symbol_of pick
wire_symbol c h = rw (wire_sound c, wire_character c h)

-- HT and 0x20 to 0x7E are none of the others
plain_not : (c k : ℕ) → T (is_plain c) → T (not (is_plain k)) → eqb c k ≡ false
plain_not c k t u = ne_eqb c k (λ e. T_not (is_plain k) u (rw e at t))

-- so they are content
pub plain_text : (c : ℕ) → T (is_plain c) → sound_symbol c ≡ Text c
unfolding sound_symbol pick
plain_text c t =
    rw (
      plain_not c STX t tt,
      plain_not c ETX t tt,
      plain_not c EOT t tt,
      plain_not c LF t tt,
      plain_not c CR t tt,
    )

-- on the wire too
plain_symbol : (c : ℕ) → T (is_plain c) → symbol_of (wire_byte_of c) ≡ Text c
plain_symbol c t = wire_symbol c (plain_below c t) ∙ plain_text c t

-- LF and CR on the wire are themselves
lf_symbol : symbol_of (wire_byte_of LF) ≡ Lf
unfolding sound_symbol pick
lf_symbol = wire_symbol LF (omega arith)

pub cr_symbol : symbol_of (wire_byte_of CR) ≡ Cr
unfolding sound_symbol pick
cr_symbol = wire_symbol CR (omega arith)

-- ---- The wire bytes of a content

-- none of them is a control character, none is damaged, and their characters are the content
record Clear (c : List ℕ) : Type 0 where
  none_controls : T (no_control (map wire_byte_of c))
  none_damaged : any_damaged (map wire_byte_of c) ≡ false
  all_text : text_of (map wire_byte_of c) ≡ c

-- so it is with HT and 0x20 to 0x7E
clear : (c : List ℕ) → T (are_plain c) → Clear c
clear [] t = record { none_controls = tt; none_damaged = refl; all_text = refl }
clear (x ∷ c) t =
    let (u, v) = and_yes (is_plain x) (are_plain c) t in
    let e = plain_symbol x u in
    let more = clear c v in
    record {
      none_controls = rw e more.none_controls;
      none_damaged = rw e more.none_damaged;
      all_text = rw e (ap (λ (l : List ℕ). x ∷ l) more.all_text);
    }

-- the answer to the wire bytes of an accepted content is its group
wire_answer : (mode : ℕ) (c : List ℕ) (g : Group) → judging mode c ≡ given g
    → group_answer mode (map wire_byte_of c) ≡ given g
unfolding group_answer pick
wire_answer mode c g e =
    let k = clear c (judged_plain mode c g e) in
    rw (k.none_damaged, k.all_text, le-ltb 128 (length c) (judged_short mode c g e), e)

-- ---- Sent in a frame

-- the bytes are answered by exactly this group, and the frame is as flawed as it was
abbrev pub AnsweredBy : ℕ → Bool → Group → List ℕ → Type 0
AnsweredBy mode flaw g w =
    (answers mode (in_frame flaw) w ≡ given g ∷ []) × (after mode (in_frame flaw) w ≡ in_frame flaw)

-- an accepted content on the wire is answered by its group
pub accepted_sent : (mode : ℕ) (flaw : Bool) (c : List ℕ) (g : Group) → judging mode c ≡ given g
    → AnsweredBy mode flaw g (on_the_wire c)
accepted_sent mode flaw c g e =
    let lf = wire_byte_of LF in
    let cr = wire_byte_of CR in
    let bs = map wire_byte_of c in
    let i = (clear c (judged_plain mode c g e)).none_controls in
    let a = wire_answer mode c g e in
    rw (on_is c) (
      group_answered mode flaw lf cr bs lf_symbol cr_symbol i ∙ ap (λ (a : LineAnswer). a ∷ []) a,
      group_ends mode flaw lf cr bs lf_symbol cr_symbol i ∙ rw (a, or-false flaw),
    )

-- what is written is answered by the group that was to be written
pub written_sent : (mode : ℕ) (flaw : Bool) (g : Group) (room : ℕ) (w : List ℕ) → writing mode g room ≡ given w
    → (answers mode (in_frame flaw) w ≡ given g ∷ []) × (after mode (in_frame flaw) w ≡ in_frame flaw)
written_sent mode flaw g room w e =
    let (j, on, sound) = written_reads_back mode g room w e in
    subst (AnsweredBy mode flaw g) (sym on) (accepted_sent mode flaw (off_the_wire w) g j)

-- ---- It has no STX

-- as what stands in a group has none
inner_no_stx : (bs : List ℕ) → T (no_control bs) → count_of (is STX) bs ≡ 0
unfolding pick
inner_no_stx [] t = refl
inner_no_stx (b ∷ bs) t =
    let (inner, more) = and_yes (is_inner (symbol_of b)) (no_control bs) t in
    rw (tests b).0 (go (symbol_of b) inner (inner_no_stx bs more))
  where
    go : (y : Symbol) → T (is_inner y) → count_of (is STX) bs ≡ 0
        → pick (is_as STX y) (suc (count_of (is STX) bs)) (count_of (is STX) bs) ≡ 0
    go Stx u e = absurd u
    go Etx u e = absurd u
    go Eot u e = absurd u
    go Lf u e = absurd u
    go Cr u e = absurd u
    go Damaged u e = e
    go (Text c) u e = e

-- nor has an accepted content on the wire
sent_no_stx : (mode : ℕ) (c : List ℕ) (g : Group) → judging mode c ≡ given g → count_of (is STX) (on_the_wire c) ≡ 0
unfolding pick
sent_no_stx mode c g e =
    let bs = map wire_byte_of c in
    let inner = inner_no_stx bs (clear c (judged_plain mode c g e)).none_controls in
    let first : is STX (wire_byte_of LF) ≡ false = (tests (wire_byte_of LF)).0 ∙ ap (is_as STX) lf_symbol in
    let last : is STX (wire_byte_of CR) ≡ false = (tests (wire_byte_of CR)).0 ∙ ap (is_as STX) cr_symbol in
    rw (on_is c, first, count_append (is STX) bs (wire_byte_of CR ∷ []), inner, last)

pub written_no_stx : (mode : ℕ) (g : Group) (room : ℕ) (w : List ℕ) → writing mode g room ≡ given w
    → count_of (is STX) w ≡ 0
written_no_stx mode g room w e =
    let (j, on, sound) = written_reads_back mode g room w e in
    subst (λ (l : List ℕ). count_of (is STX) l ≡ 0) (sym on) (sent_no_stx mode (off_the_wire w) g j)
