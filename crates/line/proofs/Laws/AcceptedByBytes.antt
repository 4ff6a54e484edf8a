-- When an answer is an accepted group, by the bytes alone.
use Rattle.std.specs.Prelude.{◌≡◌, refl, ◌↔◌, Bool, true, false, not, List, [], ◌∷◌, map, ℕ, T, eqb}
use Rattle.std.proofs.Common.{sym, ap, ◌∙◌, subst, arith}
use Rattle.std.proofs.Math.Option.{Option, none, some}
use Rattle.std.proofs.Math.Facts.{and_yes, yes_and}
use Rattle.characters.specs.Answers.{refused, given, every, is_true, from_true, pick}
use Rattle.characters.specs.Wire.{is_sound, character_of, STX, ETX, EOT, LF, CR}
use Rattle.groups.specs.Modes.{mode_of}
use Rattle.groups.specs.Groups.{Group, group_of}
use Rattle.groups.specs.Right.{RightGroup}
use Rattle.groups.proofs.Promises as groups
use Rattle.groups.proofs.Laws.Known.{mode_number}
use Rattle.groups.proofs.Laws.OnTheWire.{is_plain, are_plain}
use Rattle.groups.proofs.Laws.ByNumber.{judged_plain}
use Rattle.groups.specs.declared.Mode.{Mode}
use Rattle.line.specs.Symbols.{symbol_of}
use Rattle.line.specs.Lines.{LineAnswer}
use Rattle.line.specs.Between.{is_inner, no_control, any_damaged, group_answer}
use Rattle.line.specs.Entries.{Entry, accepted, only}
use Rattle.line.specs.Numbers.{shown}
use Rattle.line.specs.ByBytes.{
  is,
  open_frame,
  open_group,
  group_due,
  is_flawed,
  at_end,
  due_in_group,
  due_in_frame,
  answer_due,
  EndsInRightGroup,
}
use Rattle.line.proofs.Laws.Accepted.{accepted_exactly}
use Rattle.line.proofs.Laws.Written.{plain_text}
use Rattle.line.proofs.Laws.LookingBack.{is_at, ends_in_group, in_group}
use Rattle.line.proofs.Laws.GroupsByBytes.{damaged_all, text_all, group_shown, refused_number}

-- ---- The bytes of a right group

-- a sound byte whose character is HT or one of 0x20 to 0x7E is no control character
plain_inner : (b : ℕ) → T (is_sound b) → T (is_plain (character_of b)) → T (is_inner (symbol_of b))
unfolding symbol_of pick
plain_inner b t u = rw (is_true {b = is_sound b} t, plain_text (character_of b) u) tt

plain_inners : (bs : List ℕ) → T (every is_sound bs) → T (are_plain (map character_of bs)) → T (no_control bs)
plain_inners [] t u = tt
plain_inners (b ∷ bs) t u =
    let (i, j) = and_yes (is_sound b) (every is_sound bs) t in
    let (k, l) = and_yes (is_plain (character_of b)) (are_plain (map character_of bs)) u in
    yes_and (is_inner (symbol_of b)) (no_control bs) (plain_inner b i k) (plain_inners bs j l)

-- an answer that is shown as an accepted group is that group
pub shown_given : (a : LineAnswer) (g : Group) → shown a ≡ accepted g → a ≡ given g
shown_given (given own) g e = ap (λ (x : Entry). given (group_of x.label x.stamp x.«data»)) e
shown_given (refused notice) g e =
    let n : (shown (refused notice)).number ≡ 1 = ap (λ (x : Entry). x.number) e in
    let t = refused_number (refused notice) in
    absurd (subst (λ (b : Bool). T b) (rw n at t) tt)

module _ (mode : ℕ) (m : Mode) (k : mode_of mode ≡ some m) where
  -- bytes without a sound control character are answered by a group exactly when they are sound, and a right group's
  due_right : (bs : List ℕ) (g : Group) → T (no_control bs) → group_due m bs ≡ accepted g
      → T (every is_sound bs) × RightGroup m (map character_of bs) g
  due_right bs g i e =
      let a = shown_given (group_answer mode bs) g (group_shown mode m bs k i ∙ e) in
      let (d, own, q, r) = (accepted_exactly mode bs g).0 a in
      let same : own ≡ m = cc in
      let sound : T (every is_sound bs) = whole (every is_sound bs) (sym (damaged_all bs) ∙ d) in (
        sound,
        subst (λ (x : Mode). RightGroup x (map character_of bs) g) same
            (subst (λ (c : List ℕ). RightGroup own c g) (text_all bs sound i) r),
      )
    where
      whole : (b : Bool) → not b ≡ false → T b
      whole true e = tt
      whole false e = from_true (sym e)

  -- the bytes of a right group hold no control character
  right_inner : (bs : List ℕ) (g : Group) → T (every is_sound bs) → RightGroup m (map character_of bs) g → T (no_control bs)
  right_inner bs g t r =
      plain_inners bs t (judged_plain mode (map character_of bs) g ((groups.accepted_exactly mode (map character_of bs) g).1 (m, k, r)))

  right_due : (bs : List ℕ) (g : Group) → T (every is_sound bs) → RightGroup m (map character_of bs) g
      → group_due m bs ≡ accepted g
  right_due bs g t r =
      let i = right_inner bs g t r in
      let d : any_damaged bs ≡ false = damaged_all bs ∙ ap not (is_true {b = every is_sound bs} t) in
      let own = subst (λ (c : List ℕ). RightGroup m c g) (sym (text_all bs t i)) r in
      sym (group_shown mode m bs k i) ∙ ap shown ((accepted_exactly mode bs g).1 (d, m, k, own))

-- so in every mode
pub group_right : (m : Mode) (bs : List ℕ) (g : Group) → T (no_control bs) → group_due m bs ≡ accepted g
    → T (every is_sound bs) × RightGroup m (map character_of bs) g
group_right m bs g i e = let (mode, k) = mode_number m in due_right mode m k bs g i e

pub right_group : (m : Mode) (bs : List ℕ) (g : Group) → T (every is_sound bs) → RightGroup m (map character_of bs) g
    → T (no_control bs) × (group_due m bs ≡ accepted g)
right_group m bs g t r =
    let (mode, k) = mode_number m in (right_inner mode m k bs g t r, right_due mode m k bs g t r)

-- ---- An accepted group

-- no other answer is a group
past : (test : Bool) (e : Entry) (rest : Option Entry) (g : Group) → T (not (eqb e.number 1))
    → pick test (some e) rest ≡ some (accepted g) → rest ≡ some (accepted g)
unfolding pick
past true e rest g t q =
    let n : e.number ≡ 1 = cc in
    absurd (subst (λ (k : ℕ). T (not (eqb k 1))) n t)
past false e rest g t q = q

-- nor is one of an ETX
end_not : (m : Mode) (since : List ℕ) (o : Option (List ℕ)) → T (not (eqb (at_end m since o).number 1))
unfolding pick
end_not m since none = go (is_flawed m since)
  where
    go : (b : Bool) → T (not (eqb (pick b (only 3) (only 2)).number 1))
    go true = tt
    go false = tt
end_not m since (some inner) = tt

-- an accepted group is due at a CR in a group
at_cr : (test : Bool) (e : Entry) (g : Group) → pick test (some e) none ≡ some (accepted g) → T test × (e ≡ accepted g)
unfolding pick
at_cr true e g q = (tt, cc)
at_cr false e g q = absurd (let z : ◌≡◌ {A = ℕ} 0 1 = cc in omega arith)

-- a group is due exactly at a CR in an open group that is accepted
abbrev GroupDue : Mode → List ℕ → ℕ → Group → Type 0
GroupDue m before b g =
    T (is CR b)
    × (since : List ℕ) × (inner : List ℕ) × (open_frame before ≡ some since) × (open_group since ≡ some inner)
    × (group_due m inner ≡ accepted g)

group_due_lem : (m : Mode) (before : List ℕ) (b : ℕ) (g : Group) → answer_due m before b ≡ some (accepted g)
    → GroupDue m before b g
unfolding answer_due
group_due_lem m before b g e = by_frame (open_frame before) refl e
  where
    by_group : (since : List ℕ) → open_frame before ≡ some since → (o : Option (List ℕ)) → open_group since ≡ o
        → due_in_group m o b ≡ some (accepted g) → GroupDue m before b g
    by_group since f none n e = absurd (let z : ◌≡◌ {A = ℕ} 0 1 = cc in omega arith)
    by_group since f (some inner) n e =
        let (t, a) = at_cr (is CR b) (group_due m inner) g (past (is LF b) (only 6) _ g tt e) in
        (t, since, inner, f, n, a)

    by_frame : (o : Option (List ℕ)) → open_frame before ≡ o → due_in_frame m o b ≡ some (accepted g)
        → GroupDue m before b g
    by_frame none n e = absurd (let z : ◌≡◌ {A = ℕ} 0 1 = cc in omega arith)
    by_frame (some since) n e =
        by_group since n (open_group since) refl
        (past (is EOT b) (only 4) _ g tt
        (past (is ETX b) (at_end m since (open_group since)) _ g (end_not m since (open_group since))
        (past (is STX b) (only 5) _ g tt e)))

due_group : (m : Mode) (before : List ℕ) (b : ℕ) (g : Group) → GroupDue m before b g
    → answer_due m before b ≡ some (accepted g)
unfolding answer_due pick
due_group m before b g (t, since, inner, f, n, a) =
    rw (f, n, is_at CR b STX t, is_at CR b ETX t, is_at CR b EOT t, is_at CR b LF t, is_at CR b CR t, a)

-- the answer is a group exactly at a CR behind an LF, in an open frame, and the sound bytes of a right group
pub accepted_by_bytes : (m : Mode) (before : List ℕ) (b : ℕ) (g : Group)
    → (answer_due m before b ≡ some (accepted g)) ↔ (T (is CR b) × EndsInRightGroup m before g)
accepted_by_bytes m before b g = (
  λ e.
      let (t, since, inner, f, n, a) = group_due_lem m before b g e in
      let h = ends_in_group before since inner f n in
      let (sound, right) = group_right m inner g h.content a in (
        t,
        record {
          front = h.front;
          since = h.since;
          lf = h.lf;
          inner = inner;
          whole = h.whole;
          frame_is_open = h.frame_is_open;
          begins = h.begins;
          all_sound = sound;
          right = right;
        },
      ),
  λ (t, h).
      let (i, a) = right_group m h.inner g h.all_sound h.right in
      let (since, f, n) = in_group before h.inner (record {
        front = h.front;
        since = h.since;
        lf = h.lf;
        whole = h.whole;
        frame_is_open = h.frame_is_open;
        begins = h.begins;
        content = i;
      }) in
      due_group m before b g (t, since, h.inner, f, n, a),
)
