-- STX starts a frame anew, and ETX says "sound" exactly when all that stood in the frame were accepted groups.
use Rattle.std.specs.Prelude.{◌≡◌, refl, ◌↔◌, Bool, true, false, not, List, [], ◌∷◌, ◌++◌, ℕ, T}
use Rattle.std.proofs.Math.Option.{some}
use Rattle.std.proofs.Common.{append-nil, T_not}
use Rattle.std.proofs.Math.Seq.{append_snoc}
use Rattle.std.proofs.Math.Facts.{and_yes, yes_and}
use Rattle.characters.specs.Answers.{refused, given, every_joined, by_pick}
use Rattle.groups.proofs.Laws.Tests.{zero_is_not_one}
use Rattle.line.specs.Symbols.{symbol_of}
use Rattle.line.specs.Rules.{move}
use Rattle.line.specs.Lines.{LineAnswer, State, added, is_refused, does, step, after, in_frame}
use Rattle.line.specs.Between.{
  is_inner,
  is_stx,
  no_control,
  no_stx,
  group_answer,
  SoundFrame,
  empty,
  group,
}
use Rattle.line.proofs.Laws.Bytes.{after_append, step_at, after_at}
use Rattle.line.proofs.Laws.Groups.{group_opened, group_ends}
use Rattle.line.specs.declared.Notice.TheVariants.{FrameSound}
use Rattle.line.specs.declared.rules.Symbol.{Symbol}
use Rattle.line.specs.declared.rules.Symbol.TheVariants.{Stx, Etx, Eot, Lf, Cr, Damaged, Text}
use Rattle.line.specs.declared.rules.Phase.{Phase}
use Rattle.line.specs.declared.rules.Phase.TheVariants.{Outside, Frame, Group as InGroup}

-- ---- STX

-- from each phase STX leads to the same place
stx_does : (mode : ℕ) (c : List ℕ) (p : Phase) → (does mode c (move p Stx)).state ≡ in_frame false
stx_does mode c Outside = refl
stx_does mode c (Frame flaw) = refl
stx_does mode c (InGroup flaw damaged overlong) = refl

-- wherever a line is, after STX it is in a frame with no flaw
pub stx_restarts : (mode : ℕ) (s : State) (b : ℕ) → symbol_of b ≡ Stx → (step mode s b).state ≡ in_frame false
stx_restarts mode s b e = rw (step_at mode s b e) (stx_does mode s.content s.phase)

-- ---- ETX

-- in a frame, with no flaw
abbrev is_clean : Phase → Bool
is_clean Outside = false
is_clean (Frame flaw) = not flaw
is_clean (InGroup flaw damaged overlong) = false

-- what ETX answers in each phase
etx_does : (mode : ℕ) (c : List ℕ) (p : Phase)
    → ((does mode c (move p Etx)).answer ≡ some (refused FrameSound)) ↔ T (is_clean p)
etx_does mode c Outside = (λ e. absurd (zero_is_not_one (cc)), λ t. absurd t)
etx_does mode c (Frame false) = (λ e. tt, λ t. refl)
etx_does mode c (Frame true) = (λ e. absurd (zero_is_not_one (cc)), λ t. absurd t)
etx_does mode c (InGroup flaw damaged overlong) = (λ e. absurd (zero_is_not_one (cc)), λ t. absurd t)

-- ETX says "sound" exactly in a frame with no flaw
etx_says : (mode : ℕ) (s : State) (etx : ℕ) → symbol_of etx ≡ Etx
    → ((step mode s etx).answer ≡ some (refused FrameSound)) ↔ T (is_clean s.phase)
etx_says mode s etx e = rw (step_at mode s etx e) (etx_does mode s.content s.phase)

-- ---- Without an STX, no way back

-- outside, or with a flaw
abbrev is_spoilt : Phase → Bool
is_spoilt Outside = true
is_spoilt (Frame flaw) = flaw
is_spoilt (InGroup flaw damaged overlong) = flaw

-- that is no frame without a flaw
spoilt_not_clean : (p : Phase) → T (is_spoilt p) → T (is_clean p) → ⊥
spoilt_not_clean Outside t u = u
spoilt_not_clean (Frame flaw) t u = T_not flaw u t
spoilt_not_clean (InGroup flaw damaged overlong) t u = u

-- every symbol but STX leaves it so
spoilt_does : (mode : ℕ) (c : List ℕ) (p : Phase) (y : Symbol) → T (is_spoilt p) → T (not (is_stx y))
    → T (is_spoilt (does mode c (move p y)).state.phase)
unfolding added
spoilt_does mode c Outside Stx t u = absurd u
spoilt_does mode c Outside Etx t u = tt
spoilt_does mode c Outside Eot t u = tt
spoilt_does mode c Outside Lf t u = tt
spoilt_does mode c Outside Cr t u = tt
spoilt_does mode c Outside Damaged t u = tt
spoilt_does mode c Outside (Text x) t u = tt
spoilt_does mode c (Frame flaw) Stx t u = absurd u
spoilt_does mode c (Frame flaw) Etx t u = tt
spoilt_does mode c (Frame flaw) Eot t u = tt
spoilt_does mode c (Frame flaw) Lf t u = t
spoilt_does mode c (Frame flaw) Cr t u = tt
spoilt_does mode c (Frame flaw) Damaged t u = tt
spoilt_does mode c (Frame flaw) (Text x) t u = tt
spoilt_does mode c (InGroup flaw damaged overlong) Stx t u = absurd u
spoilt_does mode c (InGroup flaw damaged overlong) Etx t u = tt
spoilt_does mode c (InGroup flaw damaged overlong) Eot t u = tt
spoilt_does mode c (InGroup flaw damaged overlong) Lf t u = tt
spoilt_does mode c (InGroup true damaged overlong) Cr t u = tt
spoilt_does mode c (InGroup false damaged overlong) Cr t u = absurd t
spoilt_does mode c (InGroup flaw damaged overlong) Damaged t u = t
spoilt_does mode c (InGroup flaw damaged overlong) (Text x) t u =
    by_pick (λ (s : State). T (is_spoilt s.phase)) _ _ _ (λ h. t) (λ h. t)

-- from there no bytes without STX lead to a frame with no flaw
no_way_back : (mode : ℕ) (s : State) (bs : List ℕ) → T (no_stx bs) → T (is_spoilt s.phase)
    → T (is_clean (after mode s bs).phase) → ⊥
unfolding after
no_way_back mode s [] t u h = spoilt_not_clean s.phase u h
no_way_back mode s (b ∷ bs) t u h =
    let (v, w) = and_yes (not (is_stx (symbol_of b))) (no_stx bs) t in
    no_way_back mode (step mode s b).state bs w
    (rw (step_at mode s b refl) (spoilt_does mode s.content s.phase (symbol_of b) u v)) h

-- ---- Accepted groups leave the frame sound

-- a frame with no flaw has none after accepted groups
sound_after : (mode : ℕ) (bs : List ℕ) → SoundFrame mode bs → after mode (in_frame false) bs ≡ in_frame false
unfolding after
sound_after mode bs empty = refl
sound_after mode bs (group lf cr inner more g el i a er rest) =
    rw (
      ← append_snoc inner cr more,
      after_append mode (in_frame false) (lf ∷ (inner ++ cr ∷ [])) more,
      group_ends mode false lf cr inner el er i,
      a,
    ) (sound_after mode more rest)

-- ---- And nothing else does

-- the frame is sound after these bytes
abbrev Clean : ℕ → List ℕ → Type 0
Clean mode bs = T (is_clean (after mode (in_frame false) bs).phase)

-- a byte that leads outside or to a flaw, and no STX behind it: the frame is not sound
spoils : (mode : ℕ) (s : State) (b : ℕ) (bs : List ℕ) (y : Symbol) → symbol_of b ≡ y → T (no_stx bs)
    → T (is_spoilt (does mode s.content (move s.phase y)).state.phase)
    → T (is_clean (after mode s (b ∷ bs)).phase) → ⊥
spoils mode s b bs y e t u h = no_way_back mode _ bs t u (rw (after_at mode s b bs e) at h)

-- and so it is where that byte stands behind an LF and bytes of its group
spoils_group : (mode lf : ℕ) (inner : List ℕ) (b : ℕ) (bs : List ℕ) (y : Symbol) → symbol_of lf ≡ Lf
    → T (no_control inner)
    → symbol_of b ≡ y → T (no_stx bs)
    → ((damaged overlong : Bool) (c : List ℕ) → T (is_spoilt (does mode c (move (InGroup false damaged overlong) y)).state.phase))
    → Clean mode (lf ∷ (inner ++ b ∷ bs)) → ⊥
spoils_group mode lf inner b bs y el i e t u h =
    spoils mode (after mode (in_frame false) (lf ∷ inner)) b bs y e t
    (rw (group_opened mode false lf inner el i) (u _ _ _))
    (rw (after_append mode (in_frame false) (lf ∷ inner) (b ∷ bs)) at h)

-- bytes that leave a frame sound are accepted groups, and so they are behind an LF and bytes of its group
record Sorted (mode : ℕ) (bs : List ℕ) : Type 0 where
  in_frame_lem : Clean mode bs → SoundFrame mode bs
  in_group : (lf : ℕ) (inner : List ℕ) → symbol_of lf ≡ Lf → T (no_control inner) → Clean mode (lf ∷ (inner ++ bs))
      → SoundFrame mode (lf ∷ (inner ++ bs))

module _ (mode b : ℕ) (bs : List ℕ) (t : T (no_stx bs)) (more : Sorted mode bs) (lf : ℕ) (inner : List ℕ) (el : symbol_of lf ≡ Lf) (i : T (no_control inner)) where
  -- a group that ends was accepted
  at_end : symbol_of b ≡ Cr → Clean mode (lf ∷ (inner ++ b ∷ bs)) → SoundFrame mode (lf ∷ (inner ++ b ∷ bs))
  at_end e h =
      by_answer (group_answer mode inner) refl
      (rw (
        ← append_snoc inner b bs,
        after_append mode (in_frame false) (lf ∷ (inner ++ b ∷ [])) bs,
        group_ends mode false lf b inner el e i,
      ) at h)
    where
      by_answer : (a : LineAnswer) → group_answer mode inner ≡ a
          → T (is_clean (after mode (in_frame (is_refused a)) bs).phase)
          → SoundFrame mode (lf ∷ (inner ++ b ∷ bs))
      by_answer (given g) a h = group lf b inner bs g el i a e (more.in_frame_lem h)
      by_answer (refused notice) a h = absurd (no_way_back mode (in_frame true) bs t tt h)

  -- a byte more in the group
  at_inner : T (is_inner (symbol_of b)) → Clean mode (lf ∷ (inner ++ b ∷ bs)) → SoundFrame mode (lf ∷ (inner ++ b ∷ bs))
  at_inner u h =
      rw (append_snoc inner b bs) at (more.in_group lf (inner ++ b ∷ []) el
      (every_joined (λ x. is_inner (symbol_of x)) inner (b ∷ []) i (yes_and (is_inner (symbol_of b)) true u tt))
      (rw (← append_snoc inner b bs) at h))

-- one byte more in front, by its symbol
sorted_step : (mode b : ℕ) (bs : List ℕ) → T (no_stx bs) → Sorted mode bs → (y : Symbol) → symbol_of b ≡ y
    → T (not (is_stx y)) → Sorted mode (b ∷ bs)
sorted_step mode b bs t more Stx e u = absurd u
sorted_step mode b bs t more Etx e u =
    record {
      in_frame_lem = λ h. absurd (spoils mode (in_frame false) b bs Etx e t tt h);
      in_group = λ lf inner el i h. absurd (spoils_group mode lf inner b bs Etx el i e t (λ d o c. tt) h);
    }
sorted_step mode b bs t more Eot e u =
    record {
      in_frame_lem = λ h. absurd (spoils mode (in_frame false) b bs Eot e t tt h);
      in_group = λ lf inner el i h. absurd (spoils_group mode lf inner b bs Eot el i e t (λ d o c. tt) h);
    }
sorted_step mode b bs t more Lf e u =
    record {
      in_frame_lem = λ h. more.in_group b [] e tt h;
      in_group = λ lf inner el i h. absurd (spoils_group mode lf inner b bs Lf el i e t (λ d o c. tt) h);
    }
sorted_step mode b bs t more Cr e u =
    record {
      in_frame_lem = λ h. absurd (spoils mode (in_frame false) b bs Cr e t tt h);
      in_group = λ lf inner el i h. at_end mode b bs t more lf inner el i e h;
    }
sorted_step mode b bs t more Damaged e u =
    record {
      in_frame_lem = λ h. absurd (spoils mode (in_frame false) b bs Damaged e t tt h);
      in_group = λ lf inner el i h. at_inner mode b bs t more lf inner el i (rw e tt) h;
    }
sorted_step mode b bs t more (Text c) e u =
    record {
      in_frame_lem = λ h. absurd (spoils mode (in_frame false) b bs (Text c) e t tt h);
      in_group = λ lf inner el i h. at_inner mode b bs t more lf inner el i (rw e tt) h;
    }

-- any bytes without STX
sorted : (mode : ℕ) (bs : List ℕ) → T (no_stx bs) → Sorted mode bs
sorted mode [] t =
    record {
      in_frame_lem = λ h. empty;
      in_group = λ lf inner el i h. absurd (rw (append-nil inner, group_opened mode false lf inner el i) at h);
    }
sorted mode (b ∷ bs) t =
    let (u, v) = and_yes (not (is_stx (symbol_of b))) (no_stx bs) t in
    sorted_step mode b bs v (sorted mode bs v) (symbol_of b) refl u

-- behind an STX and bytes without another, ETX says "sound" exactly when these bytes are accepted groups
pub frame_sound : (mode : ℕ) (bs : List ℕ) (etx : ℕ) → T (no_stx bs) → symbol_of etx ≡ Etx
    → ((step mode (after mode (in_frame false) bs) etx).answer ≡ some (refused FrameSound)) ↔ SoundFrame mode bs
frame_sound mode bs etx t e =
    let says = etx_says mode (after mode (in_frame false) bs) etx e in
    (λ h. (sorted mode bs t).in_frame_lem (says.0 h), λ f. says.1 (rw (sound_after mode bs f) tt))
