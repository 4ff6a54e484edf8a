-- Looking back: what the tests of a byte say of its symbol, what is open with one byte more, and what is known of the bytes
-- of an open group.
use Rattle.std.proofs.Math.Path.{◌≡◌, refl}
use Rattle.std.proofs.Common.{sym, ap, ◌∙◌, arith}
use Rattle.std.specs.Prelude.{◌↔◌, Bool, not, ◌&&◌, ◌||◌, ℕ, T, eqb}
use Rattle.std.proofs.Math.Bool.{true, false, and-true, and_assoc}
use Rattle.std.proofs.Math.Option.{Option, none, some}
use mathlib.Core.List.{List, [], ◌∷◌, ◌++◌, append-nil, append_assoc}
use Rattle.std.proofs.Math.Seq.{append_snoc}
use Rattle.std.proofs.Math.Facts.{and_yes, yes_and, or_no, eqb_yes}
use Rattle.characters.specs.Answers.{every, every_weaker, is_true, is_false, pick, by_pick}
use Rattle.characters.specs.Wire.{is_sound, character_of, STX, ETX, EOT, LF, CR}
use Rattle.line.specs.Symbols.{sound_symbol, symbol_of}
use Rattle.line.specs.Between.{is_inner, no_control}
use Rattle.line.specs.ByBytes.{is, open_since, open_frame, open_group}
use Rattle.line.specs.declared.rules.Symbol.{Symbol}
use Rattle.line.specs.declared.rules.Symbol.TheVariants.{Stx, Etx, Eot, Lf, Cr, Damaged, Text}

-- ---- The tests of a byte, by its symbol

abbrev pub is_as : ℕ → Symbol → Bool
is_as k Stx = eqb STX k
is_as k Etx = eqb ETX k
is_as k Eot = eqb EOT k
is_as k Lf = eqb LF k
is_as k Cr = eqb CR k
is_as k Damaged = false
is_as k (Text c) = false

-- the five tests
abbrev pub Tests : (ℕ → Bool) → Symbol → Type 0
Tests f y = (f STX ≡ is_as STX y) × (f ETX ≡ is_as ETX y) × (f EOT ≡ is_as EOT y) × (f LF ≡ is_as LF y) × (f CR ≡ is_as CR y)

-- a character that is k has the tests of k
tests_of : (c k : ℕ) (y : Symbol) → Tests (eqb k) y → T (eqb c k) → Tests (eqb c) y
tests_of c k y h t = rw (eqb_yes {a = c} {b = k} t) h

-- of a sound byte
sound_tests : (c : ℕ) → Tests (eqb c) (sound_symbol c)
unfolding sound_symbol
sound_tests c =
    by_pick (Tests (eqb c)) _ _ _ (tests_of c STX Stx (refl, refl, refl, refl, refl)) λ s.
    by_pick (Tests (eqb c)) _ _ _ (tests_of c ETX Etx (refl, refl, refl, refl, refl)) λ e.
    by_pick (Tests (eqb c)) _ _ _ (tests_of c EOT Eot (refl, refl, refl, refl, refl)) λ o.
    by_pick (Tests (eqb c)) _ _ _ (tests_of c LF Lf (refl, refl, refl, refl, refl)) λ l.
    by_pick (Tests (eqb c)) _ _ _ (tests_of c CR Cr (refl, refl, refl, refl, refl)) λ r.
    (is_false s, is_false e, is_false o, is_false l, is_false r)

-- and of any
pub tests : (b : ℕ) → Tests (λ k. is k b) (symbol_of b)
unfolding symbol_of is pick
tests b = go (is_sound b)
  where
    go : (sound : Bool)
        → Tests (λ k. sound && eqb (character_of b) k) (pick sound (sound_symbol (character_of b)) Damaged)
    go true = sound_tests (character_of b)
    go false = (refl, refl, refl, refl, refl)

-- ---- One byte more

every_more : (f : ℕ → Bool) (p : List ℕ) (b : ℕ) → every f (p ++ b ∷ []) ≡ (every f p && f b)
every_more f [] b = and-true (f b)
every_more f (x ∷ p) b = ap (λ r. f x && r) (every_more f p b) ∙ sym (and_assoc (f x) (every f p) (f b))

-- what is open with one byte more, that begins it or ends it or neither
abbrev pub added : ℕ → Option (List ℕ) → Option (List ℕ)
added b none = none
added b (some bs) = some (bs ++ b ∷ [])

abbrev pub more : Bool → Bool → ℕ → Option (List ℕ) → Option (List ℕ)
more true ends b o = some []
more false true b o = none
more false false b o = added b o

more_none : (i e : Bool) (b : ℕ) → pick (i && true) (some []) none ≡ more i e b none
unfolding pick
more_none true e b = refl
more_none false true b = refl
more_none false false b = refl

more_some : (first rest i e : Bool) (p : List ℕ) (b : ℕ) (o : Option (List ℕ))
    → pick (first && (rest && not (i || e))) (some (p ++ b ∷ [])) (more i e b o)
    ≡ more i e b (pick (first && rest) (some p) o)
unfolding pick
more_some false rest i e p b o = refl
more_some true false i e p b o = refl
more_some true true true e p b o = refl
more_some true true false true p b o = refl
more_some true true false false p b o = refl

pub open_more : (begins ends : ℕ → Bool) (p : List ℕ) (b : ℕ)
    → open_since begins ends (p ++ b ∷ []) ≡ more (begins b) (ends b) b (open_since begins ends p)
unfolding open_since
open_more begins ends [] b = more_none (begins b) (ends b) b
open_more begins ends (x ∷ p) b =
    rw (every_more (λ y. not (begins y || ends y)) p b, open_more begins ends p b)
    (more_some (begins x) (every (λ y. not (begins y || ends y)) p) (begins b) (ends b) p b (open_since begins ends p))

-- ---- Bytes

-- a byte of one character is of no other
pub is_at : (c b k : ℕ) → T (is c b) → is k b ≡ eqb c k
unfolding is
is_at c b k t =
    let (sound, e) = and_yes (is_sound b) (eqb (character_of b) c) t in
    rw (is_true {b = is_sound b} sound, eqb_yes {a = character_of b} {b = c} e)

-- no sound control character is none of the five
inner_as : (y : Symbol)
    → is_inner y ≡ (not (is_as STX y || (is_as ETX y || is_as EOT y)) && not (is_as LF y || is_as CR y))
inner_as Stx = refl
inner_as Etx = refl
inner_as Eot = refl
inner_as Lf = refl
inner_as Cr = refl
inner_as Damaged = refl
inner_as (Text c) = refl

inner_is : (b : ℕ)
    → is_inner (symbol_of b) ≡ (not (is STX b || (is ETX b || is EOT b)) && not (is LF b || is CR b))
inner_is b = let t = tests b in rw (t.0, t.1, t.2, t.3, t.4) (inner_as (symbol_of b))

-- ---- Looking back

-- neither begins nor ends what is looked for
abbrev pub passes : (ℕ → Bool) → (ℕ → Bool) → ℕ → Bool
passes begins ends b = not (begins b || ends b)

module _ (begins ends : ℕ → Bool) where
  -- what is open since then stands at the end
  abbrev pub Opened : List ℕ → List ℕ → Type 0
  Opened p xs =
      (front : List ℕ) × (x : ℕ) × (p ≡ front ++ x ∷ xs) × T (begins x) × T (every (passes begins ends) xs)

  pub opened : (p xs : List ℕ) → open_since begins ends p ≡ some xs → Opened p xs
  unfolding open_since pick
  opened [] xs e = absurd (let z : ◌≡◌ {A = ℕ} 0 1 = cc in omega arith)
  opened (b ∷ bs) xs e = go (begins b && every (passes begins ends) bs) refl e (opened bs xs)
    where
      go : (test : Bool) → (begins b && every (passes begins ends) bs) ≡ test
          → pick test (some bs) (open_since begins ends bs) ≡ some xs
          → (open_since begins ends bs ≡ some xs → Opened bs xs) → Opened (b ∷ bs) xs
      go true t e later =
          let q : bs ≡ xs = cc in
          let (u, v) = and_yes (begins b) (every (passes begins ends) bs) (rw t tt) in
          ([], b, rw q, u, rw q at v)
      go false t e later =
          let (front, x, q, u, v) = later e in (b ∷ front, x, rw q, u, v)

  -- bytes that neither begin nor end it leave it open
  open_on : (p since xs : List ℕ) → open_since begins ends p ≡ some since → T (every (passes begins ends) xs)
      → open_since begins ends (p ++ xs) ≡ some (since ++ xs)
  open_on p since [] e t = rw (append-nil p, append-nil since) e
  open_on p since (x ∷ xs) e t =
      let (u, v) = and_yes (passes begins ends x) (every (passes begins ends) xs) t in
      let (i, j) = or_no (begins x) (ends x) u in
      rw (← append_snoc p x xs, ← append_snoc since x xs) (open_on (p ++ x ∷ []) (since ++ x ∷ []) xs
      (rw (open_more begins ends p x, is_false {b = begins x} i, is_false {b = ends x} j, e)) v)

  -- and behind one that begins it, it is open since then
  open_at : (p : List ℕ) (x : ℕ) (xs : List ℕ) → T (begins x) → T (every (passes begins ends) xs)
      → open_since begins ends (p ++ x ∷ xs) ≡ some xs
  open_at p x xs i t =
      rw (← append_snoc p x xs) (open_on (p ++ x ∷ []) [] xs (rw (open_more begins ends p x, is_true {b = begins x} i)) t)

-- ---- An open group, in its frame

every_split : (f : ℕ → Bool) (a b : List ℕ) → T (every f (a ++ b)) → T (every f a) × T (every f b)
every_split f [] b t = (tt, t)
every_split f (x ∷ a) b t =
    let (u, v) = and_yes (f x) (every f (a ++ b)) t in
    let (i, j) = every_split f a b v in (yes_and (f x) (every f a) u i, j)

every_both : (f g h : ℕ → Bool) → ((x : ℕ) → T (f x) → T (g x) → T (h x)) → (xs : List ℕ) → T (every f xs)
    → T (every g xs) → T (every h xs)
every_both f g h w [] t u = tt
every_both f g h w (x ∷ xs) t u =
    let (i, j) = and_yes (f x) (every f xs) t in
    let (k, l) = and_yes (g x) (every g xs) u in
    yes_and (h x) (every h xs) (w x i k) (every_both f g h w xs j l)

-- a byte that leaves a frame as open as it was, and one that leaves a group so
abbrev ends_frame : ℕ → Bool
ends_frame b = is ETX b || is EOT b

abbrev keeps_frame : ℕ → Bool
keeps_frame b = passes (is STX) ends_frame b

abbrev keeps_group : ℕ → Bool
keeps_group b = passes (is LF) (is CR) b

-- no sound control character is both
inner_both : (b : ℕ) → T (is_inner (symbol_of b)) ↔ (T (keeps_frame b) × T (keeps_group b))
inner_both b = rw (inner_is b) (and_yes (keeps_frame b) (keeps_group b), λ (t, u). yes_and (keeps_frame b) (keeps_group b) t u)

-- LF leaves the frame open
lf_passes : (lf : ℕ) → T (is LF lf) → T (keeps_frame lf)
lf_passes lf t = rw (is_at LF lf STX t, is_at LF lf ETX t, is_at LF lf EOT t) tt

-- in a frame that is open an LF, and then these bytes, no sound control character among them
pub record EndsInGroup (before bs : List ℕ) : Type 0 where
  pub front : List ℕ
  pub since : List ℕ
  pub lf : ℕ
  pub whole : before ≡ front ++ lf ∷ bs
  pub frame_is_open : open_frame front ≡ some since
  pub begins : T (is LF lf)
  pub content : T (no_control bs)

-- the bytes of an open group are such
pub ends_in_group : (before since bs : List ℕ) → open_frame before ≡ some since → open_group since ≡ some bs
    → EndsInGroup before bs
ends_in_group before since bs e n =
    let (one, stx, q, i, t) = opened (is STX) ends_frame before since e in
    let (two, lf, r, j, u) = opened (is LF) (is CR) since bs n in
    let (v, w) = every_split keeps_frame two (lf ∷ bs) (rw r at t) in
    record {
      front = one ++ stx ∷ two;
      since = two;
      lf = lf;
      whole = q ∙ ap (λ (l : List ℕ). one ++ stx ∷ l) r ∙ sym (append_assoc one (stx ∷ two) (lf ∷ bs));
      frame_is_open = open_at (is STX) ends_frame one stx two i v;
      begins = j;
      content =
          every_both keeps_frame keeps_group (λ b. is_inner (symbol_of b)) (λ b k l. (inner_both b).1 (k, l)) bs
          (and_yes (keeps_frame lf) (every keeps_frame bs) w).1 u;
    }

-- and such bytes are those of an open group
pub in_group : (before bs : List ℕ) → EndsInGroup before bs
    → (since : List ℕ) × (open_frame before ≡ some since) × (open_group since ≡ some bs)
in_group before bs h =
    let lf = h.lf in
    let t = every_weaker (λ b. is_inner (symbol_of b)) keeps_frame (λ b k. ((inner_both b).0 k).0) bs h.content in
    let u = every_weaker (λ b. is_inner (symbol_of b)) keeps_group (λ b k. ((inner_both b).0 k).1) bs h.content in (
      h.since ++ lf ∷ bs,
      rw h.whole (open_on (is STX) ends_frame h.front h.since (lf ∷ bs) h.frame_is_open
          (yes_and (keeps_frame lf) (every keeps_frame bs) (lf_passes lf h.begins) t)),
      open_at (is LF) (is CR) h.since lf bs h.begins u,
    )
