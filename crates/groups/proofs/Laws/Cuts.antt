-- A text is cut where it was joined, and what was cut joins again.
use Rattle.std.proofs.Common.{◌≡◌, refl, Bool, not, List, [], ◌∷◌, ◌++◌, ℕ, ◌≤◌, T, eqb, length, ap, ◌∙◌, subst, arith, eqb→eq, length-append}
use Rattle.std.proofs.Math.Option.{Option, none, some}
use Rattle.std.proofs.Math.Dec.{eqb_refl}
use Rattle.std.proofs.Math.Facts.{and_yes, yes_and}
use Rattle.characters.specs.Answers.{every, pick_yes, pick_no, by_pick}
use Rattle.groups.specs.Cuts.{Cut, cut, also, Ending, ending, ahead}
use Rattle.groups.proofs.Laws.Tests.{not_some}

-- s is not in the text
abbrev pub free : ℕ → List ℕ → Bool
free s l = every (λ x. not (eqb x s)) l

pub cut_joined : (s : ℕ) (l a : List ℕ) → T (free s l) → cut s (l ++ s ∷ a) ≡ some (record { before = l; after = a })
unfolding cut
cut_joined s [] a t = pick_yes (eqb s s) _ _ (eqb_refl s)
cut_joined s (x ∷ l) a t =
    let h = and_yes (not (eqb x s)) (free s l) t in
    pick_no (eqb x s) _ _ h.0 ∙ ap (also x) (cut_joined s l a h.1)

abbrev CutOf : ℕ → List ℕ → Cut → Type 0
CutOf s c r = T (free s r.before) × (c ≡ r.before ++ s ∷ r.after)

also_inv : (s x : ℕ) (c : List ℕ) (r : Cut) (o : Option Cut) → T (not (eqb x s))
    → ((q : Cut) → o ≡ some q → CutOf s c q) → also x o ≡ some r → CutOf s (x ∷ c) r
also_inv s x c r none t f e = not_some e
also_inv s x c r (some q) t f e =
    let g : record { before = x ∷ q.before; after = q.after } ≡ r = cc in
    let h = f q refl in
    subst (CutOf s (x ∷ c)) g (yes_and (not (eqb x s)) (free s q.before) t h.0, ap (λ (l : List ℕ). x ∷ l) h.1)

pub cut_joins : (s : ℕ) (c : List ℕ) (r : Cut) → cut s c ≡ some r → CutOf s c r
unfolding cut
cut_joins s [] r e = not_some e
cut_joins s (x ∷ c) r e =
    by_pick (λ (o : Option Cut). o ≡ some r → CutOf s (x ∷ c) r) (eqb x s) _ _
    (λ t e. here (eqb→eq x s t) e)
    (λ t e. also_inv s x c r (cut s c) t (cut_joins s c) e) e
  where
    here : x ≡ s → some (record { before = []; after = c }) ≡ some r → CutOf s (x ∷ c) r
    here p e =
        let g : record { before = []; after = c } ≡ r = cc in
        subst (CutOf s (x ∷ c)) g (tt, ap (λ (y : ℕ). y ∷ c) p)

-- one more in front of two or more
ending_more : (s x : ℕ) (c : List ℕ) → 2 ≤ length c → ending s (x ∷ c) ≡ ahead x (ending s c)
unfolding ending
ending_more s x [] h = absurd (omega arith)
ending_more s x (y ∷ []) h = absurd (omega arith)
ending_more s x (y ∷ z ∷ zs) h = refl

pub ending_joined : (s : ℕ) (b : List ℕ) (k : ℕ) → ending s (b ++ s ∷ k ∷ []) ≡ some (record { front = b; last = k })
unfolding ending
ending_joined s [] k = pick_yes (eqb s s) _ _ (eqb_refl s)
ending_joined s (x ∷ b) k =
    ending_more s x (b ++ s ∷ k ∷ []) (simp length-append (omega arith)) ∙ ap (ahead x) (ending_joined s b k)

abbrev EndOf : ℕ → List ℕ → Ending → Type 0
EndOf s c r = c ≡ r.front ++ s ∷ r.last ∷ []

ahead_inv : (s x : ℕ) (c : List ℕ) (r : Ending) (o : Option Ending) → ((q : Ending) → o ≡ some q → EndOf s c q)
    → ahead x o ≡ some r → EndOf s (x ∷ c) r
ahead_inv s x c r none f e = not_some e
ahead_inv s x c r (some q) f e =
    let g : record { front = x ∷ q.front; last = q.last } ≡ r = cc in
    subst (EndOf s (x ∷ c)) g (ap (λ (l : List ℕ). x ∷ l) (f q refl))

pub ending_joins : (s : ℕ) (c : List ℕ) (r : Ending) → ending s c ≡ some r → EndOf s c r
unfolding ending
ending_joins s [] r e = not_some e
ending_joins s (x ∷ []) r e = not_some e
ending_joins s (x ∷ y ∷ []) r e =
    by_pick (λ (o : Option Ending). o ≡ some r → EndOf s (x ∷ y ∷ []) r) (eqb x s) _ _ (λ t e. here (eqb→eq x s t) e) (λ t e. not_some e) e
  where
    here : x ≡ s → some (record { front = []; last = y }) ≡ some r → EndOf s (x ∷ y ∷ []) r
    here p e =
        let g : record { front = []; last = y } ≡ r = cc in
        subst (EndOf s (x ∷ y ∷ [])) g (ap (λ (z : ℕ). z ∷ y ∷ []) p)
ending_joins s (x ∷ y ∷ z ∷ zs) r e = ahead_inv s x (y ∷ z ∷ zs) r (ending s (y ∷ z ∷ zs)) (ending_joins s (y ∷ z ∷ zs)) e
