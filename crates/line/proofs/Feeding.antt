-- Bytes one after the other: what is left of them decides.
use mathlib.Core.Path.{◌≡◌, refl, sym, ap, ◌∙◌}
use mathlib.Core.List.{List, ◌∷◌}
use Prim.Native.Nat.{ℕ, ◌+◌, ◌-◌, ◌≤◌}
use Rattle.std.proofs.Common.{length, take, drop, length-drop, arith, []}
use lib.ListN.{length, drop}
use Rattle.line.specs.State.{written}
use Rattle.line.specs.Steps.{reacted, Stepped, FedTo, fed_on, Fed, fed}
use Rattle.line.proofs.InRows.{step_written, rest_is}
use Rattle.line.specs.declared.state.Line.{Line}
use Rattle.line.specs.declared.Heard.{Heard}
use Rattle.line.specs.declared.LineState.{LineState}
use Rattle.line.specs.declared.Heard.TheVariants.{Nothing, Accepted, Told}
use Rattle.line.specs.declared.Taken.{Taken}
use Rattle.line.specs.declared.step.Reaction.{Reaction}

-- a result and lent bytes that are those of the definition
pub as_fed : {a : FedTo} (t : Taken) (g : List ℕ) → a ≡ record { result = t; content = g } → Fed a t g
as_fed t g e = record { results = sym (ap (λ (x : FedTo). x.result) e); leaves = sym (ap (λ (x : FedTo). x.content) e) }

-- a byte at the front, as the code steps by it
module _ (l : Line) (g : List ℕ) (b : ℕ) (bs : List ℕ) (n : ℕ) (r : Reaction) (g' : List ℕ)
    (s : Stepped (reacted l g b) r g') where
  feed_by : fed n (written l) g (b ∷ bs) ≡ fed_on r.heard (written r.line) (n + 1) g' (fed (n + 1) (written r.line) g' bs)
  unfolding fed
  feed_by = rw (step_written l g b, ← s.line_is, ← s.heard_is, ← s.leaves)

  pub feed_on : r.heard ≡ Nothing → fed n (written l) g (b ∷ bs) ≡ fed (n + 1) (written r.line) g' bs
  feed_on e = feed_by ∙ rw e

  pub feed_heard : ((r.heard ≡ Nothing) → ⊥)
      → fed n (written l) g (b ∷ bs)
      ≡ record { result = record { line = written r.line; count = n + 1; heard = r.heard }; content = g' }
  feed_heard other = feed_by ∙ go r.heard other
    where
      go : (h : Heard) → ((h ≡ Nothing) → ⊥)
          → fed_on h (written r.line) (n + 1) g' (fed (n + 1) (written r.line) g' bs)
          ≡ record { result = record { line = written r.line; count = n + 1; heard = h }; content = g' }
      go Nothing o = absurd (o refl)
      go (Accepted fields) o = refl
      go (Told notice) o = refl

-- no byte is left
pub fed_none : (n : ℕ) (s : LineState) (g bs : List ℕ) → length bs ≡ 0
    → fed n s g bs ≡ record { result = record { line = s; count = n; heard = Nothing }; content = g }
unfolding fed
fed_none n s g [] e = refl
fed_none n s g (b ∷ bs) e = absurd (omega arith)

-- the byte behind some, and what is behind it
pub cut_of : (bs : List ℕ) (k b : ℕ) (more : List ℕ) → k ≤ length bs → take (length bs - k) (drop k bs) ≡ b ∷ more
    → (drop k bs ≡ b ∷ more) × (length more + 1 + k ≡ length bs)
cut_of bs k b more h e =
    let cut : drop k bs ≡ b ∷ more = sym (rest_is bs k) ∙ e in
    let long : length bs - k ≡ length (b ∷ more) = sym (length-drop k bs) ∙ ap length cut in (cut, omega arith)

-- or none
pub none_of : (bs : List ℕ) (k : ℕ) → k ≤ length bs → length (take (length bs - k) (drop k bs)) ≡ 0
    → (length (drop k bs) ≡ 0) × (k ≡ length bs)
none_of bs k h e =
    let none = rw (rest_is bs k) at e in
    let long : length (drop k bs) ≡ length bs - k = length-drop k bs in (none, omega arith)
