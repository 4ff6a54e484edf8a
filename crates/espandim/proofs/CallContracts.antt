-- Two answers that one contract of an exported function allows are equal: the number, and every number and byte of what
-- was lent. A memory has the sizes that the types of its four arrays give.
use Rattle.std.specs.Prelude.{◌≡◌, List, ℕ, Result}
use Rattle.std.proofs.Common.{sym, ◌∙◌}
use Rattle.characters.specs.Answers.{Answer}
use Rattle.groups.specs.declared.Refusal.{Refusal}
use Rattle.groups.specs.declared.Fields.{Fields}
use Rattle.groups.specs.declared.Fault.{Fault}
use Rattle.station.specs.Memory.{Memory, Sized}
use Rattle.station.proofs.Fixed.{fixed}
use Rattle.station.specs.History.{Call}
use Rattle.espandim.specs.Calls.{Calls, Serves}
use Rattle.espandim.specs.OneGroup.{Judges, Writes}

-- `espandim_rows_open` and `espandim_rows_deliver`
pub calls_equal : (m n n' : Memory) (c : Call) (number other : ℕ) → Sized n → Sized n' → Calls m c number n
    → Calls m c other n' → (number ≡ other) × (n ≡ n')
calls_equal m n n' c number other y z a b =
    (a.returns ∙ sym b.returns, fixed n n' y z (a.leaves ∙ sym b.leaves))

-- `espandim_rows_round`
pub rounds_equal : (m n n' : Memory) (sheet after after' counts counts' : List ℕ) (number other : ℕ) → Sized n
    → Sized n' → Serves m sheet number n after counts → Serves m sheet other n' after' counts'
    → (number ≡ other) × (n ≡ n') × (after ≡ after') × (counts ≡ counts')
rounds_equal m n n' sheet after after' counts counts' number other y z a b =
    let (same_number, same_memory) = calls_equal m n n' _ number other y z a.calls b.calls in
    (same_number, same_memory, a.sheet_is ∙ sym b.sheet_is, a.counts_are ∙ sym b.counts_are)

-- `espandim_judge`
pub judgings_equal : (j : Result Fields Fault) (number other : ℕ) (stretches stretches' : List ℕ) (place place' : ℕ)
    → Judges j number stretches place → Judges j other stretches' place'
    → (number ≡ other) × (stretches ≡ stretches') × (place ≡ place')
judgings_equal j number other stretches stretches' place place' a b =
    (a.numbers ∙ sym b.numbers, a.stretch ∙ sym b.stretch, a.places ∙ sym b.places)

-- `espandim_write`
pub writings_equal : (a : Answer Refusal (List ℕ)) (before after after' : List ℕ) (number other count count' : ℕ)
    → Writes a before number after count → Writes a before other after' count'
    → (number ≡ other) × (after ≡ after') × (count ≡ count')
writings_equal a before after after' number other count count' w v =
    (w.numbers ∙ sym v.numbers, w.leaves ∙ sym v.leaves, w.counts ∙ sym v.counts)
