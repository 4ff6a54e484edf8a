-- Two answers which one contract of the station's three calls allows are equal: what is
-- returned, and every number and byte of what was lent. The contract of any other public function, here and below, is
-- one equation with a definition of its arguments (`results_equal`), or two of them in a record: `part` of groups, which
-- hands back a place in the caller's memory, and `write` of groups and `feed` of line, which change lent bytes.
use Rattle.std.specs.Prelude.{◌≡◌, List, ℕ, Result}
use Rattle.std.proofs.Common.{sym, ap, ◌∙◌}
use Rattle.std.specs.Borrow.{Bor}
use Rattle.characters.specs.Answers.{Answer}
use Rattle.groups.specs.Judging.{Part}
use Rattle.groups.specs.Writing.{Wrote}
use Rattle.groups.specs.declared.Refusal as groups
use Rattle.groups.specs.declared.Stretch.{Stretch}
use Rattle.line.specs.Steps.{FedTo, Fed}
use Rattle.line.specs.declared.Taken.{Taken}
use Rattle.station.specs.Records.{Called, Rounded}
use Rattle.station.specs.Memory.{Memory, station_in, Sized}
use Rattle.station.specs.CallContracts.{called_as, Opens, Delivers, Serves}
use Rattle.station.proofs.Fixed.{fixed}
use Rattle.station.specs.declared.Refusal.{Refusal}

-- ---- Two answers that one contract allows are equal

pub results_equal : {A : Type 0} (definition result other : A) → result ≡ definition → other ≡ definition
    → result ≡ other
results_equal definition result other e h = e ∙ sym h

pub parts_equal : (s : Stretch) (content part other : Bor (List ℕ)) → Part s content part → Part s content other
    → (part.ref_ptr ≡ other.ref_ptr) × (part.now ≡ other.now)
parts_equal s content part other p q = (p.lies ∙ sym q.lies, p.bytes ∙ sym q.bytes)

pub writings_equal : (a : Answer groups.Refusal (List ℕ)) (before after after' : List ℕ) (result other : Result ℕ groups.Refusal)
    → Wrote a before result after → Wrote a before other after' → (result ≡ other) × (after ≡ after')
writings_equal a before after after' result other w v = (w.tells ∙ sym v.tells, w.leaves ∙ sym v.leaves)

pub feedings_equal : (a : FedTo) (content content' : List ℕ) (result other : Taken) → Fed a result content
    → Fed a other content' → (result ≡ other) × (content ≡ content')
feedings_equal a content content' result other w v = (w.results ∙ sym v.results, w.leaves ∙ sym v.leaves)

-- an opening or a delivery: the memory afterwards has the sizes that its types give
called_equal : (a : Called) (n n' : Memory) (reply other : Result (Unit {0}) Refusal) → Sized n → Sized n'
    → called_as (station_in n) reply ≡ a → called_as (station_in n') other ≡ a → (reply ≡ other) × (n ≡ n')
called_equal a n n' reply other y z e h =
    let same = e ∙ sym h in
    (ap (λ (c : Called). c.reply) same, fixed n n' y z (ap (λ (c : Called). c.station) same))

pub openings_equal : (m n n' : Memory) (line mode : ℕ) (reply other : Result (Unit {0}) Refusal) → Sized n → Sized n'
    → Opens m line mode reply n → Opens m line mode other n' → (reply ≡ other) × (n ≡ n')
openings_equal m n n' line mode reply other y z e h = called_equal _ n n' reply other y z e h

pub deliveries_equal : (m n n' : Memory) (line : ℕ) (bytes : List ℕ) (reply other : Result (Unit {0}) Refusal) → Sized n → Sized n'
    → Delivers m line bytes reply n → Delivers m line bytes other n' → (reply ≡ other) × (n ≡ n')
deliveries_equal m n n' line bytes reply other y z e h = called_equal _ n n' reply other y z e h

pub rounds_equal : (m n n' : Memory) (sheet after after' : List ℕ) (told other : Result (List ℕ) Refusal) → Sized n → Sized n'
    → Serves m sheet told n after → Serves m sheet other n' after'
    → (told ≡ other) × (n ≡ n') × (after ≡ after')
rounds_equal m n n' sheet after after' told other y z w v =
    let same = w.results ∙ sym v.results in (
      ap (λ (r : Rounded). r.told) same,
      fixed n n' y z (ap (λ (r : Rounded). r.station) same),
      w.leaves ∙ sym v.leaves,
    )
