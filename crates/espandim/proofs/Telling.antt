-- What an exported function tells, from what the function below it told, over plain variables.
use mathlib.Core.Path.{◌≡◌, refl, ◌∙◌, sym, ap}
use mathlib.Core.List.{List}
use Prim.Native.Nat.{ℕ, ◌≤◌}
use Rattle.std.specs.Prelude.{Result, Ok, Err}
use Rattle.characters.specs.Answers.{Answer}
use Rattle.groups.specs.Place.{judgement, place_told}
use Rattle.groups.proofs.Laws.Unknown.{judging_no_mode}
use Rattle.groups.proofs.Laws.Place.{others_told}
use Rattle.groups.specs.Numbers.{number_of, number_of_writing}
use Rattle.groups.specs.Writing.{count_of, Wrote}
use Rattle.groups.specs.declared.Refusal.{Refusal}
use Rattle.groups.specs.declared.Refusal.TheVariants.{ModeUnknown}
use Rattle.groups.specs.declared.Fields.{Fields}
use Rattle.groups.specs.declared.Fault.{Fault}
use Rattle.std.specs.Result.{result_unwrap_or}
use Rattle.station.specs.Numbers as station
use Rattle.station.specs.Memory.{Memory, station_in}
use Rattle.station.specs.CallContracts.{called_as, Serves as Served}
use Rattle.station.specs.History.{Call, next, gets}
use Rattle.station.proofs.Laws.Refusals.{serves_round}
use Rattle.station.specs.declared.Refusal as reasons
use Rattle.station.specs.Rounds.{counts_of}
use Rattle.station.specs.Records.{Called, Rounded}
use Rattle.espandim.specs.Calls.{Calls, Serves}
use Rattle.espandim.specs.OneGroup.{stretches_of, Judges, Writes}

-- an opening or a delivery tells in C the number of its reply, and leaves the same station
pub call_told : (m n : Memory) (reply : Result (Unit {0}) reasons.Refusal) (number : ℕ) → number ≡ station.number_of reply → (c : Call) (a : Called)
    → (next (station_in m) c ≡ a.station) × ((gets (station_in m) c).number ≡ station.number_of a.reply)
    → called_as (station_in n) reply ≡ a → Calls m c number n
call_told m n reply number h c a (station_is, number_is) e =
    record {
      returns = h ∙ ap (λ (d : Called). station.number_of d.reply) e ∙ sym number_is;
      leaves = ap (λ (d : Called). d.station) e ∙ sym station_is;
    }

-- and a round the counts of its turns, or zeros
pub round_told : (m n : Memory) (sheet sheet' counts : List ℕ) (told : Result (List ℕ) reasons.Refusal) (number : ℕ)
    → Served m sheet told n sheet' → number ≡ station.number_of told → counts ≡ counts_of told
    → Serves m sheet number n sheet' counts
round_told m n sheet sheet' counts told number d h k =
    let (station_is, number_is, sheet_is, counts_are) = serves_round (station_in m) sheet in
    record {
      calls = record {
        returns = h ∙ ap (λ (r : Rounded). station.number_of r.told) d.results ∙ sym number_is;
        leaves = ap (λ (r : Rounded). r.station) d.results ∙ sym station_is;
      };
      sheet_is = d.leaves ∙ sym sheet_is;
      counts_are = k ∙ ap (λ (r : Rounded). counts_of r.told) d.results ∙ sym counts_are;
    }

-- a judging tells in C the number, the stretches and the place of a judgement
pub judges : (j k : Result Fields Fault) (n : ℕ) (stretches : List ℕ) (place : ℕ) → j ≡ k → n ≡ number_of j
    → stretches ≡ stretches_of j → place ≡ place_told j → Judges k n stretches place
judges j k n stretches place e h s p =
    record {
      numbers = h ∙ ap number_of e;
      stretch = s ∙ ap stretches_of e;
      places = p ∙ ap place_told e;
    }

-- what is told of any content in a mode that there is not
pub no_mode : (mode : ℕ) → 3 ≤ mode → (content : List ℕ)
    → Err (record { refusal = ModeUnknown; place = 0 }) ≡ judgement mode content
no_mode mode h content =
    let a = judging_no_mode mode h content in
    rw (a, others_told mode content (rw a tt) (rw a tt))

-- a writing is also that of an equal answer
pub wrote_for : (a b : Answer Refusal (List ℕ)) (before after : List ℕ) (r : Result ℕ Refusal) → a ≡ b → Wrote b before r after
    → Wrote a before r after
wrote_for a b before after r e w = rw e w

-- a writing tells in C its number, and the count or 0
pub writes : (a : Answer Refusal (List ℕ)) (before after : List ℕ) (r : Result ℕ Refusal) (n count : ℕ) → Wrote a before r after
    → n ≡ number_of_writing r → count ≡ result_unwrap_or r 0 → Writes a before n after count
writes a before after r n count w h k =
    record {
      numbers = h ∙ ap number_of_writing w.tells;
      leaves = w.leaves;
      counts = k ∙ counted r ∙ ap count_of w.tells;
    }
  where
    counted : (r : Result ℕ Refusal) → result_unwrap_or r 0 ≡ count_of r
    counted (Ok count) = refl
    counted (Err refusal) = refl
