-- The station's calls as a caller in C makes them: line and mode are numbers of any size, the answer is document 01's
-- number, and the station lies in the caller's memory. Each is the very call of the station's `History.antt`, of which its
-- demands are.
use Rattle.std.specs.Prelude.{◌≡◌, List, [], ◌∷◌, ℕ}
use Rattle.station.specs.Memory.{Memory, station_in}
use Rattle.station.specs.History.{Call, opens, delivers, serves, Got, next, gets}

-- what a call returns, and the memory afterwards, are those of the call: the contracts of `espandim_rows_open` and
-- `espandim_rows_deliver`. "Opening: 16, 19. Delivery: 16, 17, 15."
pub record Calls (m : Memory) (c : Call) (number : ℕ) (n : Memory) : Type 0 where
  pub returns : number ≡ (gets (station_in m) c).number
  pub leaves : station_in n ≡ next (station_in m) c

-- so are the sheet and the counts of a round: the contract of `espandim_rows_round`. "Round: 18."
pub record Serves (m : Memory) (sheet : List ℕ) (number : ℕ) (n : Memory) (sheet' counts : List ℕ) : Type 0 where
  pub calls : Calls m (serves sheet) number n
  pub sheet_is : sheet' ≡ (gets (station_in m) (serves sheet)).lent
  pub counts_are : counts ≡ (gets (station_in m) (serves sheet)).counts

-- calls one after the other, from one memory to another, each as its contract allows, and what their callers got of them:
-- the number, the counts of a round, and the lent bytes afterwards
pub data Made : Memory → List Call → List Got → Memory → Type 0 where
  no_call : {m : Memory} → Made m [] [] m
  opened : {m n o : Memory} {cs : List Call} {gots : List Got} (line mode number : ℕ)
      → Calls m (opens line mode) number n → Made n cs gots o
      → Made m (opens line mode ∷ cs) (record { number = number; counts = []; lent = [] } ∷ gots) o
  delivered : {m n o : Memory} {cs : List Call} {gots : List Got} (line : ℕ) (bytes : List ℕ) (number : ℕ)
      → Calls m (delivers line bytes) number n → Made n cs gots o
      → Made m (delivers line bytes ∷ cs) (record { number = number; counts = []; lent = bytes } ∷ gots) o
  served : {m n o : Memory} {cs : List Call} {gots : List Got} (sheet sheet' counts : List ℕ) (number : ℕ)
      → Serves m sheet number n sheet' counts → Made n cs gots o
      → Made m (serves sheet ∷ cs) (record { number = number; counts = counts; lent = sheet' } ∷ gots) o
