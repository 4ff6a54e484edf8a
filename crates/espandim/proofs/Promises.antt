-- What is promised at the boundary, beside the contracts. A refused call changes nothing in the caller's memory. No
-- number is cut to a byte: a line or a mode that there is not is refused as document 01's table says, however large it
-- is. And calls through `espandim.h`, one after the other, are the calls of which the station's demands are.
use Rattle.std.specs.Prelude.{◌≡◌, refl, ◌≢◌, List, [], ◌∷◌, ℕ, ◌≤◌, ◌<◌, length, replicate}
use Rattle.std.proofs.Common.{sym, ap, ap₂, ◌∙◌}
use Rattle.groups.specs.Groups.{Group}
use Rattle.groups.specs.Judging.{shown}
use Rattle.groups.specs.Place.{place_of, judgement}
use Rattle.groups.proofs.Promises as groups
use Rattle.groups.specs.Numbers.{number_of, number_of_writing}
use Rattle.groups.specs.Writing.{writing, told, count_of, left}
use Rattle.groups.proofs.Laws.Unknown.{judging_no_mode, writing_no_mode}
use Rattle.station.specs.Memory.{Memory, station_in, zeros, Sized}
use Rattle.station.proofs.Fixed.{fixed, zeros_closed}
use Rattle.station.specs.Stations.{called}
use Rattle.station.specs.Numbers as station
use Rattle.station.specs.Sheets.{smallest_sheet}
use Rattle.station.specs.Reading.{read_turn}
use Rattle.station.specs.History.{
  Call,
  opens,
  delivers,
  serves,
  Got,
  gets,
  run,
  gots_of,
  account_by,
  account_of,
  answers_behind_by,
  answers_behind,
}
use Rattle.station.specs.Due.{number_due, turn_due}
use Rattle.station.proofs.Demands as demands
use Rattle.station.proofs.Laws.Refusals as refusals
use Rattle.station.specs.Records.{Station}
use Rattle.espandim.specs.Calls.{Calls, Serves, Made, no_call, opened, delivered, served}
use Rattle.espandim.specs.OneGroup.{stretches_of}

-- ---- "A refused call changes no line and no lent byte."

-- every number and byte of the memory is as it was
pub refused_keeps : (m n : Memory) (c : Call) (number : ℕ) → Sized m → Sized n → Calls m c number n → number ≢ 0
    → n ≡ m
refused_keeps m n c number y z a h =
    let (same, _, _) = demands.refused_changes_nothing (station_in m) c (λ e. h (a.returns ∙ e)) in
    fixed n m z y (a.leaves ∙ same)

-- so is every byte of the sheet; "A refused round gives eight zero counts."
pub refused_round : (m n : Memory) (sheet sheet' counts : List ℕ) (number : ℕ) → Sized m → Sized n
    → Serves m sheet number n sheet' counts → number ≢ 0 → (n ≡ m) × (sheet' ≡ sheet) × (counts ≡ replicate 8 0)
refused_round m n sheet sheet' counts number y z a h =
    let (_, lent, none) = demands.refused_changes_nothing (station_in m) (serves sheet) (λ e. h (a.calls.returns ∙ e)) in
    (refused_keeps m n (serves sheet) number y z a.calls h, a.sheet_is ∙ lent, a.counts_are ∙ none)

-- ---- No number is cut, and a short sheet is refused

module _ (s : Station) (line : ℕ) where
  -- "16: line number 8 or more"
  pub open_no_line : (mode : ℕ) → 8 ≤ line → (gets s (opens line mode)).number ≡ 16
  open_no_line mode h =
      (refusals.opens_called s line mode).1
      ∙ ap (λ a. station.number_of (called s a).reply) (refusals.opening_no_line s line mode h)

  pub deliver_no_line : (bytes : List ℕ) → 8 ≤ line → (gets s (delivers line bytes)).number ≡ 16
  deliver_no_line bytes h =
      (refusals.delivers_called s line bytes).1
      ∙ ap (λ a. station.number_of (called s a).reply) (refusals.delivering_no_line s line bytes h)

  -- "19 now means a mode not 0 to 2"
  pub open_no_mode : (mode : ℕ) → line < 8 → 3 ≤ mode → (gets s (opens line mode)).number ≡ 19
  open_no_mode mode h k =
      (refusals.opens_called s line mode).1
      ∙ ap (λ a. station.number_of (called s a).reply) (refusals.opening_no_mode s line mode h k)

-- "18: sheet under 1,096 bytes" (document 02, M-108)
pub round_no_sheet : (s : Station) (sheet : List ℕ) → length sheet < smallest_sheet
    → (gets s (serves sheet)).number ≡ 18
round_no_sheet s sheet h = rw ((refusals.serves_round s sheet).1, refusals.turns_no_sheet s sheet h)

-- "Refused judging shows three empty stretches"; 19 has no place
pub judge_no_mode : (mode : ℕ) (content : List ℕ) → 3 ≤ mode
    → (number_of (judgement mode content) ≡ 19)
    × (stretches_of (judgement mode content) ≡ 0 ∷ 0 ∷ 0 ∷ 0 ∷ 0 ∷ 0 ∷ [])
    × (place_of mode content ≡ 0)
judge_no_mode mode content h =
    let a = judging_no_mode mode h content in
    let e = ap (λ a. shown a (place_of mode content)) a in
    (ap number_of e, ap stretches_of e, groups.other_place mode content (rw a tt) (rw a tt))

-- "Every refused writing changes no lent byte."
pub write_no_mode : (mode : ℕ) (g : Group) (buffer : List ℕ) (room : ℕ) → 3 ≤ mode
    → (number_of_writing (told (writing mode g room)) ≡ 19)
    × (count_of (told (writing mode g room)) ≡ 0)
    × (left (writing mode g room) buffer ≡ buffer)
write_no_mode mode g buffer room h =
    let e = writing_no_mode mode h g room in
    (ap (λ a. number_of_writing (told a)) e, ap (λ a. count_of (told a)) e, ap (λ a. left a buffer) e)

-- ---- Calls one after the other

-- Calls through `espandim.h` leave the station of the same calls in the station's demands.
pub same_station : {m n : Memory} {cs : List Call} {gots : List Got} → Made m cs gots n
    → station_in n ≡ run (station_in m) cs
same_station no_call = refl
same_station (opened {cs = cs} line mode number a made) =
    same_station made ∙ ap (λ (s : Station). run s cs) a.leaves
same_station (delivered {cs = cs} line bytes number a made) =
    same_station made ∙ ap (λ (s : Station). run s cs) a.leaves
same_station (served {cs = cs} sheet sheet' counts number a made) =
    same_station made ∙ ap (λ (s : Station). run s cs) a.calls.leaves

-- And their callers get what the demands speak of: every number, and a round's counts and sheet.
pub same_gots : {m n : Memory} {cs : List Call} {gots : List Got} → Made m cs gots n → gots ≡ gots_of (station_in m) cs
same_gots no_call = refl
same_gots {m = m} (opened {cs = cs} line mode number a made) =
    ap₂ (λ (g : Got) (gs : List Got). g ∷ gs) (refusals.opens_got (station_in m) line mode number a.returns)
    (same_gots made ∙ ap (λ (s : Station). gots_of s cs) a.leaves)
same_gots {m = m} (delivered {cs = cs} line bytes number a made) =
    ap₂ (λ (g : Got) (gs : List Got). g ∷ gs) (refusals.delivers_got (station_in m) line bytes number a.returns)
    (same_gots made ∙ ap (λ (s : Station). gots_of s cs) a.leaves)
same_gots {m = m} (served {cs = cs} sheet sheet' counts number a made) =
    ap₂ (λ (g : Got) (gs : List Got). g ∷ gs)
    (rw (a.calls.returns, a.counts_are, a.sheet_is))
    (same_gots made ∙ ap (λ (s : Station). gots_of s cs) a.calls.leaves)

-- So from memory of zeros every demand holds of what a caller in C sees: the account of a line that is made of what came
-- back through `espandim.h` is the one of which the demands are.
pub same_account : {m : Memory} {cs : List Call} {gots : List Got} (i : ℕ) → Made zeros cs gots m
    → account_by i cs gots ≡ account_of i cs
same_account {cs = cs} i made =
    ap (account_by i cs) (same_gots made ∙ ap (λ (s : Station). gots_of s cs) zeros_closed)

-- And so are the answers to its bytes behind the first k, of which document 02's M-113 is.
pub same_behind : {m : Memory} {cs : List Call} {gots : List Got} (k i : ℕ) → Made zeros cs gots m
    → answers_behind_by k i cs gots ≡ answers_behind k i cs
same_behind {cs = cs} k i made =
    ap (answers_behind_by k i cs) (same_gots made ∙ ap (λ (s : Station). gots_of s cs) zeros_closed)

-- Such as: whatever was called, the next call returns the number that document 01 gives it.
pub numbers_due : {m n : Memory} {cs : List Call} {gots : List Got} (c : Call) (number : ℕ) → Made zeros cs gots m
    → Calls m c number n → number ≡ number_due cs c
numbers_due {cs = cs} c number made a =
    a.returns
    ∙ ap (λ (s : Station). (gets s c).number) (same_station made ∙ ap (λ (s : Station). run s cs) zeros_closed)
    ∙ demands.numbers_due cs c

-- And: a round's sheet tells of each line exactly the bytes up to and including the first of the oldest 64 that gives an
-- answer.
pub counts_right : {m n : Memory} {cs : List Call} {gots : List Got} (i : ℕ) (sheet sheet' counts : List ℕ) (number : ℕ)
    → i < 8 → 1096 ≤ length sheet → Made zeros cs gots m → Serves m sheet number n sheet' counts
    → read_turn sheet' i ≡ turn_due 64 (account_by i cs gots)
counts_right {cs = cs} i sheet sheet' counts number h t made a =
    let e = same_station made ∙ ap (λ (s : Station). run s cs) zeros_closed in
    ap (λ (l : List ℕ). read_turn l i) (a.sheet_is ∙ ap (λ (s : Station). (gets s (serves sheet)).lent) e)
    ∙ demands.counts_right i cs sheet h t ∙ ap (turn_due 64) (sym (same_account i made))

-- The same calls from the same memory return the same, and leave the same memory in every number and byte.
pub same_memory : {m n n' : Memory} {cs : List Call} {gots gots' : List Got} → Sized n → Sized n'
    → Made m cs gots n → Made m cs gots' n' → (gots ≡ gots') × (n ≡ n')
same_memory {n = n} {n' = n'} y z made made' =
    (same_gots made ∙ sym (same_gots made'), fixed n n' y z (same_station made ∙ sym (same_station made')))
