-- How long what waits on a page is once an array was laid where there was room for it.
use Rattle.std.proofs.Common.{rules, ◌≡◌, List, ℕ, ◌+◌, ◌≤◌, length, arith, length-append, Result, Ok, Err, OnOk, OnErr, ap}
use Rattle.streams.specs.Page.{with_bytes, with_room}
use Rattle.streams.proofs.Fitting.{all_fit}

-- nothing is written to make room that there is
room_stays : (waiting : List ℕ) (n : ℕ) → length waiting + n ≤ 4096 → with_room waiting n ≡ waiting
room_stays waiting n room = search rules

-- just the array waits behind what waited
pub array_behind : (waiting bytes after : List ℕ) (n : ℕ) → after ≡ with_bytes (with_room waiting n) bytes → length bytes ≡ n
    → length waiting + n ≤ 4096 → length after ≡ length waiting + n
array_behind waiting bytes after n laid e room =
    rw (laid, room_stays waiting n room, all_fit waiting bytes (omega (arith, e)), length-append waiting bytes) (omega (arith, e))

-- so much on Ok, and nothing new on Err, is at most so much
pub at_most : {T E : Type 0} (r : Result T E) (before after : List ℕ) (n : ℕ) → OnOk r (length after ≡ length before + n)
    → OnErr r (after ≡ before) → length after ≤ length before + n
at_most (Ok v) before after n ok err = omega (arith, ok)
at_most (Err x) before after n ok err = omega (arith, ap length err)
