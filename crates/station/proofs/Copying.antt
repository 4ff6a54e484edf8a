-- Bytes copied to a place, one by one, and copies behind each other.
use mathlib.Core.Path.{◌≡◌, ap, sym, ◌∙◌}
use mathlib.Core.List.{List, ◌++◌, append_assoc}
use Prim.Native.Nat.{ℕ, ◌+◌, ◌≤◌, ◌<◌}
use native.Mathlib.Numerals.{add-one}
use native.Mathlib.Omega.{arith}
use lib.ListN.{length, take, drop, get_or, set, length-append}
use lib.Seq.{
  paste,
  paste-suc,
  take-length,
  take-append_seam,
  drop-append-add,
  drop-drop,
  length-take-le,
}
use Rattle.station.specs.Lines.{over}

-- one byte more
pub copy_more : (target now bytes : List ℕ) (at i : ℕ) → now ≡ paste target at bytes i
    → at + length bytes ≤ length target → i < length bytes
    → set now (at + i) (get_or bytes i 0) ≡ paste target at bytes (i + 1)
copy_more target now bytes at i e h k = rw (e, add-one i) (paste-suc target at bytes i 0 (omega arith) k)

-- all of them
pub copy_done : (target now bytes : List ℕ) (at i : ℕ) → now ≡ paste target at bytes i → i ≤ length bytes
    → length bytes ≤ i → now ≡ paste target at bytes (length bytes)
copy_done target now bytes at i e h k = let z : length bytes ≡ i = omega arith in rw z e

-- a copy behind what is laid over the front
pub paste_over : (front all bytes : List ℕ) (n : ℕ) → length front ≡ n → n + length bytes ≤ length all
    → paste (over front all) n bytes (length bytes) ≡ over (front ++ bytes) all
paste_over front all bytes n e k =
    let z : length (front ++ bytes) ≡ length front + length bytes = length-append front bytes in
    rw (
      ← e,
      take-append_seam front (drop (length front) all),
      take-length bytes,
      drop-append-add front (drop (length front) all) (length bytes),
      drop-drop (length bytes) (length front) all,
      z,
    )

-- a copy at a place is laid over the front with what stands before the place
pub paste_is_over : (all bytes : List ℕ) (at : ℕ) → at ≤ length all
    → paste all at bytes (length bytes) ≡ over (take at all ++ bytes) all
paste_is_over all bytes at h =
    let z : length (take at all ++ bytes) ≡ at + length bytes = length-append (take at all) bytes
    ∙ ap (λ (k : ℕ). k + length bytes) (length-take-le at all h) in
    rw (take-length bytes, z)

-- a copy behind a copy is one copy
pub paste_two : (all first second x y : List ℕ) (at n : ℕ) → n ≡ at + length first → n + length second ≤ length all
    → x ≡ paste all at first (length first) → y ≡ paste x n second (length second)
    → y ≡ paste all at (first ++ second) (length (first ++ second))
paste_two all first second x y at n e h p q =
    let z : length (take at all ++ first) ≡ n = length-append (take at all) first
    ∙ ap (λ (k : ℕ). k + length first) (length-take-le at all (omega arith)) ∙ sym e in
    let o : x ≡ over (take at all ++ first) all = p ∙ paste_is_over all first at (omega arith) in
    let i : paste x n second (length second) ≡ over (take at all ++ first ++ second) all =
    rw o (paste_over (take at all ++ first) all second n z h) in
    let j : over (take at all ++ first ++ second) all ≡ paste all at (first ++ second) (length (first ++ second)) =
    rw (append_assoc (take at all) first second) (sym (paste_is_over all (first ++ second) at (omega arith))) in
    q ∙ i ∙ j
