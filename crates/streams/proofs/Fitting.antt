-- Bytes that fit behind those that wait.
use Rattle.std.proofs.Common.{rules, refl, ◌≡◌, sym, ◌∙◌, List, ℕ, [], ◌∷◌, ◌++◌, ◌+◌, ◌≤◌, length, take, arith, append_assoc, length-append}
use Rattle.std.proofs.lemmas.Slice.{take-put_mid}
use borrow.Rule.Slice.PartMut.{put_mid}
use Rattle.streams.specs.Page.{with_bytes, with_byte, with_room}

-- a byte for which there is room
one_fits : (waiting : List ℕ) (byte : ℕ) → length waiting + 1 ≤ 4096 → with_byte waiting byte ≡ waiting ++ byte ∷ []
one_fits waiting byte room = search rules

-- none of those that wait is written first
pub all_fit : (waiting bytes : List ℕ) → length waiting + length bytes ≤ 4096 → with_bytes waiting bytes ≡ waiting ++ bytes
all_fit waiting [] room = search rules
all_fit waiting (byte ∷ bytes) room =
    let less : length waiting + 1 + length bytes ≤ 4096 = omega (arith, room) in
    let one : with_byte waiting byte ≡ waiting ++ byte ∷ [] = one_fits waiting byte (omega (arith, room)) in
    let rest : with_bytes (waiting ++ byte ∷ []) bytes ≡ (waiting ++ byte ∷ []) ++ bytes
    = all_fit (waiting ++ byte ∷ []) bytes (simp length-append less) in
    rw one (rest ∙ append_assoc waiting (byte ∷ []) bytes)

-- once room was made, there is room
pub room_made : (waiting : List ℕ) (count : ℕ) → count ≤ 4096 → length (with_room waiting count) + count ≤ 4096
room_made waiting count short = search rules

-- as the code lays them, on a page of which the first `end` bytes wait
pub laid_at_once : (page waiting bytes : List ℕ) (end n : ℕ) → take end page ≡ waiting → length waiting + length bytes ≤ 4096 → end ≤ length page
    → take (end + length bytes) (put_mid end n page bytes) ≡ with_bytes waiting bytes
laid_at_once page waiting bytes end n waits room inside =
    take-put_mid end n page bytes _ refl inside
    ∙ rw waits (sym (all_fit waiting bytes room))
