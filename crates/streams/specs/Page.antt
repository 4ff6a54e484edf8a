-- What waits on a page of 4,096 bytes. Assumes nothing.
use Rattle.std.specs.Prelude.{ℕ, ◌+◌, List, [], ◌∷◌, ◌++◌, length, nat_le, cond}

-- once there is room for so many bytes more: where they don't fit behind those that wait, these are written
abbrev pub with_room : List ℕ → ℕ → List ℕ
with_room waiting count = cond (nat_le (length waiting + count) 4096) waiting []

-- with a byte behind those that wait
abbrev pub with_byte : List ℕ → ℕ → List ℕ
with_byte waiting byte = with_room waiting 1 ++ byte ∷ []

-- with each of these, one after the other
abbrev pub with_bytes : List ℕ → List ℕ → List ℕ
with_bytes waiting [] = waiting
with_bytes waiting (byte ∷ bytes) = with_bytes (with_byte waiting byte) bytes
