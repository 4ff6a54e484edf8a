-- What document 02 speaks of in M-101: "h and e mean winter and summer time from a clock in degraded mode. They are right
-- wherever H and E are right, in reader and writer, and stay wrong for DPM and FPM." `Promises.antt` says that it is so.
use Rattle.std.specs.Prelude.{Bool, List, [], ◌∷◌, ◌++◌, ℕ, ◌+◌, ◌%◌}
use Rattle.characters.specs.Wire.{HT}
use Rattle.groups.specs.Table.{codes}
use Rattle.groups.specs.Groups.{total}
use Rattle.groups.specs.Listed.{words, is_among}

-- "winter and summer time"
pub data Season : Type 0 where
  winter summer : Season

-- "H and E"
abbrev pub letter_of : Season → ℕ
letter_of winter = 0x48
letter_of summer = 0x45

-- "h and e .. from a clock in degraded mode"
abbrev pub degraded : Season → ℕ
degraded winter = 0x68
degraded summer = 0x65

-- "DPM and FPM": start and end of a moving peak
abbrev pub peaks : List (List ℕ)
peaks = words (codes "DPM1 DPM2 DPM3 FPM1 FPM2 FPM3")

abbrev pub is_peak : List ℕ → Bool
is_peak label = is_among peaks label

-- a content of standard mode, by all that stands before its final separator, with its right check character: "add the
-- character codes, take the remainder by 64, add 32", the final separator "counted too"
abbrev pub closed : List ℕ → List ℕ
closed front = front ++ HT ∷ (total (front ++ HT ∷ []) % 64 + 32) ∷ []
