-- `put_hex`: laying the bytes that are left on what waits now is laying the field on what waited first.
use Rattle.std.proofs.Common.{◌≡◌, ◌∷◌, drop}
use Rattle.streams.specs.Page.{with_bytes}
use Rattle.replay.specs.Hex.{in_hex}
use Rattle.replay.proofs.hex.put_hex.Given as goal

abbrev pub invariant-loop-byte : goal.invariant-loop-byte
invariant-loop-byte l = with_bytes l.page (in_hex (drop l.byte-index l.bytes)) ≡ with_bytes l.fn.page (32 ∷ in_hex l.bytes)
