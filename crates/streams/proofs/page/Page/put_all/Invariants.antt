-- `put_all`: laying the bytes that are left on what waits now is laying all of them on what waited first.
use Rattle.std.proofs.Common.{◌≡◌, drop}
use Rattle.streams.specs.Page.{with_bytes}
use Rattle.streams.proofs.page.Page.put_all.Given as goal

abbrev pub invariant-loop-byte : goal.invariant-loop-byte
invariant-loop-byte l = with_bytes l.self (drop l.byte-index l.bytes) ≡ with_bytes l.fn.self l.bytes
